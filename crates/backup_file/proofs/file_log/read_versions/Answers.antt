use Rattle.std.proofs.Common.{◌-◌, [], ap, inl, refl, subst, sym, drop, length, arith, length-drop}
use Rattle.std.proofs.lemmas.List.{take_all}
use Rattle.backup_file.specs.Lists.{is_known, lists_behind}
use Rattle.backup_file.specs.ReadLogs.{IsEnd, IsReadAll, IsReadFirst}
use Rattle.backup_file.specs.File.{HasSlots, IsBad}
use Rattle.backup_file.proofs.Compacts.{led_lists}
use Rattle.backup_file.proofs.ReadVersions.{front_bad, read_first, room_there, slots_there}
use Rattle.backup_file.proofs.lemmas.Meaning.{slots_named}
use Rattle.backup_file.proofs.file_log.read_versions.Goals as goal

pub returns-then-not-has_name-clause-bad : goal.returns-then-not-has_name-clause-bad
returns-then-not-has_name-clause-bad c = inl (
  record {
    long = c.requires.long;
    broken = inl (λ named. let yes = c.has_name.ensures.1 named in let no = c.if-not-has_name.true in cc, refl);
  },
  λ s has. let yes = c.has_name.ensures.1 (slots_named c.args.bytes.now 0 s has) in let no = c.if-not-has_name.true in cc,
)

pub read_on-requires-clause-units : goal.read_on-requires-clause-units
read_on-requires-clause-units c = λ u. ap (is_known u) c.new-2.ensures.empty

pub found_at-requires-clause-lists : goal.found_at-requires-clause-lists
found_at-requires-clause-lists c =
    let records = c.read_on.new.so_far.records.items in
    led_lists [] 150 records (lists_behind records) c.in-Ok.ensures.read.so_far.leads

pub found_at-requires-clause-read : goal.found_at-requires-clause-read
found_at-requires-clause-read c = λ is_compact counted uncounted.
    let bytes = c.args.bytes.now in
    let rest = c.in-Ok.rest.now in
    let records = c.read_on.new.so_far.records.items in
    let all = subst (λ b. IsReadAll 150 b rest records) (take_all (length bytes - 8) (drop 8 bytes) (omega (arith, length-drop 8 bytes)))
    c.in-Ok.ensures.read in
    subst (λ n. IsReadFirst bytes n (lists_behind records)) (sym c.offset_of-at.ensures)
    (read_first bytes rest records (c.has_name.ensures.0 c.if-not-has_name.false) all (subst (λ b. IsEnd b rest) c.if-is_shut.true c.is_shut.ensures))

pub read_in_force-requires-clause-has : goal.read_in_force-requires-clause-has
read_in_force-requires-clause-has c =
    let bytes = c.args.bytes.now in
    let rest = c.in-Ok.rest.now in
    let records = c.read_on.new.so_far.records.items in
    let all = subst (λ b. IsReadAll 150 b rest records) (take_all (length bytes - 8) (drop 8 bytes) (omega (arith, length-drop 8 bytes)))
    c.in-Ok.ensures.read in
    subst (λ n. HasSlots bytes n c.in-Some.slots) (sym c.offset_of-at.ensures)
    (slots_there bytes rest records (c.has_name.ensures.0 c.if-not-has_name.false) all c.in-Some.slots c.in-Some.ensures.some)

pub read_in_force-requires-clause-room : goal.read_in_force-requires-clause-room
read_in_force-requires-clause-room c =
    let bytes = c.args.bytes.now in
    let rest = c.in-Ok.rest.now in
    let records = c.read_on.new.so_far.records.items in
    let all = subst (λ b. IsReadAll 150 b rest records) (take_all (length bytes - 8) (drop 8 bytes) (omega (arith, length-drop 8 bytes)))
    c.in-Ok.ensures.read in
    let room = room_there bytes rest records (c.has_name.ensures.0 c.if-not-has_name.false) all c.in-Some.slots c.in-Some.ensures.some in
    omega (arith, c.offset_of-at.ensures, room)

pub returns-in-None-clause-bad : goal.returns-in-None-clause-bad
returns-in-None-clause-bad c =
    let bytes = c.args.bytes.now in
    let rest = c.in-Ok.rest.now in
    let records = c.read_on.new.so_far.records.items in
    let all = subst (λ b. IsReadAll 150 b rest records) (take_all (length bytes - 8) (drop 8 bytes) (omega (arith, length-drop 8 bytes)))
    c.in-Ok.ensures.read in
    subst (IsBad bytes) (sym c.offset_of-at.ensures)
    (front_bad bytes rest records (c.has_name.ensures.0 c.if-not-has_name.false) all c.requires.long
    (subst (λ b. IsEnd b rest) c.if-is_shut.false c.is_shut.ensures) c.in-None.ensures.none)
