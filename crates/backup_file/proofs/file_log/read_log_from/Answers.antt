use Rattle.std.proofs.Common.{◌-◌, [], ap, subst, sym, drop, length, refl, arith, length-drop}
use Rattle.std.proofs.lemmas.List.{take_all}
use Rattle.backup_file.specs.Lists.{is_known, lists_behind}
use Rattle.backup_file.specs.ReadLogs.{IsEnd, IsReadAll, IsReadBehind}
use Rattle.backup_file.specs.File.{IsBad}
use Rattle.backup_file.proofs.Compacts.{led_lists}
use Rattle.backup_file.proofs.ReadVersions.{log_bad, read_behind}
use Rattle.backup_file.proofs.file_log.read_log_from.Goals as goal

pub read_on-requires-clause-units : goal.read_on-requires-clause-units
read_on-requires-clause-units c = λ u. ap (is_known u) c.new-2.ensures.empty

pub found_at-requires-clause-lists : goal.found_at-requires-clause-lists
found_at-requires-clause-lists c =
    let records = c.read_on.new.so_far.records.items in
    led_lists [] 255 records (lists_behind records) c.in-Ok.ensures.read.so_far.leads

pub found_at-requires-clause-read : goal.found_at-requires-clause-read
found_at-requires-clause-read c = λ is_compact counted uncounted.
    let bytes = c.args.bytes.now in
    let start = c.args.start in
    let p = c.args.place.now in
    let rest = c.in-Ok.rest.now in
    let records = c.read_on.new.so_far.records.items in
    let all = subst (λ b. IsReadAll 255 b rest records) (take_all (length bytes - start) (drop start bytes) (omega (arith, length-drop start bytes)))
    c.in-Ok.ensures.read in
    subst (λ n. IsReadBehind p bytes n is_compact (lists_behind records)) (sym c.offset_of-at.ensures)
    (read_behind bytes p start c.requires.has c.requires.force c.requires.named c.requires.from c.requires.within rest records all (lists_behind records)
    is_compact refl counted uncounted (subst (λ b. IsEnd b rest) c.if-is_shut.true c.is_shut.ensures))

pub returns-clause-bad : goal.returns-clause-bad
returns-clause-bad c =
    let bytes = c.args.bytes.now in
    let start = c.args.start in
    let rest = c.in-Ok.rest.now in
    let records = c.read_on.new.so_far.records.items in
    let all = subst (λ b. IsReadAll 255 b rest records) (take_all (length bytes - start) (drop start bytes) (omega (arith, length-drop start bytes)))
    c.in-Ok.ensures.read in
    subst (IsBad bytes) (sym c.offset_of-at.ensures)
    (log_bad bytes c.args.place.now start c.requires.has c.requires.force c.requires.named c.requires.from c.requires.within rest records all
    (subst (λ b. IsEnd b rest) c.if-is_shut.false c.is_shut.ensures))
