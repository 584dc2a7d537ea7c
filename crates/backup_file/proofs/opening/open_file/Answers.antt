use Rattle.std.proofs.Common.{◌≡◌, ◌<◌, ◌≤◌, ◌∙◌, [], length, inl, inr, refl, sym, subst, arith}
use Rattle.std.proofs.lemmas.Result.{IfOk-weaker}
use Rattle.backup_file.specs.ReadLogs.{IsReadAs}
use Rattle.backup_file.specs.File.{IsBad, IsNoOlder, IsWornOut, Stands}
use Rattle.backup_file.proofs.Migrated.{cause_since, keeps_all, keeps_none, never_bad, read_second, short_stands, stands_read}
use Rattle.backup_file.proofs.Opened.{all_short, on_bad}
use Rattle.backup_file.proofs.lemmas.Meaning.{both_once, slots_long, version2_slots}
use Rattle.backup_file.proofs.opening.open_file.Goals as goal

pub returns-in_err-bytes-clause-images : goal.returns-in_err-bytes-clause-images
returns-in_err-bytes-clause-images g c = λ t.
    keeps_none (g.D.Disk.may_leave c.args.disk.now) (g.D.Disk.may_leave c.read_file.new.disk) (c.read_file.ensures.left t)

pub returns-in_err-bytes-clause-lasting : goal.returns-in_err-bytes-clause-lasting
returns-in_err-bytes-clause-lasting g c = λ t l stands image left. inl (c.read_file.ensures.left t image left)

-- ---- it is short

pub returns-then-text-le9-clause-lasting : goal.returns-then-text-le9-clause-lasting
returns-then-text-le9-clause-lasting g c = λ t l stands image left.
    let was = g.D.Disk.reads c.args.disk.now in
    let few : length c.as_slice-text.result.now ≤ 9 = omega arith in
    let short = subst (λ b. length b ≤ 9) (c.as_slice-text.ensures.value ∙ c.in_ok-bytes.ensures.value t) few in
    inr
    (subst (Stands image) (both_once was [] l (short_stands was [] short refl) stands)
    (c.open_short.ensures.images t
    (all_short was (g.D.Disk.reads c.read_file.new.disk) (g.D.Disk.may_leave c.read_file.new.disk) short (c.in_ok-bytes.ensures.same t)
    (c.in_ok-bytes.ensures.durable t)) image left))

pub returns-then-text-le9-clause-lists : goal.returns-then-text-le9-clause-lists
returns-then-text-le9-clause-lists g c = λ t.
    let was = g.D.Disk.reads c.args.disk.now in
    let few : length c.as_slice-text.result.now ≤ 9 = omega arith in
    let short = subst (λ b. length b ≤ 9) (c.as_slice-text.ensures.value ∙ c.in_ok-bytes.ensures.value t) few in
    IfOk-weaker c.open_short.result (λ f. f.lists.items ≡ _) (λ f. Stands was f.lists.items) (λ f none. short_stands was f.lists.items short none)
    c.open_short.ensures.none

pub returns-then-text-le9-clause-images : goal.returns-then-text-le9-clause-images
returns-then-text-le9-clause-images g c = λ t.
    let was = g.D.Disk.reads c.args.disk.now in
    let few : length c.as_slice-text.result.now ≤ 9 = omega arith in
    let short = subst (λ b. length b ≤ 9) (c.as_slice-text.ensures.value ∙ c.in_ok-bytes.ensures.value t) few in
    keeps_all was _ (g.D.Disk.may_leave c.args.disk.now) (g.D.Disk.may_leave c.open_short.new.disk) (g.met.D.Disk.reads_left c.args.disk.now t)
    (short_stands was _ short refl)
    (c.open_short.ensures.images t
    (all_short was (g.D.Disk.reads c.read_file.new.disk) (g.D.Disk.may_leave c.read_file.new.disk) short (c.in_ok-bytes.ensures.same t)
    (c.in_ok-bytes.ensures.durable t)))

pub returns-then-text-le9-clause-stays : goal.returns-then-text-le9-clause-stays
returns-then-text-le9-clause-stays g c = λ t l second.
    let few : length c.as_slice-text.result.now ≤ 9 = omega arith in
    let short = subst (λ b. length b ≤ 9) (c.as_slice-text.ensures.value ∙ c.in_ok-bytes.ensures.value t) few in
    let long = slots_long (g.D.Disk.reads c.args.disk.now) second.place.gate second.place.slots (version2_slots (g.D.Disk.reads c.args.disk.now) l second) in
    absurd (omega (arith, short, long))

pub returns-then-text-le9-clause-bad : goal.returns-then-text-le9-clause-bad
returns-then-text-le9-clause-bad g c = λ t. never_bad _ c.open_short.result c.open_short.ensures.not_bad

pub returns-then-text-le9-clause-cause : goal.returns-then-text-le9-clause-cause
returns-then-text-le9-clause-cause g c =
    cause_since (g.D.Disk.faults c.args.disk.now) (g.D.Disk.faults c.read_file.new.disk) (g.D.Disk.faults c.open_short.new.disk) c.open_short.result
    c.in_ok-bytes.ensures.cause.quiet c.open_short.ensures.cause

pub returns-then-text-le9-clause-anew : goal.returns-then-text-le9-clause-anew
returns-then-text-le9-clause-anew g c = λ t short. c.open_short.ensures.anew t

pub returns-then-text-le9-clause-worn : goal.returns-then-text-le9-clause-worn
returns-then-text-le9-clause-worn g c = λ t.
    let was = g.D.Disk.reads c.args.disk.now in
    let now = g.D.Disk.reads c.open_short.new.disk in
    IfOk-weaker c.open_short.result (λ _. IsWornOut now → ⊥) (λ _. IsNoOlder was now) (λ o none worn. absurd (none worn)) (c.open_short.ensures.young t)

-- ---- it is long

pub returns-in-Ok-clause-anew : goal.returns-in-Ok-clause-anew
returns-in-Ok-clause-anew g c = λ t short.
    let many : 9 < length c.as_slice-text.result.now = omega arith in
    let long = subst (λ b. 9 < length b) (c.as_slice-text.ensures.value ∙ c.in_ok-bytes.ensures.value t) many in
    absurd (omega (arith, short, long))

pub returns-in-Ok-clause-worn : goal.returns-in-Ok-clause-worn
returns-in-Ok-clause-worn g c = λ t.
    let f = c.in-Ok.found in
    let was = g.D.Disk.reads c.args.disk.now in
    let now = g.D.Disk.reads c.open_long.new.disk in
    let read = subst (λ b. IsReadAs b f.place f.gate f.compact f.lists.items)
    (c.as_slice-text.ensures.value ∙ c.in_ok-bytes.ensures.value t ∙ sym (c.in_ok-bytes.ensures.same t)) c.in-Ok.ensures.read in
    IfOk-weaker c.open_long.result (λ _. IsNoOlder (g.D.Disk.reads c.read_file.new.disk) now) (λ _. IsNoOlder was now)
    (λ o older. subst (λ b. IsNoOlder b now) (c.in_ok-bytes.ensures.same t) older)
    (c.open_long.ensures.worn t read (c.in_ok-bytes.ensures.durable t) (c.in_ok-bytes.ensures.fits t))

pub returns-in-Ok-clause-lists : goal.returns-in-Ok-clause-lists
returns-in-Ok-clause-lists g c = λ t.
    let f = c.in-Ok.found in
    let was = g.D.Disk.reads c.args.disk.now in
    let stands = subst (λ b. Stands b f.lists.items) (c.as_slice-text.ensures.value ∙ c.in_ok-bytes.ensures.value t)
    (stands_read c.as_slice-text.result.now f.place f.gate f.compact f.lists.items c.in-Ok.ensures.read) in
    IfOk-weaker c.open_long.result (λ o. o.lists.items ≡ f.lists.items) (λ o. Stands was o.lists.items) (λ o same. subst (Stands was) (sym same) stands)
    c.open_long.ensures.same

pub returns-in-Ok-clause-at_rest : goal.returns-in-Ok-clause-at_rest
returns-in-Ok-clause-at_rest g c = λ t.
    let f = c.in-Ok.found in
    c.open_long.ensures.at_rest t
    (subst (λ b. IsReadAs b f.place f.gate f.compact f.lists.items)
    (c.as_slice-text.ensures.value ∙ c.in_ok-bytes.ensures.value t ∙ sym (c.in_ok-bytes.ensures.same t)) c.in-Ok.ensures.read)
    (c.in_ok-bytes.ensures.durable t) (c.in_ok-bytes.ensures.fits t)

pub returns-in-Ok-clause-units : goal.returns-in-Ok-clause-units
returns-in-Ok-clause-units g c = c.open_long.ensures.units c.in-Ok.ensures.units

pub returns-in-Ok-clause-stays : goal.returns-in-Ok-clause-stays
returns-in-Ok-clause-stays g c = λ t l second.
    let f = c.in-Ok.found in
    let was = g.D.Disk.reads c.args.disk.now in
    let read = subst (λ b. IsReadAs b f.place f.gate f.compact f.lists.items) (c.as_slice-text.ensures.value ∙ c.in_ok-bytes.ensures.value t)
    c.in-Ok.ensures.read in
    IfOk-weaker c.open_long.result (λ _. g.D.Disk.reads c.open_long.new.disk ≡ g.D.Disk.reads c.read_file.new.disk)
    (λ _. g.D.Disk.reads c.open_long.new.disk ≡ was) (λ o same. same ∙ c.in_ok-bytes.ensures.same t)
    (c.open_long.ensures.stays t (read_second was f.place f.gate f.compact f.lists.items l read second))

pub returns-in-Ok-clause-bad : goal.returns-in-Ok-clause-bad
returns-in-Ok-clause-bad g c = λ t. never_bad _ c.open_long.result c.open_long.ensures.not_bad

pub returns-in-Ok-clause-images : goal.returns-in-Ok-clause-images
returns-in-Ok-clause-images g c = λ t.
    let f = c.in-Ok.found in
    let was = g.D.Disk.reads c.args.disk.now in
    let stands = subst (λ b. Stands b f.lists.items) (c.as_slice-text.ensures.value ∙ c.in_ok-bytes.ensures.value t)
    (stands_read c.as_slice-text.result.now f.place f.gate f.compact f.lists.items c.in-Ok.ensures.read) in
    let read = subst (λ b. IsReadAs b f.place f.gate f.compact f.lists.items)
    (c.as_slice-text.ensures.value ∙ c.in_ok-bytes.ensures.value t ∙ sym (c.in_ok-bytes.ensures.same t)) c.in-Ok.ensures.read in
    keeps_all was f.lists.items (g.D.Disk.may_leave c.args.disk.now) (g.D.Disk.may_leave c.open_long.new.disk) (g.met.D.Disk.reads_left c.args.disk.now t)
    stands (c.open_long.ensures.images t read (c.in_ok-bytes.ensures.durable t) (c.in_ok-bytes.ensures.fits t))

pub returns-in-Ok-clause-cause : goal.returns-in-Ok-clause-cause
returns-in-Ok-clause-cause g c =
    cause_since (g.D.Disk.faults c.args.disk.now) (g.D.Disk.faults c.read_file.new.disk) (g.D.Disk.faults c.open_long.new.disk) c.open_long.result
    c.in_ok-bytes.ensures.cause.quiet c.open_long.ensures.cause

pub returns-in-Ok-clause-lasting : goal.returns-in-Ok-clause-lasting
returns-in-Ok-clause-lasting g c = λ t l stands image left.
    let f = c.in-Ok.found in
    let was = g.D.Disk.reads c.args.disk.now in
    let there = subst (λ b. Stands b f.lists.items) (c.as_slice-text.ensures.value ∙ c.in_ok-bytes.ensures.value t)
    (stands_read c.as_slice-text.result.now f.place f.gate f.compact f.lists.items c.in-Ok.ensures.read) in
    let read = subst (λ b. IsReadAs b f.place f.gate f.compact f.lists.items)
    (c.as_slice-text.ensures.value ∙ c.in_ok-bytes.ensures.value t ∙ sym (c.in_ok-bytes.ensures.same t)) c.in-Ok.ensures.read in
    inr
    (subst (Stands image) (both_once was f.lists.items l there stands)
    (c.open_long.ensures.images t read (c.in_ok-bytes.ensures.durable t) (c.in_ok-bytes.ensures.fits t) image left))

-- ---- it stands for nothing, or memory is wanting

pub returns-clause-lasting : goal.returns-clause-lasting
returns-clause-lasting g c = λ t l stands image left. inl (c.read_file.ensures.left t image left)

pub returns-clause-bad : goal.returns-clause-bad
returns-clause-bad g c = λ t.
    let was = g.D.Disk.reads c.args.disk.now in
    on_bad (IsBad c.as_slice-text.result.now) (λ at. IsBad was at × (g.D.Disk.reads c.read_file.new.disk ≡ was))
    (λ at is. (subst (λ b. IsBad b at) (c.as_slice-text.ensures.value ∙ c.in_ok-bytes.ensures.value t) is, c.in_ok-bytes.ensures.same t)) c.in-Err.fault
    c.in-Err.ensures.bad
