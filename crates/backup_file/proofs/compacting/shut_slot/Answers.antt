use Rattle.std.proofs.Common.{ap, refl, sym, ◌∙◌}
use Rattle.backup_file.specs.Slots.{slot_at, slot_in}
use Rattle.backup_file.proofs.Compacted.{is_shut, laid_left, shut_now, shutting_left}
use Rattle.backup_file.proofs.compacting.shut_slot.Goals as goal

pub returns-then-not-is_open-clause-shut : goal.returns-then-not-is_open-clause-shut
returns-then-not-is_open-clause-shut g c = λ t rest l laid names.
    let p = c.args.place.now in
    let disk = c.args.disk.now in
    is_shut p rest l (g.D.Disk.reads disk) (g.D.Disk.may_leave disk) names laid (λ e.
    let yes = c.is_open.ensures.1 (ap (λ w. (slot_in p.slots w).gate) c.other-beside.ensures ∙ e) in let no = c.if-not-is_open.true in cc)

pub returns-then-not-is_open-clause-images : goal.returns-then-not-is_open-clause-images
returns-then-not-is_open-clause-images g c = λ t rest l laid names.
    let disk = c.args.disk.now in
    laid_left c.args.place.now rest l (g.D.Disk.reads disk) (g.D.Disk.may_leave disk) names laid (g.D.Disk.may_leave disk) (λ image left. left)

pub returns-in_err-write_through-clause-images : goal.returns-in_err-write_through-clause-images
returns-in_err-write_through-clause-images g c = λ t rest l laid names.
    let p = c.args.place.now in
    let disk = c.args.disk.now in
    let beside = c.other-beside.ensures in
    shutting_left p rest l (g.D.Disk.reads disk) (g.D.Disk.may_leave disk) names laid
    (ap (λ w. (slot_in p.slots w).gate) (sym beside) ∙ c.is_open.ensures.0 c.if-not-is_open.false) c.slot_at-offset.result _
    (c.slot_at-offset.ensures ∙ ap (slot_at p.gate) beside) refl (g.D.Disk.may_leave c.write_through.new.disk) (c.write_through.ensures.left t)

pub returns-clause-images : goal.returns-clause-images
returns-clause-images g c = λ t rest l laid names.
    let p = c.args.place.now in
    let disk = c.args.disk.now in
    let beside = c.other-beside.ensures in
    shutting_left p rest l (g.D.Disk.reads disk) (g.D.Disk.may_leave disk) names laid
    (ap (λ w. (slot_in p.slots w).gate) (sym beside) ∙ c.is_open.ensures.0 c.if-not-is_open.false) c.slot_at-offset.result _
    (c.slot_at-offset.ensures ∙ ap (slot_at p.gate) beside) refl (g.D.Disk.may_leave c.write_through.new.disk) (c.write_through.ensures.left t)

pub returns-clause-shut : goal.returns-clause-shut
returns-clause-shut g c = λ t rest l laid names.
    let p = c.args.place.now in
    let disk = c.args.disk.now in
    shut_now p rest l (g.D.Disk.reads disk) (g.D.Disk.may_leave disk) names laid c.slot_at-offset.result _ (g.D.Disk.reads c.write_through.new.disk)
    (g.D.Disk.may_leave c.write_through.new.disk) (c.slot_at-offset.ensures ∙ ap (slot_at p.gate) c.other-beside.ensures) refl
    (c.in_ok-write_through.ensures.value t) (c.in_ok-write_through.ensures.durable t)
