use Rattle.std.proofs.Common.{ap, refl, ◌∙◌}
use Rattle.backup_file.specs.Slots.{slot_at}
use Rattle.backup_file.proofs.Compacted.{opened_now, opening_left}
use Rattle.backup_file.proofs.compacting.open_slot.Goals as goal

pub returns-in_err-write_through-clause-images : goal.returns-in_err-write_through-clause-images
returns-in_err-write_through-clause-images g c = λ t rest l beside names newer.
    let p = c.args.place.now in
    let disk = c.args.disk.now in
    opening_left p rest l (g.D.Disk.reads disk) (g.D.Disk.may_leave disk) names c.args.at beside newer c.slot_at-offset.result _
    (c.slot_at-offset.ensures ∙ ap (slot_at p.gate) c.other.ensures) refl (g.D.Disk.may_leave c.write_through.new.disk) (c.write_through.ensures.left t)

pub returns-clause-images : goal.returns-clause-images
returns-clause-images g c = λ t rest l beside names newer.
    let p = c.args.place.now in
    let disk = c.args.disk.now in
    opening_left p rest l (g.D.Disk.reads disk) (g.D.Disk.may_leave disk) names c.args.at beside newer c.slot_at-offset.result _
    (c.slot_at-offset.ensures ∙ ap (slot_at p.gate) c.other.ensures) refl (g.D.Disk.may_leave c.write_through.new.disk) (c.write_through.ensures.left t)

pub returns-clause-opened : goal.returns-clause-opened
returns-clause-opened g c = λ t rest l beside names newer.
    let p = c.args.place.now in
    let disk = c.args.disk.now in
    opened_now p rest l (g.D.Disk.reads disk) (g.D.Disk.may_leave disk) names c.args.at beside c.slot_at-offset.result _
    (g.D.Disk.reads c.write_through.new.disk) (g.D.Disk.may_leave c.write_through.new.disk)
    (c.slot_at-offset.ensures ∙ ap (slot_at p.gate) c.other.ensures) refl (c.in_ok-write_through.ensures.value t) (c.in_ok-write_through.ensures.durable t)
