use Rattle.std.proofs.Common.{ℕ, ◌+◌, List, ap, arith, length, ◌∙◌}
use Rattle.backup_file.specs.declared.places.Slot.{Slot}
use Rattle.backup_file.specs.Slots.{slot_at}
use Rattle.backup_file.proofs.Compacted.{filled_now, filling_left, numbers_length}
use Rattle.backup_file.proofs.compacting.fill_slot.Goals as goal

pub returns-in_err-write_through-clause-images : goal.returns-in_err-write_through-clause-images
returns-in_err-write_through-clause-images g c = λ t rest l beside names.
    let p = c.args.place.now in
    let disk = c.args.disk.now in
    filling_left p rest l (g.D.Disk.reads disk) (g.D.Disk.may_leave disk) names beside (c.slot_at-slot.result + 1) _
    (ap (λ (n : ℕ). n + 1) (c.slot_at-slot.ensures ∙ ap (slot_at p.gate) c.other.ensures))
    (ap (λ (b : List ℕ). length b) c.bytes_of_numbers.ensures ∙ numbers_length (c.slot_in-generation.result.generation + 1) c.args.at)
    (g.D.Disk.may_leave c.write_through.new.disk)
    (c.write_through.ensures.left t)

pub returns-clause-images : goal.returns-clause-images
returns-clause-images g c = λ t rest l beside names.
    let p = c.args.place.now in
    let disk = c.args.disk.now in
    filling_left p rest l (g.D.Disk.reads disk) (g.D.Disk.may_leave disk) names beside (c.slot_at-slot.result + 1) _
    (ap (λ (n : ℕ). n + 1) (c.slot_at-slot.ensures ∙ ap (slot_at p.gate) c.other.ensures))
    (ap (λ (b : List ℕ). length b) c.bytes_of_numbers.ensures ∙ numbers_length (c.slot_in-generation.result.generation + 1) c.args.at)
    (g.D.Disk.may_leave c.write_through.new.disk)
    (c.write_through.ensures.left t)

pub returns-clause-filled : goal.returns-clause-filled
returns-clause-filled g c = λ t rest l beside names.
    let p = c.args.place.now in
    let disk = c.args.disk.now in
    filled_now p rest l (g.D.Disk.reads disk) (g.D.Disk.may_leave disk) names beside c.args.at (c.slot_in-generation.result.generation + 1)
    (c.slot_at-slot.result + 1) _
    (g.D.Disk.reads c.write_through.new.disk) (g.D.Disk.may_leave c.write_through.new.disk)
    (ap (λ (n : ℕ). n + 1) (c.slot_at-slot.ensures ∙ ap (slot_at p.gate) c.other.ensures)) (ap (λ (x : Slot). x.generation + 1) c.slot_in-generation.ensures)
    (omega (arith, c.requires.young, ap (λ (x : Slot). x.generation) c.slot_in-generation.ensures)) (omega (arith, c.ranges.at)) c.bytes_of_numbers.ensures
    (c.in_ok-write_through.ensures.value t) (c.in_ok-write_through.ensures.durable t)
