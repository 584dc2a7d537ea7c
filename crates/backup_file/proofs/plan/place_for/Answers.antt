use Rattle.std.proofs.Common.{ap, arith, inl, inr, refl}
use Rattle.backup_file.specs.declared.places.Slot.{Slot}
use Rattle.backup_file.proofs.plan.place_for.Goals as goal

pub returns-then-end-start-clause-free : goal.returns-then-end-start-clause-free
returns-then-end-start-clause-free c =
    inl (refl, omega (arith, c.if-end-start.true, ap (λ (x : Slot). x.start) c.slot_in-start.ensures))

pub returns-clause-free : goal.returns-clause-free
returns-clause-free c = inr refl
