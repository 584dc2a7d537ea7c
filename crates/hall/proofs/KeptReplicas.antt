-- A replica that a state tells of, and the one that follows.
use Rattle.std.proofs.Common.{◌≡◌, ℕ, Bool, true, false, sym, ◌∙◌}
use Rattle.std.specs.Prelude.{List, Option}
use Rattle.enq_base.specs.declared.condition.Condition.{Condition}
use Rattle.enq_base.specs.declared.condition.Condition.TheVariants as condition
use Rattle.enq_server.specs.Replica.{KeepsOn, ReplicaView}
use Rattle.hall_model.specs.Devices.{is_doubt}
use Rattle.hall_calls.specs.Serving.{LosesOnly}
use Rattle.hall_model.specs.State.{State, attached_in}
use Rattle.lock_entry.specs.declared.entry.Entry.{Entry}

followed : (c : Condition) (on : Bool) → attached_in c on ≡ true → on ≡ true
followed condition.Up on h = h
followed condition.NoServer on h = h
followed (condition.Doubt k) on h = absurd (cc)

lost : (c : Condition) (on : Bool) → attached_in c on ≡ false → is_doubt c ≡ false → on ≡ false
lost condition.Up on h calm = h
lost condition.NoServer on h calm = h
lost (condition.Doubt k) on h calm = absurd (cc)

-- what follows is lost for the state where it is lost for the link
pub loses_only : {L : Type 0} (applied : L → Option (List Entry)) (faults refusals : L → ℕ) (old new : ReplicaView L) (s t : State)
    → s.attached ≡ attached_in s.condition old.attached → t.attached ≡ attached_in t.condition new.attached → KeepsOn applied faults refusals old new
    → LosesOnly (faults old.link) (faults new.link) (refusals old.link) (refusals new.link) s t
loses_only applied faults refusals old new s t before now keeps on off calm =
    keeps.lost (followed s.condition old.attached (sym before ∙ on)) (lost t.condition new.attached (sym now ∙ off) calm)
