-- An order for a part is an order.
use Rattle.std.proofs.Common.{◌≡◌, ℕ, true, false, refl, subst}
use Rattle.std.specs.Prelude.{if◌then◌else◌, Option, Some, None}
use Rattle.enq_base.specs.declared.owner.UnitKey.{UnitKey}
use Rattle.ledger_steps.specs.Posts.{WaitsFor, status_for}
use Rattle.update_records.specs.Ledger.{Ledger}
use Rattle.model_laws.proofs.OtherStatuses.{of_has, status_in}
use Rattle.hall_model.specs.Orders.{waits_for}
use Rattle.ledger_steps.specs.declared.part.Part.{Part}
use Rattle.hall_model.specs.Calls.{OfWorker, Posts, Takes, call_of, post_of, take_of}
use Rattle.ledger_steps.specs.declared.part.Part.TheVariants.{V1, V2}

same_key : (a b : UnitKey) → Some a ≡ Some b → a ≡ b
same_key a b e = cc

-- an order for a part is an order, for a unit that waits for this part
pub held_for : (part : Part) (ledger : Ledger) (o : Option UnitKey) (key : UnitKey)
    → (elim o [ None ↦ None | Some unit ↦ if waits_for part ledger unit then Some unit else None ]) ≡ Some key → (o ≡ Some key) × WaitsFor part ledger key
held_for part ledger None key e = cc
held_for part ledger (Some unit) key e =
    elim (waits_for part ledger unit)
    as (λ b. waits_for part ledger unit ≡ b → (if b then Some unit else None) ≡ Some key → (Some unit ≡ Some key) × WaitsFor part ledger key) [
      | true ↦ λ t h. (h, subst (WaitsFor part ledger) (same_key unit key h) (of_has (status_for part) (status_in ledger unit) t))
      | false ↦ λ t h. absurd (cc)
    ] refl e

-- the calls for both parts
pub take_is : (part : Part) (worker : ℕ) → call_of (take_of part worker) ≡ OfWorker worker (Takes part)
take_is V1 worker = refl
take_is V2 worker = refl

pub post_is : (part : Part) (worker : ℕ) → call_of (post_of part worker) ≡ OfWorker worker (Posts part)
post_is V1 worker = refl
post_is V2 worker = refl
