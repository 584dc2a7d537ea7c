-- What a worker is given to work outside.
use Rattle.std.specs.Prelude.{ℕ, ◌≡◌, List, Option, Some, None}
use Rattle.enq_base.specs.declared.condition.Condition.TheVariants as condition
use Rattle.enq_base.specs.declared.owner.UnitKey.{UnitKey}
use Rattle.hall_model.specs.Orders.{order_for}
use Rattle.hall_model.specs.State.{State}
use Rattle.posting.specs.Drafts.{DraftView, IsDrafted}
use Rattle.ledger_steps.specs.declared.part.Part.TheVariants.{V1}
use Rattle.update_records.specs.Ledger.{Ledger}

-- the draft of the unit whose V1 part a worker has an order for; none where there is no such order
abbrev pub IsDraftFor : Ledger → List (Option UnitKey) → ℕ → Option DraftView → Type 0
IsDraftFor ledger orders worker None = order_for V1 ledger orders worker ≡ None
IsDraftFor ledger orders worker (Some draft) =
    (unit : UnitKey) × (order_for V1 ledger orders worker ≡ Some unit) × IsDrafted ledger unit draft

-- the same while the server is up, and else none
abbrev pub IsDraft : State → ℕ → Option DraftView → Type 0
IsDraft s worker draft = elim s.condition [
  | condition.Up ↦ IsDraftFor s.stored s.orders worker draft
  | condition.NoServer ↦ draft ≡ None
  | condition.Doubt k ↦ draft ≡ None
]
