-- What a stop may leave of a first state.
use Rattle.std.proofs.Common.{Option, Some, None, IfSome, inl, ◌⊎◌}
use Rattle.keeper_api.specs.Rows.{Rows}
use Rattle.update_records.specs.Ledger.{Ledger, StandFor}
use Rattle.hall_calls.specs.Leaving.{StandForInFlight}

pub first_leaves : (held : Option Rows) (may_leave : Rows → Type 0) (ledger : Ledger) → IfSome held (λ _. (left : Rows) → may_leave left → StandFor left ledger)
    → IfSome held (λ _. (left : Rows) → may_leave left → StandFor left ledger ⊎ StandForInFlight left None)
first_leaves None may_leave ledger h = tt
first_leaves (Some rows) may_leave ledger h = λ left may. inl (h left may)
