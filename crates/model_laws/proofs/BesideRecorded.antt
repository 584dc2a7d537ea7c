-- The locks of a unit beside one that is recorded.
use Rattle.std.proofs.Common.{◌≡◌, false, [], ◌∷◌, ◌++◌, ap}
use Rattle.std.specs.Option.{option_map_or}
use Rattle.enq_base.specs.Owners.{same_unit}
use Rattle.enq_base.specs.declared.owner.UnitKey.{UnitKey}
use Rattle.ledger_steps.specs.Posts.{entries_of}
use Rattle.record_laws.proofs.Status.{unit_other}
use Rattle.update_records.specs.Ledger.{Ledger}
use Rattle.update_records.specs.declared.records.Unit.{Unit as UnitOfWork}

pub entries_beside : (ledger : Ledger) (unit : UnitOfWork) (other : UnitKey) → same_unit unit.key other ≡ false
    → entries_of (ledger.units ++ unit ∷ []) other ≡ entries_of ledger.units other
entries_beside ledger unit other apart = ap (λ o. option_map_or (λ (u : UnitOfWork). u.entries) o []) (unit_other ledger.units unit other apart)
