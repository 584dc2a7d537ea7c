-- The business rows that a step leaves.
use Rattle.std.proofs.Common.{◌≡◌, List, [], ◌∷◌, ◌++◌, ◌∙◌}
use Rattle.std.specs.FinMap.{empty}
use Rattle.enq_base.specs.declared.owner.UnitKey.{UnitKey}
use Rattle.enq_base.specs.declared.unit.Num.{Num as Number}
use Rattle.module_effects.specs.Spots.{with_spots}
use Rattle.module_effects.specs.declared.spot.Spot.{Spot}
use Rattle.update_records.specs.Growing.{next_mark, with_mark, with_unit}
use Rattle.update_records.specs.Ledger.{Ledger}
use Rattle.update_records.specs.declared.records.MarkKind.{MarkKind}
use Rattle.update_records.specs.declared.records.MarkKind.TheVariants.{Num, Rec}
use Rattle.update_records.specs.declared.records.Unit.{Unit as UnitOfWork}
use Rattle.update_records.specs.declared.stored.StoredInterval.{StoredInterval}
use Rattle.record_laws.proofs.Books.{tables_grow, tables_push}
use Rattle.record_laws.proofs.Status.{none_of}
use Rattle.ledger_steps.specs.Intervals.{with_intervals}
use Rattle.ledger_steps.specs.Posts.{IsNote}
use Rattle.ledger_steps.specs.Steps.{IsNewUnit}
use Rattle.posting.specs.Mirrors.{business}

-- a recorded unit leaves them as they were
pub unit_leaves : (ledger : Ledger) (unit : UnitOfWork) (levels : List StoredInterval) → IsNewUnit ledger unit
    → business (with_intervals levels (with_unit ledger unit)) ≡ business ledger
unit_leaves ledger unit levels new =
    tables_push (ledger.units ++ unit ∷ []) empty ledger.marks (next_mark ledger unit.key Rec)
    ∙ tables_grow ledger.units unit empty ledger.marks (none_of _ unit.key ledger.marks new.fresh)

-- so do numbers alone
pub draw_leaves : (ledger : Ledger) (key : UnitKey) (numbers : List Number) (levels : List StoredInterval)
    → business (with_intervals levels (with_mark ledger key (Num numbers))) ≡ business ledger
draw_leaves ledger key numbers levels = tables_push ledger.units empty ledger.marks (next_mark ledger key (Num numbers))

-- and a mark leaves those that its part leaves
pub note_leaves : (ledger : Ledger) (key : UnitKey) (kind : MarkKind) (spots : List Spot) → IsNote ledger (next_mark ledger key kind) spots
    → business (with_mark ledger key kind) ≡ with_spots spots (business ledger)
note_leaves ledger key kind spots note = tables_push ledger.units empty ledger.marks (next_mark ledger key kind) ∙ note.leaves
