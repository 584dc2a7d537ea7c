-- What the last mark of a unit tells of a refusal.
use Rattle.std.specs.Prelude.{ℕ, List, [], ◌∷◌, if◌then◌else◌, Option, Some, None}
use Rattle.enq_base.specs.Owners.{same_unit}
use Rattle.enq_base.specs.declared.owner.UnitKey.{UnitKey}
use Rattle.enq_base.specs.declared.unit.Reason.{Reason}
use Rattle.update_records.specs.declared.records.Mark.{Mark}
use Rattle.update_records.specs.declared.records.MarkKind.{MarkKind}
use Rattle.update_records.specs.declared.records.MarkKind.TheVariants.{Num, Bad1, Bad2}

-- the refusal that a mark tells, by the one before it: the effect's number and the reason; numbers alone tell nothing
-- new
abbrev pub told : MarkKind → Option (ℕ × Reason) → Option (ℕ × Reason)
told (Num numbers) before = before
told (Bad1 index reason) before = Some (index, reason)
told (Bad2 index reason) before = Some (index, reason)
told kind before = None

abbrev pub error_after : UnitKey → Option (ℕ × Reason) → List Mark → Option (ℕ × Reason)
error_after key error [] = error
error_after key error (m ∷ marks) = error_after key (if same_unit m.unit key then told m.kind error else error) marks

-- the refusal that the last mark of a unit tells
abbrev pub error_of : List Mark → UnitKey → Option (ℕ × Reason)
error_of marks key = error_after key None marks
