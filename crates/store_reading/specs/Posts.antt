-- The rule on business rows: table 6 has what the posted parts make, and each mark of a post says what its part gives.
use Rattle.std.specs.Prelude.{ℕ, ◌+◌, Bool, true, false, ◌&&◌, nat_eq, List, [], ◌∷◌, Option, Some, None, if◌then◌else◌}
use Rattle.std.specs.Prelude.{Result, Ok, Err}
use Rattle.std.specs.FinMap.{empty}
use Rattle.std.specs.List.{flat_map, fold}
use Rattle.std.specs.Str.{bytes_eq}
use Rattle.enq_base.specs.Owners.{same_unit}
use Rattle.enq_base.specs.declared.owner.UnitKey.{UnitKey}
use Rattle.enq_base.specs.declared.unit.Effect.{Effect}
use Rattle.enq_base.specs.declared.unit.Reason.{Reason}
use Rattle.keeper_api.specs.declared.rows.Row.{Row}
use Rattle.module_effects.specs.Effects.{applied}
use Rattle.module_effects.specs.Rows.{Tables}
use Rattle.module_effects.specs.declared.fault.EffectFault.{EffectFault}
use Rattle.module_effects.specs.declared.fault.EffectFault.TheVariants.{Refused, NoMemory}
use Rattle.update_records.specs.Business.{posted}
use Rattle.update_records.specs.Ledger.{with_map}
use Rattle.update_records.specs.RecordRows.{reason_number, row_name}
use Rattle.update_records.specs.declared.records.MarkKind.TheVariants.{V1, Bad1, V2, Bad2}
use Rattle.update_records.specs.declared.stored.Record.{Record}
use Rattle.update_records.specs.declared.stored.Record.TheVariants as rec
use Rattle.store_reading.specs.First.{first_wrong, ◌else_at◌}
use Rattle.table_reading.specs.Tables.{rows_in}
use Rattle.store_reading.specs.declared.rules.Place.{Place}

-- ---- what the parts give

abbrev pub effect_in : UnitKey → ℕ → Record → List Effect
effect_in key part (rec.Step unit p index effect) = if same_unit unit key && nat_eq p part then effect ∷ [] else []
effect_in key part r = []

-- the effects of a unit's part, in the order of their rows
abbrev pub effects_of : List Record → UnitKey → ℕ → List Effect
effects_of steps key part = flat_map (effect_in key part) steps

-- the tables after one mark more: a posted part counts
abbrev pub tables_with : List Record → Tables → Record → Tables
tables_with steps tables (rec.Mark m) = elim m.kind [
  | V1 ↦ posted (effects_of steps m.unit 1) tables
  | V2 ↦ posted (effects_of steps m.unit 2) tables
  | _ ↦ tables
]
tables_with steps tables r = tables

-- what the marks make of the business tables
abbrev pub tables_by : List Record → List Record → Tables
tables_by steps marks = fold (tables_with steps) empty marks

-- ---- the rule

abbrev pub is_done : Result Tables EffectFault → Bool
is_done (Ok tables) = true
is_done (Err fault) = false

-- refused at this effect, for this reason
abbrev pub is_refused : ℕ → Reason → Result Tables EffectFault → Bool
is_refused index reason (Ok tables) = false
is_refused index reason (Err (Refused at why)) = nat_eq index at && nat_eq (reason_number reason) (reason_number why)
is_refused index reason (Err NoMemory) = false

-- a mark of a post says what its part gives in the tables of the marks before it
abbrev pub is_right_post : List Record → List Record → Record → Bool
is_right_post steps before (rec.Mark m) = elim m.kind [
  | V1 ↦ is_done (applied (effects_of steps m.unit 1) (tables_by steps before))
  | Bad1 index reason ↦ is_refused index reason (applied (effects_of steps m.unit 1) (tables_by steps before))
  | V2 ↦ is_done (applied (effects_of steps m.unit 2) (tables_by steps before))
  | Bad2 index reason ↦ is_refused index reason (applied (effects_of steps m.unit 2) (tables_by steps before))
  | _ ↦ true
]
is_right_post steps before r = true

-- the rows of table 6 that stand for business tables, in the order of their keys
abbrev pub rows_for : Tables → List Row
rows_for tables = rows_in (with_map 6 (λ text. text) tables empty) 6

abbrev pub is_business : Row → Record → Bool
is_business row (rec.Business table key text) = bytes_eq row.key (row_name (table, key)) && bytes_eq row.value text
is_business row r = false

-- the first difference, at its place from n on: one more than the equal rows before it
abbrev pub difference_from : ℕ → List Row → List Record → Option Place
difference_from n [] [] = None
difference_from n [] (r ∷ records) = Some (record { table = 6; row = n })
difference_from n (row ∷ rows) [] = Some (record { table = 6; row = n })
difference_from n (row ∷ rows) (r ∷ records) =
    if is_business row r then difference_from (n + 1) rows records else Some (record { table = 6; row = n })

-- the first wrong mark, else the first row that differs from what the marks make
abbrev pub post_fault : (steps marks business : List Record) → Option Place
post_fault steps marks business =
    first_wrong (is_right_post steps) 4 [] marks else_at difference_from 1 (rows_for (tables_by steps marks)) business
