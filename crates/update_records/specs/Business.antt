-- What the marks make of the business tables and of the numbers.
use Rattle.std.specs.Prelude.{ℕ, ◌≡◌, List, [], ◌∷◌, map, Result, Ok, Err, IsOk}
use Rattle.std.specs.List.{filter, flat_map}
use Rattle.std.specs.Option.{option_map_or}
use Rattle.std.specs.Prelude.{Bool, ◌&&◌}
use Rattle.std.specs.Str.{bytes_eq}
use Rattle.std.specs.FinMap.{empty}
use Rattle.enq_base.specs.declared.unit.Effect.{Effect}
use Rattle.enq_base.specs.declared.unit.Num.{Num as Number}
use Rattle.module_effects.specs.Rows.{Tables, RowName}
use Rattle.module_effects.specs.Effects.{applied}
use Rattle.module_effects.specs.declared.fault.EffectFault.{EffectFault}
use Rattle.module_effects.specs.declared.fault.EffectFault.TheVariants.{Refused}
use Rattle.update_records.specs.declared.records.Mark.{Mark}
use Rattle.update_records.specs.declared.records.MarkKind.TheVariants.{Num, Rec, V1, Bad1, V2, Bad2}
use Rattle.update_records.specs.declared.records.Unit.{Unit as UnitOfWork}
use Rattle.update_records.specs.Marks.{unit_at, v1_of, v2_of}

abbrev pub tables_or : Tables → Result Tables EffectFault → Tables
tables_or tables (Ok after) = after
tables_or tables (Err fault) = tables

-- the tables after a part, none of whose effects counts where one is refused
abbrev pub posted : List Effect → Tables → Tables
posted effects tables = tables_or tables (applied effects tables)

-- the effects that a mark posts
abbrev pub part_of : List UnitOfWork → Mark → List Effect
part_of units m = elim m.kind [ V1 ↦ v1_of units m.unit | V2 ↦ v2_of units m.unit | _ ↦ [] ]

-- the tables after more marks
abbrev pub tables_after : List UnitOfWork → Tables → List Mark → Tables
tables_after units tables [] = tables
tables_after units tables (m ∷ marks) = tables_after units (posted (part_of units m) tables) marks

-- the business tables: what the posted parts make, in the order of the marks
abbrev pub tables_of : List UnitOfWork → List Mark → Tables
tables_of units marks = tables_after units empty marks

-- a mark of a post says what its part gives
abbrev pub IsRightMark : List UnitOfWork → Tables → Mark → Type 0
IsRightMark units tables m = elim m.kind [
  | V1 ↦ IsOk (applied (v1_of units m.unit) tables)
  | Bad1 index reason ↦ applied (v1_of units m.unit) tables ≡ Err (Refused index reason)
  | V2 ↦ IsOk (applied (v2_of units m.unit) tables)
  | Bad2 index reason ↦ applied (v2_of units m.unit) tables ≡ Err (Refused index reason)
  | _ ↦ Unit {0}
]

-- each mark says what its part gives in the tables of the marks before it
abbrev pub AreRight : List UnitOfWork → Tables → List Mark → Type 0
AreRight units tables [] = Unit {0}
AreRight units tables (m ∷ marks) = IsRightMark units tables m × AreRight units (posted (part_of units m) tables) marks

-- the numbers that a mark commits: a unit's are committed when it is recorded
abbrev pub numbers_in : List UnitOfWork → Mark → List Number
numbers_in units m = elim m.kind [
  | Num numbers ↦ numbers
  | Rec ↦ option_map_or (λ unit. unit.numbers) (unit_at units m.unit) []
  | _ ↦ []
]

-- all numbers that were committed, in order
abbrev pub numbers_of : List UnitOfWork → List Mark → List Number
numbers_of units marks = flat_map (numbers_in units) marks

-- an interval is named by its object and its two digits
abbrev pub interval_of : Number → RowName
interval_of num = (num.object, num.nr)

abbrev pub is_from : RowName → Number → Bool
is_from name num = bytes_eq num.object name.0 && bytes_eq num.nr name.1

-- the committed numbers of an interval, in order
abbrev pub numbers_from : RowName → List Number → List ℕ
numbers_from name numbers = map (λ (num : Number). num.number) (filter (is_from name) numbers)
