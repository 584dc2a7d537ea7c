-- What a part of a unit makes of the business rows, and the changes that write it.
use Rattle.std.specs.Prelude.{◌≡◌, ℕ, List, [], ◌∷◌, ◌++◌, map, Option, Some, None, Ok, Err, if◌then◌else◌}
use Rattle.std.specs.List.{IsDistinct}
use Rattle.std.specs.FinMap.{get}
use Rattle.std.specs.Option.{option_map_or}
use Rattle.std.specs.Ordering.{eq_by_cmp}
use Rattle.enq_base.specs.Grammar.{is_text}
use Rattle.enq_base.specs.declared.owner.UnitKey.{UnitKey}
use Rattle.enq_base.specs.declared.unit.Effect.{Effect}
use Rattle.enq_base.specs.declared.unit.Status.{Status}
use Rattle.enq_base.specs.declared.unit.Status.TheVariants.{Open, Posted}
use Rattle.keeper_api.specs.declared.rows.Change.{Change}
use Rattle.keeper_api.specs.Rows.{Rows, value_at}
use Rattle.lock_entry.specs.declared.entry.Entry.{Entry}
use Rattle.module_effects.specs.Rows.{RowName, Tables, row_cmp}
use Rattle.module_effects.specs.Effects.{applied}
use Rattle.module_effects.specs.Spots.{row_at, with_spots}
use Rattle.module_effects.specs.declared.spot.Spot.{Spot}
use Rattle.module_effects.specs.declared.fault.EffectFault.TheVariants as effect_fault
use Rattle.update_records.specs.Business.{IsRightMark, part_of, posted, tables_of}
use Rattle.byte_fields.specs.Fields.{all_if}
use Rattle.update_records.specs.Ledger.{Ledger}
use Rattle.update_records.specs.Marks.{status_of, unit_at, v1_of, v2_of}
use Rattle.update_records.specs.RecordRows.{row_name, row_left, mark_row, meta_row}
use Rattle.update_records.specs.declared.records.Mark.{Mark}
use Rattle.update_records.specs.declared.records.MarkKind.{MarkKind}
use Rattle.update_records.specs.declared.records.MarkKind.TheVariants.{V2, Bad2}
use Rattle.update_records.specs.declared.records.Unit.{Unit as UnitOfWork}
use Rattle.ledger_steps.specs.Parts.{is_first}
use Rattle.ledger_steps.specs.declared.part.Part.{Part}
use Rattle.ledger_steps.specs.Steps.{post_kind}
use Rattle.ledger_steps.specs.declared.step.Outcome.{Outcome}
use Rattle.ledger_steps.specs.declared.step.Outcome.TheVariants.{Done, Refused}

-- ---- parts

-- the effects of a part
abbrev pub effects_of : Part → List UnitOfWork → UnitKey → List Effect
effects_of part units key = if is_first part then v1_of units key else v2_of units key

-- the locks of a unit; one that isn't there has none
abbrev pub entries_of : List UnitOfWork → UnitKey → List Entry
entries_of units key = option_map_or (λ unit. unit.entries) (unit_at units key) []

-- the status of a unit that waits for a part
abbrev pub status_for : Part → Status
status_for part = if is_first part then Open else Posted

abbrev pub WaitsFor : Part → Ledger → UnitKey → Type 0
WaitsFor part ledger key = status_of ledger.units ledger.marks key ≡ Some (status_for part)

-- the mark of a second part
abbrev pub post2_kind : Outcome → MarkKind
post2_kind Done = V2
post2_kind (Refused index reason) = Bad2 index reason

abbrev pub kind_for : Part → Outcome → MarkKind
kind_for part outcome = if is_first part then post_kind outcome else post2_kind outcome

-- ---- reading

-- bytes that are no text count as no row
abbrev pub text_in : Option (List ℕ) → Option (List ℕ)
text_in None = None
text_in (Some bytes) = all_if is_text bytes

-- the text of a business row
abbrev pub text_at : Rows → RowName → Option (List ℕ)
text_at rows name = text_in (value_at rows 6 (row_name name))

-- no row has two spots
abbrev pub HasDistinctRows : List Spot → Type 0
HasDistinctRows spots = IsDistinct (eq_by_cmp row_cmp) (map row_at spots)

-- the business rows of the store are these tables
abbrev pub HoldsTables : Rows → Tables → Type 0
HoldsTables rows tables = (name : RowName) → text_at rows name ≡ get tables name

-- the effects come to this in the tables, and leave these spots; where one is refused, none
abbrev pub IsPost : List Effect → Tables → Outcome → List Spot → Type 0
IsPost effects tables Done spots = applied effects tables ≡ Ok (with_spots spots tables)
IsPost effects tables (Refused index reason) spots = (applied effects tables ≡ Err (effect_fault.Refused index reason))
    × (spots ≡ [])

-- ---- writing

abbrev pub row_change : Spot → Change
row_change spot = row_left (row_at spot) spot.text

abbrev pub row_changes : List Spot → List Change
row_changes spots = map row_change spots

-- the changes that note a mark, behind those of the rows that its part leaves
abbrev pub note_changes : ℕ → List Spot → Mark → List Change
note_changes start spots m = row_changes spots ++ mark_row m ∷ meta_row start m.seq ∷ []

-- a mark says what its part gives in the tables so far, and the part leaves these spots
pub record IsNote (ledger : Ledger) (m : Mark) (spots : List Spot) : Type 0 where
  pub right : IsRightMark ledger.units (tables_of ledger.units ledger.marks) m
  pub leaves : posted (part_of ledger.units m) (tables_of ledger.units ledger.marks) ≡ with_spots spots
      (tables_of ledger.units ledger.marks)
