-- What holds of the books of a good store.
use Rattle.std.specs.Prelude.{◌≡◌, ◌≤◌, Bool, true, false, ◌&&◌, count_by, List, ◌∷◌, ◌++◌, IsTrue}
use Rattle.std.specs.List.{list_any}
use Rattle.std.specs.FinMap.{empty}
use Rattle.enq_base.specs.Owners.{same_unit}
use Rattle.enq_base.specs.declared.owner.UnitKey.{UnitKey}
use Rattle.keeper_api.specs.Rows.{Rows}
use Rattle.posting.specs.Numbers.{AreNumbersRight}
use Rattle.ledger_steps.specs.Posts.{HoldsTables}
use Rattle.update_records.specs.Business.{AreRight, tables_of}
use Rattle.update_records.specs.Ledger.{Ledger}
use Rattle.update_records.specs.Marks.{is_rec}
use Rattle.update_records.specs.declared.records.Mark.{Mark}
use Rattle.update_records.specs.declared.records.MarkKind.{MarkKind}
use Rattle.update_records.specs.declared.records.MarkKind.TheVariants.{V1, V2}

abbrev pub is_v1 : MarkKind → Bool
is_v1 V1 = true
is_v1 kind = false

abbrev pub is_v2 : MarkKind → Bool
is_v2 V2 = true
is_v2 kind = false

-- whether a mark of such a kind is one of this unit
abbrev pub tells : (MarkKind → Bool) → UnitKey → Mark → Bool
tells is_kind unit m = is_kind m.kind && same_unit m.unit unit

-- whether the mark records the unit, posts its V1 part, or posts its V2 part
abbrev pub records : UnitKey → Mark → Bool
records = tells is_rec

abbrev pub posts_v1 : UnitKey → Mark → Bool
posts_v1 = tells is_v1

abbrev pub posts_v2 : UnitKey → Mark → Bool
posts_v2 = tells is_v2

-- no unit is recorded twice, and neither of its parts posted twice
pub record IsEachOnce (marks : List Mark) : Type 0 where
  pub recorded : (unit : UnitKey) → count_by (records unit) marks ≤ 1
  pub v1 : (unit : UnitKey) → count_by (posts_v1 unit) marks ≤ 1
  pub v2 : (unit : UnitKey) → count_by (posts_v2 unit) marks ≤ 1

-- a mark of the one kind comes only behind one of the other kind, of the same unit
abbrev pub ComesBehind : (UnitKey → Mark → Bool) → (UnitKey → Mark → Bool) → List Mark → Type 0
ComesBehind later_kind first_kind marks =
    (earlier later : List Mark) (m : Mark) → marks ≡ earlier ++ m ∷ later → IsTrue (later_kind m.unit m)
    → IsTrue (list_any (first_kind m.unit) earlier)

-- a V1 part is posted only of a unit that was recorded, and a V2 part only behind the V1 part
pub record AreInTurn (marks : List Mark) : Type 0 where
  pub recorded : ComesBehind posts_v1 records marks
  pub v1 : ComesBehind posts_v2 posts_v1 marks

-- each part is posted at most once, and behind what it stands on; a posted part was applied whole, and a refused one
-- left nothing; no committed number repeats
pub record AreBooksRight (ledger : Ledger) : Type 0 where
  pub once : IsEachOnce ledger.marks
  pub turn : AreInTurn ledger.marks
  pub applied : AreRight ledger.units empty ledger.marks
  pub numbers : AreNumbersRight ledger

-- the business rows are what just the posted parts make, each whole, in the order of their marks
abbrev pub HoldBooks : Rows → Ledger → Type 0
HoldBooks rows ledger = HoldsTables rows (tables_of ledger.units ledger.marks)
