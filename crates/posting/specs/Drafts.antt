-- V1 parts that are worked apart from the books, on the rows as they were when the part was drafted.
use Rattle.std.specs.Prelude.{◌≡◌, List, IsTrue}
use Rattle.enq_base.specs.declared.owner.UnitKey.{UnitKey}
use Rattle.enq_base.specs.declared.unit.Effect.{Effect}
use Rattle.module_effects.specs.Rows.{Tables}
use Rattle.module_effects.specs.Spots.{Agree, covers}
use Rattle.module_effects.specs.declared.spot.Spot.{Spot}
use Rattle.update_records.specs.Ledger.{Ledger}
use Rattle.update_records.specs.Marks.{v1_of}
use Rattle.ledger_steps.specs.Posts.{HasDistinctRows, IsPost}
use Rattle.ledger_steps.specs.declared.step.Outcome.{Outcome}
use Rattle.posting.specs.Mirrors.{business}

-- a unit, the effects of its V1 part, and rows with their texts
pub record DraftView : Type 0 where
  pub unit : UnitKey
  pub effects : List Effect
  pub rows : List Spot

-- the rows are those that the effects touch, none twice
pub record AreTouched (effects : List Effect) (rows : List Spot) : Type 0 where
  pub covered : IsTrue (covers rows effects)
  pub once : HasDistinctRows rows

-- a draft of effects of a unit: those, and each row that they touch with its text in these tables
pub record IsDraftOf (key : UnitKey) (effects : List Effect) (tables : Tables) (draft : DraftView) : Type 0 where
  pub unit : draft.unit ≡ key
  pub part : draft.effects ≡ effects
  pub touched : AreTouched draft.effects draft.rows
  pub present : Agree draft.rows tables

-- the draft of a unit: its V1 part, and each row that the part touches with its present text
abbrev pub IsDrafted : Ledger → UnitKey → DraftView → Type 0
IsDrafted ledger key draft = IsDraftOf key (v1_of ledger.units key) (business ledger) draft

-- what a draft came to, and the rows that it leaves
pub record WorkedView : Type 0 where
  pub draft : DraftView
  pub outcome : Outcome
  pub rows : List Spot

-- in all tables that have the drafted texts the part comes to this, and leaves these rows, none twice
pub record IsWorked (worked : WorkedView) : Type 0 where
  pub comes : (tables : Tables) → Agree worked.draft.rows tables
      → IsPost worked.draft.effects tables worked.outcome worked.rows
  pub once : HasDistinctRows worked.rows
