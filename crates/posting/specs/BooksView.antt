-- What a caller of the books sees.
use Rattle.std.specs.Prelude.{ℕ, ◌≡◌, ◌⊎◌, ◌≤◌, List, length, Option, IfSome}
use Rattle.keeper_api.specs.declared.rows.Change.{Change}
use Rattle.keeper_api.specs.Rows.{Rows}
use Rattle.keeper_api.specs.Batch.{changed}
use Rattle.keeper_api.specs.Keeping.{IsWithin}
use Rattle.module_effects.specs.Spots.{with_spots}
use Rattle.update_records.specs.Ledger.{Ledger, StandFor}
use Rattle.ledger_steps.specs.Steps.{Plan, after_step, intervals_in, IsDrawing, IsNewUnit, HasMarksLeft, MayGet}
use Rattle.posting.specs.Mirrors.{business}
use Rattle.ledger_steps.specs.declared.step.Step.{Step}
use Rattle.ledger_steps.specs.declared.step.Step.TheVariants.{Start, Record, Note, Draw, Level}

-- the ledger, the keeper of its rows, and how many more units and marks, how many more intervals, and how many more
-- business rows, take no memory
pub record BooksView (K : Type 0) : Type 0 where
  pub ledger : Ledger
  pub keeper : K
  pub room : ℕ
  pub spare : ℕ
  pub places : ℕ

-- calls are allowed, and where the keeper tells its rows they stand for the ledger
pub record IsUsable {K : Type 0} (held : K → Option Rows) (is_open : K → Type 0) (shelf : BooksView K) : Type 0 where
  pub opened : is_open shelf.keeper
  pub stands : IfSome (held shelf.keeper) (λ rows. StandFor rows shelf.ledger)

-- ledger, rows and faults are as before, and nothing new may be left
pub record IsUnmoved {K : Type 0} (held : K → Option Rows) (may_leave : K → Rows → Type 0) (faults : K → ℕ)
    (old new : BooksView K) : Type 0 where
  pub ledger : new.ledger ≡ old.ledger
  pub rows : held new.keeper ≡ held old.keeper
  pub crash : IsWithin (may_leave new.keeper) (may_leave old.keeper)
  pub count : faults new.keeper ≡ faults old.keeper

-- a step that this ledger may take
abbrev pub MayTake : Ledger → Step → Type 0
MayTake ledger (Start start) = 1 ≤ start
MayTake ledger (Record unit levels) = HasMarksLeft ledger × IsNewUnit ledger unit
MayTake ledger (Note key kind) = HasMarksLeft ledger × MayGet ledger key kind
MayTake ledger (Draw key numbers levels) = HasMarksLeft ledger × IsDrawing ledger key numbers
MayTake ledger (Level interval) = Unit {0}

-- the plan can be written: there is room for it, and it makes the rows of the ledger after its step, in the store and
-- in memory
pub record IsReady {K : Type 0} (held : K → Option Rows) (has_room : K → List Change → Type 0) (shelf : BooksView K)
    (plan : Plan) : Type 0 where
  pub kept : has_room shelf.keeper plan.batch
  pub space : 1 ≤ shelf.room
  pub spare : length (intervals_in plan.step) ≤ shelf.spare
  pub places : length plan.rows ≤ shelf.places
  pub step : MayTake shelf.ledger plan.step
  pub makes : IfSome (held shelf.keeper)
      (λ rows. StandFor (changed plan.batch rows) (after_step shelf.ledger plan.step))
  pub leaves : business (after_step shelf.ledger plan.step) ≡ with_spots plan.rows (business shelf.ledger)

-- these rows may be left: they stand for the ledger before a step or after it
abbrev pub StandForEither : Rows → Ledger → Step → Type 0
StandForEither rows ledger step = StandFor rows ledger ⊎ StandFor rows (after_step ledger step)
