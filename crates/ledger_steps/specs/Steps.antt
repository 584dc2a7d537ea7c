-- What a prepared change adds to the ledger.
use Rattle.std.specs.Prelude.{ℕ, ◌≡◌, ◌≤◌, ◌+◌, ◌<◌, ◌-◌, ◌^◌, nat_eq, List, [], ◌∷◌, length, if◌then◌else◌, Option}
use Rattle.std.specs.Prelude.{Some, None, Result, Ok, Err, IsTrue, IsSome, true, slice_get}
use Rattle.std.specs.List.{All}
use Rattle.enq_base.specs.Grammar.{is_name}
use Rattle.update_records.specs.Grammar.{HasDigits, IsUnitKey, IsEffect, IsEntryOf, IsHeldBy, IsNumber}
use Rattle.enq_base.specs.declared.owner.UnitKey.{UnitKey}
use Rattle.enq_base.specs.declared.unit.Num.{Num as Number}
use Rattle.enq_base.specs.declared.unit.Status.TheVariants.{Open, Posted}
use Rattle.keeper_api.specs.declared.rows.Change.{Change}
use Rattle.lock_entry.specs.Names.{has_distinct_names}
use Rattle.module_effects.specs.Rows.{Tables}
use Rattle.module_effects.specs.declared.spot.Spot.{Spot}
use Rattle.module_effects.specs.declared.fault.EffectFault.{EffectFault}
use Rattle.module_effects.specs.declared.fault.EffectFault.TheVariants as effect_fault
use Rattle.update_records.specs.declared.records.MarkKind.{MarkKind}
use Rattle.update_records.specs.declared.records.MarkKind.TheVariants.{Num, V1, Bad1, Again1, Again2, Gone}
use Rattle.update_records.specs.declared.records.Unit.{Unit as UnitOfWork}
use Rattle.update_records.specs.Growing.{with_mark, with_unit, with_start}
use Rattle.update_records.specs.Ledger.{Ledger}
use Rattle.update_records.specs.Marks.{status_of, may_follow, waiting, waiting_again}
use Rattle.ledger_steps.specs.Intervals.{with_intervals}
use Rattle.update_records.specs.declared.stored.StoredInterval.{StoredInterval}
use Rattle.ledger_steps.specs.declared.step.Outcome.{Outcome}
use Rattle.ledger_steps.specs.declared.step.Outcome.TheVariants.{Done, Refused}
use Rattle.ledger_steps.specs.declared.step.Step.{Step}
use Rattle.ledger_steps.specs.declared.step.Step.TheVariants.{Start, Record, Note, Draw, Level}
use Rattle.ledger_steps.specs.Parts.{is_first}
use Rattle.ledger_steps.specs.declared.part.Part.{Part}

-- a change of the rows, the business rows that it leaves, and the step that it stands for
pub record Plan : Type 0 where
  pub batch : List Change
  pub rows : List Spot
  pub step : Step

-- the ledger after a step
abbrev pub after_step : Ledger → Step → Ledger
after_step ledger (Start start) = with_start ledger start
after_step ledger (Record unit levels) = with_intervals levels (with_unit ledger unit)
after_step ledger (Note key kind) = with_mark ledger key kind
after_step ledger (Draw key numbers levels) = with_intervals levels (with_mark ledger key (Num numbers))
after_step ledger (Level interval) = with_intervals (interval ∷ []) ledger

-- the intervals that a step puts
abbrev pub intervals_in : Step → List StoredInterval
intervals_in (Start start) = []
intervals_in (Record unit levels) = levels
intervals_in (Note key kind) = []
intervals_in (Draw key numbers levels) = levels
intervals_in (Level interval) = interval ∷ []

-- the mark of a first part
abbrev pub post_kind : Outcome → MarkKind
post_kind Done = V1
post_kind (Refused index reason) = Bad1 index reason

-- what applying a part comes to
abbrev pub IsOutcome : Result Tables EffectFault → Outcome → Type 0
IsOutcome (Ok tables) outcome = outcome ≡ Done
IsOutcome (Err (effect_fault.Refused index reason)) outcome = outcome ≡ Refused index reason
IsOutcome (Err effect_fault.NoMemory) outcome = ⊥

-- a unit that may be recorded next: nothing is marked of its key, its start is not past the ledger's, and it has 1 to
-- 200 effects, at most 64 numbers of intervals with two digits, and locks that were handed to it
pub record IsNewUnit (ledger : Ledger) (unit : UnitOfWork) : Type 0 where
  pub fresh : status_of ledger.units ledger.marks unit.key ≡ None
  pub first : 1 ≤ unit.key.start
  pub last : unit.key.start ≤ ledger.start
  pub some : 1 ≤ length unit.parts.v1 + length unit.parts.v2
  pub few : length unit.parts.v1 + length unit.parts.v2 ≤ 200
  pub few_numbers : length unit.numbers ≤ 64
  pub digits : All HasDigits unit.numbers
  pub few_entries : length unit.entries < 2 ^ 32
  pub held : All (IsHeldBy unit) unit.entries
  pub distinct : IsTrue (has_distinct_names unit.entries)

-- 1 to 64 numbers of intervals with two digits, that a unit of which nothing is marked but numbers may draw, its start
-- not past the ledger's
pub record IsDrawing (ledger : Ledger) (key : UnitKey) (numbers : List Number) : Type 0 where
  pub fresh : status_of ledger.units ledger.marks key ≡ None
  pub first : 1 ≤ key.start
  pub last : key.start ≤ ledger.start
  pub some : 1 ≤ length numbers
  pub few : length numbers ≤ 64
  pub digits : All HasDigits numbers

-- key, names, keys, texts and numbers of a unit and of its locks are in their grammars
pub record IsSpelt (unit : UnitOfWork) : Type 0 where
  pub key : IsUnitKey unit.key
  pub user : IsTrue (is_name unit.user)
  pub first : All IsEffect unit.parts.v1
  pub second : All IsEffect unit.parts.v2
  pub numbers : All IsNumber unit.numbers
  pub entries : All (IsEntryOf unit) unit.entries

-- there is room for one more mark
abbrev pub HasMarksLeft : Ledger → Type 0
HasMarksLeft ledger = length ledger.marks < 1048576

abbrev pub IsOpenUnit : Ledger → UnitKey → Type 0
IsOpenUnit ledger key = status_of ledger.units ledger.marks key ≡ Some Open

abbrev pub IsPostedUnit : Ledger → UnitKey → Type 0
IsPostedUnit ledger key = status_of ledger.units ledger.marks key ≡ Some Posted

-- marks that an administrator sets: a refused part may be tried again, or the unit is cancelled
abbrev pub IsSetByHand : MarkKind → Type 0
IsSetByHand Again1 = Unit {0}
IsSetByHand Again2 = Unit {0}
IsSetByHand Gone = Unit {0}
IsSetByHand kind = ⊥

-- a mark that a recorded unit may get next
pub record MayGet (ledger : Ledger) (key : UnitKey) (kind : MarkKind) : Type 0 where
  pub recorded : IsSome (status_of ledger.units ledger.marks key)
  pub follows : may_follow (status_of ledger.units ledger.marks key) kind ≡ true

-- the units that wait for a part, the one whose last mark is oldest first
abbrev pub waiting_for : Part → Ledger → List UnitKey
waiting_for part ledger = if is_first part then waiting ledger.units ledger.marks else waiting_again ledger.units
    ledger.marks

-- the item at a place, counted from 1
abbrev pub at_place : {X : Type 0} → ℕ → List X → Option X
at_place place xs = if nat_eq place 0 then None else slice_get xs (place - 1)
