-- What is said of a change in doubt: the commit of it failed, and the store may have it or not.
use Rattle.std.specs.Prelude.{ℕ, ◌≡◌, ◌≢◌, ◌+◌, Bool, true, false, List, [], ◌∷◌, ◌++◌, length, Option, Some, None}
use Rattle.std.specs.Prelude.{IfSome}
use Rattle.keeper_api.specs.Rows.{Rows}
use Rattle.update_records.specs.Ledger.{Ledger, StandFor}
use Rattle.update_records.specs.declared.records.Mark.{Mark}
use Rattle.update_records.specs.declared.records.MarkKind.TheVariants as kind
use Rattle.update_records.specs.declared.records.Unit.{Unit as UnitOfWork}
use Rattle.posting.specs.Opening.{CountsFault, OnBad}
use Rattle.ledger_steps.specs.Steps.{after_step}
use Rattle.posting.specs.declared.opening.BooksFault.{BooksFault}
use Rattle.posting.specs.declared.opening.BooksFault.TheVariants.{NoMemory}
use Rattle.ledger_steps.specs.declared.step.Step.{Step}
use Rattle.ledger_steps.specs.declared.step.Step.TheVariants.{Start, Record, Note, Draw, Level}
use Rattle.posting.specs.declared.settling.SettleFault.{SettleFault}
use Rattle.posting.specs.declared.settling.SettleFault.TheVariants.{Books, Other}

-- ---- what was found

-- the ledger of a store that was read anew, and whether it has the change that was to be made
pub record FoundAnew : Type 0 where
  pub ledger : Ledger
  pub taken : Bool

-- the ledger is as it was; or the change was made, and makes a difference
abbrev pub IsSettled : Ledger → Option Step → Bool → Ledger → Type 0
IsSettled old change false new = new ≡ old
IsSettled old None true new = ⊥
IsSettled old (Some step) true new = (new ≡ after_step old step) × (new ≢ old)

-- neither the ledger as it was nor the one with the change
pub record IsOther (old : Ledger) (change : Option Step) (ledger : Ledger) : Type 0 where
  pub before : ledger ≢ old
  pub after : IfSome change (λ step. ledger ≢ after_step old step)

-- the rows stand for this ledger, which is another than these two
abbrev pub StandForOther : Rows → Ledger → Option Step → Ledger → Type 0
StandForOther rows old change ledger = StandFor rows ledger × IsOther old change ledger

-- why no ledger was found that was looked for: want of memory, or one was found that is neither
abbrev pub IsUnlike : Ledger → Option Step → Ledger → SettleFault → Type 0
IsUnlike old change read (Books fault) = fault ≡ NoMemory
IsUnlike old change read (Other ledger) = (ledger ≡ read) × IsOther old change read

-- ---- faults

abbrev pub OnBooks : SettleFault → (BooksFault → Type 0) → Type 0
OnBooks (Books fault) P = P fault
OnBooks (Other ledger) P = Unit {0}

abbrev pub OnOther : SettleFault → (Ledger → Type 0) → Type 0
OnOther (Books fault) P = Unit {0}
OnOther (Other ledger) P = P ledger

-- what is said of a store that is bad, or that stands for neither ledger
abbrev pub OnFound : SettleFault → Type 0 → Type 0
OnFound (Books fault) P = OnBad fault P
OnFound (Other ledger) P = P

-- the count of faults has risen just where the fault is the store's
abbrev pub CountsSettling : SettleFault → ℕ → ℕ → Type 0
CountsSettling (Books fault) before now = CountsFault fault before now
CountsSettling (Other ledger) before now = now ≡ before

-- ---- what a step leaves of each part of the ledger

abbrev pub start_after : ℕ → Step → ℕ
start_after old (Start start) = start
start_after old step = old

abbrev pub units_after : List UnitOfWork → Step → List UnitOfWork
units_after units (Record unit levels) = units ++ unit ∷ []
units_after units step = units

-- the mark that a step adds behind so many
abbrev pub mark_in : ℕ → Step → Option Mark
mark_in before (Start start) = None
mark_in before (Record unit levels) = Some (record { seq = before + 1; unit = unit.key; kind = kind.Rec })
mark_in before (Note key noted) = Some (record { seq = before + 1; unit = key; kind = noted })
mark_in before (Draw key numbers levels) = Some (record { seq = before + 1; unit = key; kind = kind.Num numbers })
mark_in before (Level interval) = None

abbrev pub with_last : {X : Type 0} → List X → Option X → List X
with_last xs None = xs
with_last xs (Some x) = xs ++ x ∷ []

abbrev pub marks_after : List Mark → Step → List Mark
marks_after marks step = with_last marks (mark_in (length marks) step)
