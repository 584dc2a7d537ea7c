-- The words of a keeper's contract.
use Rattle.std.specs.Prelude.{ℕ, ◌≡◌, ◌⊎◌, ◌≤◌, List, Option, Result, Ok, Err}
use Rattle.enq_base.specs.Causes.{Rose}
use Rattle.keeper_api.specs.declared.fault.KeepFault.{KeepFault}
use Rattle.keeper_api.specs.declared.fault.KeepFault.TheVariants.{Failed, NoMemory}
use Rattle.keeper_api.specs.declared.rows.Change.{Change}
use Rattle.keeper_api.specs.Rows.{Rows}

abbrev pub OnFailed : {T : Type 0} → Result T KeepFault → Type 0 → Type 0
OnFailed (Ok x) P = Unit {0}
OnFailed (Err Failed) P = P
OnFailed (Err NoMemory) P = Unit {0}

abbrev pub OnNoMemory : {T : Type 0} → Result T KeepFault → Type 0 → Type 0
OnNoMemory (Ok x) P = Unit {0}
OnNoMemory (Err Failed) P = Unit {0}
OnNoMemory (Err NoMemory) P = P

abbrev pub UnlessFailed : {T : Type 0} → Result T KeepFault → Type 0 → Type 0
UnlessFailed (Ok x) P = P
UnlessFailed (Err Failed) P = Unit {0}
UnlessFailed (Err NoMemory) P = P

-- the count has not fallen, `Failed` comes only where it rose, and with any other answer it stands still
pub record HasFaultCause {T : Type 0} (before now : ℕ) (result : Result T KeepFault) : Type 0 where
  pub later : before ≤ now
  pub failed : OnFailed result (Rose before now)
  pub quiet : UnlessFailed result (now ≡ before)

-- the rows are as before, and what was allowed still is
pub record Stays {K : Type 0} (held : K → Option Rows) (is_open : K → Type 0) (has_room : K → List Change → Type 0)
    (old new : K) : Type 0 where
  pub rows : held new ≡ held old
  pub opened : is_open new
  pub room : (batch : List Change) → has_room old batch → has_room new batch

-- a crash leaves these rows and no others
pub record IsOnly (rows : Rows) (may_leave : Rows → Type 0) : Type 0 where
  pub itself : may_leave rows
  pub alone : (left : Rows) → may_leave left → left ≡ rows

-- nothing new may be left
abbrev pub IsWithin : (Rows → Type 0) → (Rows → Type 0) → Type 0
IsWithin new old = (left : Rows) → new left → old left

abbrev pub IsBeforeOrAfter : Rows → Rows → Rows → Type 0
IsBeforeOrAfter before after left = (left ≡ before) ⊎ (left ≡ after)

-- both the rows before and those after a batch may be left
pub record AreBothLeft (before after : Rows) (may_leave : Rows → Type 0) : Type 0 where
  pub before_left : may_leave before
  pub after_left : may_leave after
