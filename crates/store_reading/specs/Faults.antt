-- Why a store isn't read, and what that leaves.
use Rattle.std.specs.Prelude.{ℕ, ◌≡◌, ◌≤◌, ◌<◌, Result, Ok, Err}
use Rattle.enq_base.specs.Causes.{Rose}
use Rattle.keeper_api.specs.Rows.{Rows}
use Rattle.keeper_api.specs.declared.fault.KeepFault.{KeepFault}
use Rattle.keeper_api.specs.declared.fault.KeepFault.TheVariants as keep
use Rattle.store_reading.specs.Told.{IsFirstBadRow}
use Rattle.store_reading.specs.declared.fault.ReadingFault.{ReadingFault}
use Rattle.store_reading.specs.declared.fault.ReadingFault.TheVariants.{Failed, Bad, NoMemory}

abbrev pub reading_fault : KeepFault → ReadingFault
reading_fault keep.Failed = Failed
reading_fault keep.NoMemory = NoMemory

abbrev pub OnBad : ReadingFault → (ℕ → ℕ → Type 0) → Type 0
OnBad Failed P = Unit {0}
OnBad (Bad table row) P = P table row
OnBad NoMemory P = Unit {0}

-- the row that is named is the first one outside the grammar
abbrev pub IsReadingFault : Rows → ReadingFault → Type 0
IsReadingFault rows fault = OnBad fault (IsFirstBadRow rows)

-- the same of rows that aren't told
abbrev pub MayBeFault : ReadingFault → Type 0
MayBeFault fault = OnBad fault (λ table row. (table < 8) × (1 ≤ row))

abbrev pub OnFailed : {T : Type 0} → Result T ReadingFault → Type 0 → Type 0
OnFailed (Ok x) P = Unit {0}
OnFailed (Err Failed) P = P
OnFailed (Err (Bad table row)) P = Unit {0}
OnFailed (Err NoMemory) P = Unit {0}

abbrev pub UnlessFailed : {T : Type 0} → Result T ReadingFault → Type 0 → Type 0
UnlessFailed (Ok x) P = P
UnlessFailed (Err Failed) P = Unit {0}
UnlessFailed (Err (Bad table row)) P = P
UnlessFailed (Err NoMemory) P = P

-- the count has not fallen, `Failed` comes only where it rose, and with any other answer it stands still
pub record HasReadingCause {T : Type 0} (before now : ℕ) (result : Result T ReadingFault) : Type 0 where
  pub later : before ≤ now
  pub failed : OnFailed result (Rose before now)
  pub quiet : UnlessFailed result (now ≡ before)
