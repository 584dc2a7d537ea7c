-- Why a log could not be read.
use Rattle.std.specs.Prelude.{◌≡◌, ℕ, ◌≤◌, Result, Ok, Err, IsErrOf}
use Rattle.enq_base.specs.Causes.{Rose}
use Rattle.gate_log.specs.declared.fault.LogFault.{LogFault}
use Rattle.gate_log.specs.declared.fault.LogFault.TheVariants.{Failed, NoMemory}

-- P, unless the disk failed
abbrev pub UnlessFailed : {T : Type 0} → Result T LogFault → Type 0 → Type 0
UnlessFailed (Ok x) P = P
UnlessFailed (Err Failed) P = Unit {0}
UnlessFailed (Err NoMemory) P = P

-- the count has not fallen, `Failed` comes only where it rose, and with any other answer it stands still
pub record HasLogCause {T : Type 0} (before now : ℕ) (result : Result T LogFault) : Type 0 where
  pub later : before ≤ now
  pub failed : IsErrOf result Failed → Rose before now
  pub quiet : UnlessFailed result (now ≡ before)
