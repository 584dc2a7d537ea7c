-- Opening a file.
use Rattle.std.specs.Prelude.{◌≡◌, ◌⊎◌, ℕ, ◌≤◌, List, Result, Ok, Err, IsErrOf}
use Rattle.backup_file.specs.File.{Stands}
use Rattle.backup_file.specs.declared.handed.Handed.{Handed}
use Rattle.enq_base.specs.Causes.{Rose}
use Rattle.gate_log.specs.declared.fault.LogFault.{LogFault}
use Rattle.gate_log.specs.declared.fault.LogFault.TheVariants as log
use Rattle.backup_file.specs.declared.fault.WriteFault.{WriteFault}
use Rattle.backup_file.specs.declared.fault.WriteFault.TheVariants as write
use Rattle.backup_file.specs.declared.fault.BackFault.{BackFault}
use Rattle.backup_file.specs.declared.fault.BackFault.TheVariants.{Failed, Bad, NoMemory}

-- P of the offset, where the bytes stand for nothing
abbrev pub OnBad : (ℕ → Type 0) → BackFault → Type 0
OnBad P Failed = Unit {0}
OnBad P (Bad at) = P at
OnBad P NoMemory = Unit {0}

-- each image is one from before, or stands for these lists
abbrev pub StandsLater : (before now : List ℕ → Type 0) → List Handed → Type 0
StandsLater before now l = (c : List ℕ) → now c → before c ⊎ Stands c l

-- why a file could not be read, as a fault of opening it
abbrev pub fault_of : LogFault → BackFault
fault_of log.Failed = Failed
fault_of log.NoMemory = NoMemory

-- and as a fault of writing it
abbrev pub write_fault_of : LogFault → WriteFault
write_fault_of log.Failed = write.Failed
write_fault_of log.NoMemory = write.NoMemory

-- P, unless the disk failed
abbrev pub UnlessFailed : {T : Type 0} → Result T BackFault → Type 0 → Type 0
UnlessFailed (Ok x) P = P
UnlessFailed (Err Failed) P = Unit {0}
UnlessFailed (Err (Bad at)) P = P
UnlessFailed (Err NoMemory) P = P

-- the count has not fallen, `Failed` comes only where it rose, and with any other answer it stands still
pub record HasBackCause {T : Type 0} (before now : ℕ) (result : Result T BackFault) : Type 0 where
  pub later : before ≤ now
  pub failed : IsErrOf result Failed → Rose before now
  pub quiet : UnlessFailed result (now ≡ before)

-- where the disk failed the count rose, and with any other fault it stands still
abbrev pub CountsFault : BackFault → ℕ → ℕ → Type 0
CountsFault Failed before now = (before ≤ now) × Rose before now
CountsFault (Bad at) before now = now ≡ before
CountsFault NoMemory before now = now ≡ before
