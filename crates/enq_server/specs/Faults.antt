-- Why a server isn't opened, and why a call is refused.
use Rattle.std.specs.Prelude.{ℕ, ◌≡◌, ◌≤◌, List, Some, Result, Ok, Err}
use Rattle.std.specs.List.{All}
use Rattle.enq_base.specs.Causes.{Rose}
use Rattle.enq_base.specs.declared.condition.BackupBad.TheVariants as bad
use Rattle.lock_entry.specs.Sound.{IsSound, first_clash}
use Rattle.lock_entry.specs.declared.entry.Entry.{Entry}
use Rattle.lock_entry.specs.declared.entry.UnitLocks.{UnitLocks}
use Rattle.lock_entry.specs.declared.fault.AskFault.{AskFault}
use Rattle.lock_entry.specs.declared.fault.AskFault.TheVariants as ask
use Rattle.backup_file.specs.File.{IsBad, Keeps, Stands}
use Rattle.backup_file.specs.declared.fault.BackFault.{BackFault}
use Rattle.backup_file.specs.declared.fault.BackFault.TheVariants as back
use Rattle.backup_file.specs.declared.handed.Handed.{Handed}
use Rattle.enq_server.specs.Recovery.{Agrees, FreesOthers, IsMissing, joined}
use Rattle.enq_server.specs.declared.fault.OpenFault.{OpenFault}
use Rattle.enq_server.specs.declared.fault.OpenFault.TheVariants as opening
use Rattle.enq_server.specs.declared.fault.ServerFault.{ServerFault}
use Rattle.enq_server.specs.declared.fault.ServerFault.TheVariants as server

-- how a fault of the file's opening is told
abbrev pub opening_fault : BackFault → OpenFault
opening_fault back.Failed = opening.Failed
opening_fault (back.Bad at) = opening.Bad (bad.Bytes at)
opening_fault back.NoMemory = opening.NoMemory

-- the entries of the units, each of which agrees with its list, clash first at these places
pub record Clashes (l : List Handed) (units : List UnitLocks) (first second : ℕ) : Type 0 where
  pub agree : All (Agrees l) units
  pub unsound : ¬ IsSound (joined units)
  pub places : first_clash (joined units) ≡ Some (first, second)

-- why these lists give no table
abbrev pub IsRecoveryFault : List Handed → List UnitLocks → OpenFault → Type 0
IsRecoveryFault l units opening.Failed = ⊥
IsRecoveryFault l units (opening.Bad (bad.Bytes at)) = ⊥
IsRecoveryFault l units (opening.Bad (bad.Missing unit at)) = IsMissing l units unit at
IsRecoveryFault l units (opening.Bad (bad.Clash first second)) = Clashes l units first second
IsRecoveryFault l units opening.NoMemory = Unit {0}

-- why no server is opened over these bytes
abbrev pub IsOpenFault : List ℕ → List UnitLocks → OpenFault → Type 0
IsOpenFault bytes units opening.Failed = Unit {0}
IsOpenFault bytes units (opening.Bad (bad.Bytes at)) = IsBad bytes at
IsOpenFault bytes units (opening.Bad (bad.Missing unit at)) =
    (l : List Handed) × Stands bytes l × IsMissing l units unit at
IsOpenFault bytes units (opening.Bad (bad.Clash first second)) =
    (l : List Handed) × Stands bytes l × Clashes l units first second
IsOpenFault bytes units opening.NoMemory = Unit {0}

-- what is said of a file that stands for nothing
abbrev pub OnBytes : OpenFault → Type 0 → Type 0
OnBytes opening.Failed P = Unit {0}
OnBytes (opening.Bad (bad.Bytes at)) P = P
OnBytes (opening.Bad (bad.Missing unit at)) P = Unit {0}
OnBytes (opening.Bad (bad.Clash first second)) P = Unit {0}
OnBytes opening.NoMemory P = Unit {0}

-- what old stands for new stands for; only where the disk failed or memory was wanting lists of other units may be
-- gone
abbrev pub Leaves : List UnitLocks → OpenFault → List ℕ → List ℕ → Type 0
Leaves units opening.Failed old new = FreesOthers units old new
Leaves units (opening.Bad bad) old new = Keeps old new
Leaves units opening.NoMemory old new = FreesOthers units old new

-- where the disk failed the count rose, and with any other fault it stands still
abbrev pub CountsFault : OpenFault → ℕ → ℕ → Type 0
CountsFault opening.Failed before now = (before ≤ now) × Rose before now
CountsFault (opening.Bad bad) before now = now ≡ before
CountsFault opening.NoMemory before now = now ≡ before

-- how the table's refusal is told
abbrev pub refusal : AskFault → ServerFault
refusal ask.NoMemory = server.NoMemory
refusal fault = server.Ask fault

-- the fault is the rule's own, or want of memory
abbrev pub IsRefusal : {X : Type 0} → Result X AskFault → ServerFault → Type 0
IsRefusal rule (server.Ask fault) = rule ≡ Err fault
IsRefusal rule server.Failed = ⊥
IsRefusal rule server.NoMemory = Unit {0}

-- the same, and then the entries are as they were; where the file failed they are those that were granted
abbrev pub IsReadmission : Result (List Entry) AskFault → List Entry → List Entry → ServerFault → Type 0
IsReadmission rule before after (server.Ask fault) = (rule ≡ Err fault) × (after ≡ before)
IsReadmission rule before after server.Failed = rule ≡ Ok after
IsReadmission rule before after server.NoMemory = after ≡ before

-- the count has not fallen, `Failed` comes only where it rose, and with any other answer it stands still
abbrev pub HasCallCause : ℕ → ℕ → Result Unit ServerFault → Type 0
HasCallCause before now (Ok done) = now ≡ before
HasCallCause before now (Err (server.Ask fault)) = now ≡ before
HasCallCause before now (Err server.Failed) = (before ≤ now) × Rose before now
HasCallCause before now (Err server.NoMemory) = now ≡ before
