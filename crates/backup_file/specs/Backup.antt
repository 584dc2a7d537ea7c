-- What an open backup file keeps.
use Rattle.std.specs.Prelude.{◌≡◌, ℕ, ◌≤◌, Bool, true, List, [], ◌∷◌, ◌++◌, IsTrue, Result, Ok, Err, IsErrOf}
use Rattle.enq_base.specs.Causes.{Rose}
use Rattle.enq_base.specs.declared.owner.UnitKey.{UnitKey}
use Rattle.gate_log.specs.Gates.{IsAtRest}
use Rattle.backup_file.specs.declared.fault.WriteFault.{WriteFault}
use Rattle.backup_file.specs.declared.fault.WriteFault.TheVariants.{Failed, NoMemory}
use Rattle.backup_file.specs.declared.handed.Handed.{Handed}
use Rattle.backup_file.specs.declared.handed.Record.TheVariants.{Hand}
use Rattle.enq_base.specs.declared.unit_id.UnitId.{UnitId}
use Rattle.backup_file.specs.Handing.{handed_of}
use Rattle.backup_file.specs.Lists.{AreUnits, is_known}
use Rattle.backup_file.specs.Spelling.{IsRecord, spelling}
use Rattle.backup_file.specs.File.{IsFront, Stands, compact}
use Rattle.lock_entry.specs.Names.{has_distinct_names}
use Rattle.lock_entry.specs.declared.entry.Entry.{Entry}

-- the disk, where the closed gate stands, the units whose lists stand, in no order, for how many more there is room,
-- whether the log in force is known to have one hand of each list and no other record, and whether a write has failed
pub record BackupView (D : Type 0) : Type 0 where
  pub disk : D
  pub gate : ℕ
  pub units : List UnitId
  pub room : ℕ
  pub compact : Bool
  pub failed : Bool

-- the same file, but for the room that it has
pub record IsSame {D : Type 0} (old new : BackupView D) : Type 0 where
  pub disk : new.disk ≡ old.disk
  pub gate : new.gate ≡ old.gate
  pub units : (u : UnitKey) → is_known u new.units ≡ is_known u old.units
  pub compact : new.compact ≡ old.compact
  pub failed : new.failed ≡ old.failed

-- the file is of version 2, stands, as read and in every image, for these lists, and may be written
pub record IsReady {D : Type 0} (reads : D → List ℕ) (may_leave : D → List ℕ → Type 0) (b : BackupView D)
    (l : List Handed) : Type 0 where
  pub stands : Stands (reads b.disk) l
  pub front : List ℕ
  pub is_front : IsFront front l
  pub at_rest : IsAtRest (reads b.disk) (may_leave b.disk) b.gate front
  pub units : AreUnits b.units l
  pub compact : b.compact ≡ true → is_front.1.log ≡ compact l

-- P, unless the disk failed
abbrev pub UnlessFailed : {T : Type 0} → Result T WriteFault → Type 0 → Type 0
UnlessFailed (Ok x) P = P
UnlessFailed (Err Failed) P = Unit {0}
UnlessFailed (Err NoMemory) P = P

-- the count has not fallen, `Failed` comes only where it rose, and with any other answer it stands still
pub record HasWriteCause {T : Type 0} (before now : ℕ) (result : Result T WriteFault) : Type 0 where
  pub later : before ≤ now
  pub failed : IsErrOf result Failed → Rose before now
  pub quiet : UnlessFailed result (now ≡ before)

-- a list that is ready to be written: its unit and its text
pub record ReadyView : Type 0 where
  pub unit : UnitKey
  pub text : List ℕ

-- it hands over these entries of the unit
pub record IsHandFor (unit : UnitKey) (entries : List Entry) (r : ReadyView) : Type 0 where
  pub owned : r.unit ≡ unit
  pub text : r.text ≡ 1 ∷ (spelling (Hand (handed_of unit entries)) ++ 0 ∷ [])
  pub is_record : IsRecord (Hand (handed_of unit entries))
  pub distinct : IsTrue (has_distinct_names entries)
