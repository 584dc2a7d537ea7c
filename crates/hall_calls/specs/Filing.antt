-- What the backup file has, and what a stop may leave of it.
use Rattle.std.specs.Prelude.{ℕ, ◌≡◌, ◌≤◌, ◌⊎◌, Bool, true, false, ◌&&◌, not, if◌then◌else◌, List, Option, Some, None}
use Rattle.std.specs.Prelude.{IsTrue, OnErr, OnOk, Result}
use Rattle.enq_base.specs.declared.condition.Condition.{Condition}
use Rattle.std.specs.Option.{option_map}
use Rattle.backup_file.specs.Backup.{BackupView, IsReady, IsSame}
use Rattle.backup_file.specs.File.{Stands}
use Rattle.backup_file.specs.declared.handed.Handed.{Handed}
use Rattle.backup_file.specs.Lists.{is_known, without}
use Rattle.enq_base.specs.declared.unit_id.UnitId.{UnitId}
use Rattle.enq_base.specs.Causes.{HasCause, Rose}
use Rattle.enq_base.specs.Owners.{same_unit}
use Rattle.enq_base.specs.declared.owner.Owner.TheVariants.{Upd}
use Rattle.enq_base.specs.declared.owner.UnitKey.{UnitKey}
use Rattle.enq_base.specs.declared.unit.Status.{Status}
use Rattle.enq_base.specs.declared.unit.Status.TheVariants.{Open}
use Rattle.enq_base.specs.declared.refusal.Refusal.TheVariants as refusal
use Rattle.enq_server.specs.Recovery.{lists_among}
use Rattle.enq_server.specs.declared.fault.ServerFault.{ServerFault}
use Rattle.enq_server.specs.declared.fault.ServerFault.TheVariants as server
use Rattle.lock_entry.specs.Freeing.{freed_owner}
use Rattle.lock_entry.specs.declared.entry.Entry.{Entry}
use Rattle.ledger_steps.specs.Views.{open_locks}
use Rattle.update_records.specs.Ledger.{Ledger}
use Rattle.hall_calls.specs.Written.{OnAnswer, written_reply}
use Rattle.ledger_steps.specs.Steps.{after_step}
use Rattle.hall_model.specs.Kept.{OutsideDoubt}
use Rattle.hall_calls.specs.OpenLists.{AgreeAll, AreOpenLists}
use Rattle.hall_model.specs.OpenUnits.{OfInFlight, waits_with_locks}
use Rattle.hall_calls.specs.View.{View}
use Rattle.hall_model.specs.Step.{ask_refusal}
use Rattle.hall_model.specs.declared.command.Reply.{Reply}
use Rattle.hall_model.specs.declared.command.Reply.TheVariants as reply
use Rattle.hall_calls.specs.declared.units.Written.{Written}
use Rattle.hall_calls.specs.declared.units.Written.TheVariants as written

-- the file is ready, as it is read and in each image, with the lists of just the open units
pub record IsReadyFor {D : Type 0} (reads : D → List ℕ) (may_leave : D → List ℕ → Type 0) (ledger : Ledger)
    (file : BackupView D) : Type 0 where
  pub lists : List Handed
  pub ready : IsReady reads may_leave file lists
  pub just : AreOpenLists ledger lists

-- these are just the units that wait for their V1 part and have locks
abbrev pub AreWaiting : Ledger → List UnitId → Type 0
AreWaiting ledger units = (unit : UnitKey) → is_known unit units ≡ waits_with_locks ledger unit

-- it may be written, over every disk the lists of just the open units with locks stand in it, and where the disk tells
-- its bytes it is ready with these lists
pub record HasOpenLists {D : Type 0} (tells : Bool) (reads : D → List ℕ) (may_leave : D → List ℕ → Type 0)
    (ledger : Ledger) (file : BackupView D) : Type 0 where
  pub usable : file.failed ≡ false
  pub standing : AreWaiting ledger file.units
  pub ready : IsTrue tells → IsReadyFor reads may_leave ledger file

-- what holds unless the change in flight is known to be in the store
abbrev pub UnlessTaken : Option Bool → Type 0 → Type 0
UnlessTaken None P = P
UnlessTaken (Some false) P = P
UnlessTaken (Some true) P = Unit {0}

-- or is known not to be there
abbrev pub UnlessUntaken : Option Bool → Type 0 → Type 0
UnlessUntaken None P = P
UnlessUntaken (Some false) P = Unit {0}
UnlessUntaken (Some true) P = P

-- An image stands for lists with which the open units agree, those of what the store has and those of the change in
-- flight, but for what it is known not to have. Outside doubt there are no others.
pub record RecoversFrom (condition : Condition) (stored : Ledger) (in_flight : Option Ledger) (found : Option Bool)
    (image : List ℕ) : Type 0 where
  pub lists : List Handed
  pub stands : Stands image lists
  pub agree : UnlessTaken found (AgreeAll stored lists)
  pub flight_agrees : UnlessUntaken found (OfInFlight in_flight (λ ledger. AgreeAll ledger lists))
  pub only : OutsideDoubt condition (lists ≡ lists_among (open_locks stored) lists)

-- where the disk tells its bytes, so does each image that a stop may leave
abbrev pub AllRecover :
    {D : Type 0} → (tells : Bool) → (D → List ℕ → Type 0) → Condition → Ledger → Option Ledger → Option Bool
    → BackupView D → Type 0
AllRecover tells may_leave condition stored in_flight found file =
    IsTrue tells → (image : List ℕ) → may_leave file.disk image → RecoversFrom condition stored in_flight found image

abbrev pub LeavesLists : {K D L : Type 0} → (tells : Bool) → (D → List ℕ → Type 0) → View K D L → Type 0
LeavesLists tells may_leave view =
    AllRecover tells may_leave view.state.condition view.state.stored view.state.in_flight view.state.found view.file

-- ---- what a call does to it

-- that the disk failed is answered only where its count of faults has risen, and with any other answer it stands still
abbrev pub HasFileCause : ℕ → ℕ → Reply → Type 0
HasFileCause before now (reply.Refused refusal.BackupFault) = (before ≤ now) × Rose before now
HasFileCause before now _ = now ≡ before

-- a call that is refused, but for a failure of the store or of the disk, leaves the file, but for the room that it has,
-- and so does one that tells a row
abbrev pub KeepsFile : {D : Type 0} → BackupView D → BackupView D → Reply → Type 0
KeepsFile old new (reply.Refused refusal.StoreFault) = Unit {0}
KeepsFile old new (reply.Refused refusal.BackupFault) = Unit {0}
KeepsFile old new (reply.Refused _) = IsSame old new
KeepsFile old new (reply.Row text) = IsSame old new
KeepsFile old new _ = Unit {0}

-- what a call may do to the file
pub record MayFile {D : Type 0} (faults : D → ℕ) (old new : BackupView D) (r : Reply) : Type 0 where
  pub cause : HasFileCause (faults old.disk) (faults new.disk) r
  pub kept : KeepsFile old new r

-- a call that doesn't write it leaves it as it is
abbrev pub DoesFile : {D : Type 0} → (D → ℕ) → Bool → BackupView D → BackupView D → Reply → Type 0
DoesFile faults true old new r = MayFile faults old new r
DoesFile faults false old new r = new ≡ old

-- the open units of what the store may have agree with the lists
abbrev pub AgreeWritten : Ledger → List Handed → Written → Type 0
AgreeWritten ledger lists (written.Answered r) = AreOpenLists ledger lists
AgreeWritten ledger lists (written.Failed change) =
    AgreeAll ledger lists × OfInFlight (option_map (after_step ledger) change) (λ l. AgreeAll l lists)
AgreeWritten ledger lists written.Unfiled = AgreeAll ledger lists

-- the image stands for such lists
abbrev pub StandsWritten : Ledger → Written → List ℕ → Type 0
StandsWritten ledger w image = (lists : List Handed) × Stands image lists × AgreeWritten ledger lists w

-- ---- its steps

abbrev pub is_open : Status → Bool
is_open Open = true
is_open status = false

-- the entries but the unit's, where its locks are to end
abbrev pub locks_ended : Bool → List Entry → UnitKey → List Entry
locks_ended ends entries unit = if ends then freed_owner entries (Upd unit) else entries

-- and the lists but the unit's
abbrev pub lists_ended : Bool → List Handed → UnitKey → List Handed
lists_ended ends lists unit = if ends then without unit lists else lists

-- whether another's list stands then
abbrev pub stays_known : Bool → UnitKey → List UnitId → UnitKey → Bool
stays_known ends unit units other = is_known other units && not (ends && same_unit unit other)

-- the unit's list is freed, where it is to end and stands, or the disk failed in that
pub record FreesList {D E : Type 0} (tells : Bool) (reads : D → List ℕ) (may_leave : D → List ℕ → Type 0)
    (faults : D → ℕ) (ends : Bool) (unit : UnitKey) (old new : BackupView D) (result : Result Unit E) : Type 0 where
  pub usable : OnOk result (new.failed ≡ false)
  pub freed : IsTrue tells → (lists : List Handed) → IsReady reads may_leave old lists
      → OnOk result (IsReady reads may_leave new (lists_ended ends lists unit))
  pub images : IsTrue tells → (lists : List Handed) → IsReady reads may_leave old lists → (image : List ℕ)
      → may_leave new.disk image
      → Stands image lists ⊎ Stands image (lists_ended ends lists unit)
  pub standing : OnOk result ((other : UnitKey) → is_known other new.units ≡ stays_known ends unit old.units other)
  pub needed : OnErr result (IsTrue (ends && is_known unit old.units))
  pub untouched : ends ≡ false → new ≡ old
  pub cause : HasCause (faults old.disk) (faults new.disk) result

-- the file has the list of a unit that is about to be recorded: the open units agree with its lists as they are, and
-- with the unit they are just these
pub record IsSaved {D : Type 0} (tells : Bool) (reads : D → List ℕ) (may_leave : D → List ℕ → Type 0)
    (ledger next : Ledger) (file : BackupView D) : Type 0 where
  pub usable : file.failed ≡ false
  pub standing : AreWaiting next file.units
  pub ready : IsTrue tells → (lists : List Handed) × IsReady reads may_leave file lists × AgreeAll ledger lists
      × AreOpenLists next lists

-- an answer that is no refusal and no row, or a failure of the store
abbrev pub IsUnrefused : Written → Type 0
IsUnrefused (written.Answered (reply.Refused r)) = ⊥
IsUnrefused (written.Answered (reply.Row text)) = ⊥
IsUnrefused (written.Answered r) = Unit {0}
IsUnrefused (written.Failed change) = Unit {0}
IsUnrefused written.Unfiled = ⊥

-- how a call ends whose locks aren't granted again, or aren't written into the file
abbrev pub ungranted : ServerFault → Written
ungranted (server.Ask f) = written.Answered (reply.Refused (ask_refusal f))
ungranted server.Failed = written.Unfiled
ungranted server.NoMemory = written.Answered (reply.Refused refusal.NoMemory)

-- ---- calls that leave the file

-- units and marks stay as they are, also in the change in flight
pub record KeepsUnits (ledger now : Ledger) : Type 0 where
  pub units : now.units ≡ ledger.units
  pub marks : now.marks ≡ ledger.marks

-- a call that writes a level at most
abbrev pub ChangesLevels : (ledger now : Ledger) → Written → Type 0
ChangesLevels ledger now (written.Answered r) = KeepsUnits ledger now
ChangesLevels ledger now (written.Failed change) = KeepsUnits ledger now
    × OfInFlight (option_map (after_step now) change) (KeepsUnits ledger)
ChangesLevels ledger now written.Unfiled = ⊥

-- ---- its end

-- how a call ends that may write the file, over what is stored then: what it leaves of the file
pub record FilesAs {D : Type 0} (tells : Bool) (reads : D → List ℕ) (may_leave : D → List ℕ → Type 0) (faults : D → ℕ)
    (ledger : Ledger) (old new : BackupView D) (w : Written) : Type 0 where
  pub lists : OnAnswer w (HasOpenLists tells reads may_leave ledger new)
  pub images : IsTrue tells → (image : List ℕ) → may_leave new.disk image → StandsWritten ledger w image
  pub does : MayFile faults old new (written_reply w)
