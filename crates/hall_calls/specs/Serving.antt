-- A call that what is present serves, apart from its place in the history.
use Rattle.std.specs.Prelude.{◌≡◌, ◌⊎◌, ℕ, Bool, true, false, List, Option, Some, is_some, IsTrue}
use Rattle.backup_file.specs.Backup.{BackupView}
use Rattle.enq_base.specs.Causes.{Rose}
use Rattle.enq_base.specs.declared.condition.Bad.TheVariants as bad
use Rattle.enq_base.specs.declared.refusal.Refusal.TheVariants as refusal
use Rattle.enq_server.specs.Replica.{IsLater, KeepsOn, ReplicaView}
use Rattle.keeper_api.specs.Keeping.{IsWithin}
use Rattle.keeper_api.specs.Rows.{Rows}
use Rattle.lock_entry.specs.Sound.{IsSound, first_clash}
use Rattle.lock_entry.specs.declared.entry.Entry.{Entry}
use Rattle.hall_model.specs.declared.command.Answer.{Answer}
use Rattle.hall_model.specs.declared.command.Command.{Command}
use Rattle.hall_model.specs.declared.command.PastEntry.{PastEntry}
use Rattle.hall_model.specs.declared.command.Reply.{Reply}
use Rattle.hall_model.specs.declared.command.Reply.TheVariants as reply
use Rattle.hall_model.specs.Acts.{Admits, IsAct, IsTelling}
use Rattle.hall_model.specs.Calls.{Call, OfSession, LogsOff, Asks, Frees, FreesAll, Converts, RollsBack, call_of}
use Rattle.hall_model.specs.Calls.{fails_over, renews_replica, restarts, touches_file}
use Rattle.hall_model.specs.Devices.{is_doubt, reaches_store}
use Rattle.hall_calls.specs.Filing.{DoesFile, HasFileCause, KeepsFile}
use Rattle.hall_model.specs.History.{is_unrecorded}
use Rattle.hall_model.specs.Kept.{IsKept}
use Rattle.hall_calls.specs.Leaving.{HasStoreCause, KeepsStore}
use Rattle.hall_model.specs.State.{State, is_honest}
use Rattle.hall_model.specs.Step.{is_full}
use Rattle.hall_model.specs.Unsound.{is_unsound_file, is_unsound_replica, is_unsound_store}
use Rattle.hall_calls.specs.View.{View}

-- the state with these calls as its history
abbrev pub with_calls : State → List PastEntry → State
with_calls s past = record s { past = past }

-- the state is in order, and nothing bars the call
pub record IsDue (s : State) (past : List PastEntry) (c : Command) : Type 0 where
  pub kept : IsKept (with_calls s past)
  pub admits : Admits (with_calls s past) c

-- the calls that the lock server alone answers
abbrev pub is_of_locks : Call → Bool
is_of_locks (OfSession session LogsOff) = true
is_of_locks (OfSession session (Asks requests)) = true
is_of_locks (OfSession session (Frees requests)) = true
is_of_locks (OfSession session FreesAll) = true
is_of_locks (OfSession session (Converts wanted)) = true
is_of_locks (OfSession session RollsBack) = true
is_of_locks call = false

-- what a call may do to the store
pub record MayWrite {K : Type 0} (held : K → Option Rows) (may_leave : K → Rows → Type 0) (faults : K → ℕ) (old new : K)
    (r : Reply) : Type 0 where
  pub told : is_some (held new) ≡ is_some (held old)
  pub cause : HasStoreCause (faults old) (faults new) r
  pub kept : KeepsStore held may_leave old new r

-- what a restart may do to the store, which it reads anew: nothing new may be left of it
pub record MayReread {K : Type 0} (held : K → Option Rows) (may_leave : K → Rows → Type 0) (faults : K → ℕ)
    (old new : K) (r : Reply) : Type 0 where
  pub told : is_some (held new) ≡ is_some (held old)
  pub cause : HasStoreCause (faults old) (faults new) r
  pub within : IsWithin (may_leave new) (may_leave old)

-- a call that doesn't touch it leaves the keeper as it is
abbrev pub DoesStore : {K : Type 0} → (K → Option Rows) → (K → Rows → Type 0) → (K → ℕ) → (remakes reaches : Bool) → K
    → K → Reply → Type 0
DoesStore held may_leave faults true true old new r = MayReread held may_leave faults old new r
DoesStore held may_leave faults false true old new r = MayWrite held may_leave faults old new r
DoesStore held may_leave faults remakes false old new r = new ≡ old

-- a restart makes the backup file anew, and any other call does what calls do to it
abbrev pub LeavesFile : {D : Type 0} → (D → ℕ) → (remakes touches : Bool) → BackupView D → BackupView D → Reply → Type 0
LeavesFile faults true touches old new r = HasFileCause (faults old.disk) (faults new.disk) r
LeavesFile faults false touches old new r = DoesFile faults touches old new r

-- what followed is lost only where the link failed or found no memory, or where the call brings another replica or none
abbrev pub Follows : {L : Type 0} → (L → Option (List Entry)) → (faults refusals : L → ℕ) → (renews : Bool)
    → ReplicaView L → ReplicaView L → Type 0
Follows applied faults refusals true old new = IsLater applied faults refusals old new
Follows applied faults refusals false old new = KeepsOn applied faults refusals old new

-- that the link failed is answered only where its count of faults has risen
abbrev pub HasLinkCause : ℕ → ℕ → Reply → Type 0
HasLinkCause before now (reply.Refused refusal.LinkFault) = Rose before now
HasLinkCause before now _ = Unit {0}

-- a replica that followed is lost only where one of the link's counts rose, or where the server is in doubt then
abbrev pub LosesOnly : (faults faults_now refusals refusals_now : ℕ) → State → State → Type 0
LosesOnly faults faults_now refusals refusals_now old new =
    old.attached ≡ true → new.attached ≡ false → is_doubt new.condition ≡ false
    → Rose faults faults_now ⊎ Rose refusals refusals_now

-- a failover that is done leaves the list that the link gives, and one that is told two places of a list was given one
-- whose locks can't stand together, these first
abbrev pub IsOver : (fails_over : Bool) → (locks given : List Entry) → Reply → Type 0
IsOver true locks given reply.Done = locks ≡ given
IsOver true locks given (reply.Refused (refusal.Unsound (bad.Replica first second))) =
    (IsSound given → ⊥) × (first_clash given ≡ Some (first, second))
IsOver true locks given r = Unit {0}
IsOver false locks given r = Unit {0}

-- what a call does to the state, to the store, to the backup file and to what follows the table
pub record Serves {K D L : Type 0} (held : K → Option Rows) (may_leave : K → Rows → Type 0) (faults : K → ℕ)
    (disk_faults : D → ℕ) (gives : L → List Entry) (applied : L → Option (List Entry)) (link_faults refusals : L → ℕ)
    (old new : View K D L) (past : List PastEntry) (c : Command) (r : Reply) : Type 0 where
  pub call : IsAct (with_calls old.state past) c (with_calls new.state past) r
  pub store : DoesStore held may_leave faults (restarts (call_of c))
      (reaches_store old.state (call_of c)) old.keeper new.keeper r
  pub file : LeavesFile disk_faults (restarts (call_of c)) (touches_file (call_of c)) old.file new.file r
  pub replica : Follows applied link_faults refusals (renews_replica (call_of c)) old.replica new.replica
  pub over : IsOver (fails_over (call_of c)) new.state.locks (gives old.replica.link) r
  pub link : HasLinkCause (link_faults old.replica.link) (link_faults new.replica.link) r

-- all that a call does, served or not, and what its answer tells
pub record IsAnswered {K D L : Type 0} (held : K → Option Rows) (may_leave : K → Rows → Type 0) (faults : K → ℕ)
    (tells : Bool) (disk_faults : D → ℕ) (gives : L → List Entry) (applied : L → Option (List Entry))
    (link_faults refusals : L → ℕ) (old new : View K D L) (past : List PastEntry) (c : Command) (a : Answer)
    : Type 0 where
  pub call : IsTelling (with_calls old.state past) c a.taken (with_calls new.state past) a.reply
  pub told : is_some (held new.keeper) ≡ is_some (held old.keeper)
  pub store_cause : HasStoreCause (faults old.keeper) (faults new.keeper) a.reply
  pub store : restarts (call_of c) ≡ false → KeepsStore held may_leave old.keeper new.keeper a.reply
  pub reread : restarts (call_of c) ≡ true → IsWithin (may_leave new.keeper) (may_leave old.keeper)
  pub keeper : reaches_store old.state (call_of c) ≡ false → new.keeper ≡ old.keeper
  pub file_cause : HasFileCause (disk_faults old.file.disk) (disk_faults new.file.disk) a.reply
  pub file : restarts (call_of c) ≡ false → KeepsFile old.file new.file a.reply
  pub unfiled : touches_file (call_of c) ≡ false → new.file ≡ old.file
  pub link : IsLater applied link_faults refusals old.replica new.replica
  pub replica : renews_replica (call_of c) ≡ false → KeepsOn applied link_faults refusals old.replica new.replica
  pub over : IsOver (fails_over (call_of c)) new.state.locks (gives old.replica.link) a.reply
  pub link_cause : HasLinkCause (link_faults old.replica.link) (link_faults new.replica.link) a.reply
  pub room : is_unrecorded a.reply ≡ false → is_full (with_calls old.state past) ≡ false
  pub good_file : IsTrue tells → IsTrue (is_honest old.state) → is_unsound_file a.reply ≡ false
  pub good_store : is_some (held old.keeper) ≡ true → is_unsound_store a.reply ≡ false
  pub good_replica : is_some (applied old.replica.link) ≡ true → is_unsound_replica a.reply ≡ false
