-- A lock server that is made anew: what the call comes to, and what is left of the backup file where none could be made.
use Rattle.std.proofs.Common.{◌≡◌, inl, inr, ℕ, ◌+◌, Bool, true, false, cond, List, [], ◌∷◌, map, replicate, refl, sym, ap, ◌∙◌, subst}
use Rattle.std.specs.Prelude.{if◌then◌else◌, Option, Some, None, IfSome, IsTrue}
use Rattle.std.proofs.lemmas.Bool.{cases_Bool, or_parts}
use Rattle.backup_file.specs.Backup.{BackupView}
use Rattle.backup_file.specs.File.{Stands}
use Rattle.backup_file.specs.declared.handed.Handed.{Handed}
use Rattle.bk_disk.specs.Disk.{Follows}
use Rattle.enq_base.specs.Owners.{same_unit}
use Rattle.enq_base.specs.declared.condition.Bad.TheVariants as bad
use Rattle.enq_base.specs.declared.condition.Condition.{Condition}
use Rattle.enq_base.specs.declared.condition.Condition.TheVariants as condition
use Rattle.enq_base.specs.declared.owner.UnitKey.{UnitKey}
use Rattle.enq_base.specs.declared.refusal.Refusal.{Refusal}
use Rattle.enq_base.specs.declared.refusal.Refusal.TheVariants as refusal
use Rattle.enq_server.specs.Faults.{CountsFault, Leaves as LeavesLists}
use Rattle.enq_server.specs.Recovery.{AreKnown, entries_of, is_one_of, left, locking, stays}
use Rattle.enq_server.specs.Server.{IsRecovered, recovered}
use Rattle.enq_server.specs.declared.fault.OpenFault.{OpenFault}
use Rattle.enq_server.specs.declared.fault.OpenFault.TheVariants as opening
use Rattle.lock_entry.specs.Table.{IsTable, Table}
use Rattle.lock_entry.specs.declared.entry.UnitLocks.{UnitLocks}
use Rattle.ledger_steps.specs.Views.{open_locks}
use Rattle.record_laws.proofs.Status.{one_unit}
use Rattle.update_records.specs.Ledger.{Ledger}
use Rattle.hall_model.specs.Acts.{Admits, IsTelling}
use Rattle.hall_model.specs.Calls.{OfAdmin, Restarts}
use Rattle.hall_model.specs.Devices.{AllWell, AsKnown, BackupFails, FindsBad, FindsBadStore, LeavesTable, MayFind, MayRead, MeetsWant, NotRemade, Reading}
use Rattle.hall_model.specs.Devices.{RemakeFault, Reopens, StoreFails, Wanting, IsAsBefore, all_well, fault_told, found_by, is_doubt, only}
use Rattle.hall_calls.specs.Filing.{AllRecover, HasFileCause, HasOpenLists, RecoversFrom, UnlessTaken, UnlessUntaken}
use Rattle.hall_model.specs.History.{doubted, had_lock, in_flight_after, judged, known_behind, read_anew, refused, stored_before_file, unfiled}
use Rattle.hall_model.specs.Kept.{IsInFlight}
use Rattle.hall_calls.specs.Leaving.{HasStoreCause}
use Rattle.hall_calls.specs.OpenLists.{AgreeAll}
use Rattle.hall_model.specs.OpenUnits.{OfInFlight}
use Rattle.hall_calls.specs.Remaking.{IsReadFault, remade_state, remake_refusal}
use Rattle.hall_model.specs.Sessions.{bereft_if, with_marks}
use Rattle.hall_model.specs.State.{State}
use Rattle.hall_model.specs.Step.{Found, Verdict, Refuses, Leaves, call_verdict, found_in, has_lock, is_taken, leaves, own_verdict, recovered_table, restarted, settled, stored_anew}
use Rattle.hall_model.specs.declared.command.Command.TheVariants as command
use Rattle.hall_model.specs.declared.command.Reply.{Reply}
use Rattle.hall_model.specs.declared.command.Reply.TheVariants as reply
use Rattle.hall_model.specs.declared.command.Session.{Session}
use Rattle.hall_calls.specs.declared.remaking.Remade.TheVariants.{Done}
use Rattle.hall_calls.proofs.ending.StateBehind.{marks_kept}
use Rattle.hall_calls.proofs.verdicts.EachCall.{admitted}
use Rattle.hall_calls.proofs.lemmas.OfOpenUnits.{all_agree, each_agree, one_of_open, recovered_lists}
use Rattle.hall_calls.proofs.lemmas.WaitingLists.{known_waiting}

-- ---- what the call comes to

abbrev restart_in : Found → State → Condition → Verdict
restart_in found s k =
    elim k [
      | condition.Up ↦ Refuses refusal.ServerUp
      | condition.NoServer ↦ Leaves (restarted (is_taken found.anew) s) reply.Done
      | condition.Doubt n ↦ Leaves (restarted (is_taken found.anew) s) reply.Done
    ]

comes_to : (found : Found) (s : State) (k : Condition) → s.condition ≡ k → own_verdict found s (OfAdmin Restarts) ≡ restart_in found s k
comes_to found s k is = ap (restart_in found s) is

unless_up : (found : Found) (s : State) (k : Condition) → (k ≡ condition.Up → ⊥) → restart_in found s k ≡ Leaves (restarted (is_taken found.anew) s) reply.Done
unless_up found s condition.Up down = absurd (down refl)
unless_up found s condition.NoServer down = refl
unless_up found s (condition.Doubt n) down = refl

-- the server is up
pub restarts_up : (s : State) (k : Condition) → s.condition ≡ k → k ≡ condition.Up → Admits s command.Restart
    → IsTelling s command.Restart false s (reply.Refused refusal.ServerUp)
restarts_up s k is up free =
    let v = admitted (found_in s) s command.Restart free ∙ comes_to (found_in s) s condition.Up (is ∙ up) in
    record {
      act = record {
        outcome = all_well;
        possible = record { reading = tt; event = subst LeavesTable (sym v) tt; lost = tt };
        same = ap (judged s) v;
      };
      taken = refl;
    }

-- each session has the mark that it had
abbrev had_in : State → Condition → Session → Bool
had_in s k x =
    elim k [
      | condition.Up ↦ has_lock s x
      | condition.NoServer ↦ x.marked
      | condition.Doubt n ↦ x.marked
    ]

unmarked : (s : State) (k : Condition) → (k ≡ condition.Up → ⊥) → with_marks (had_in s k) s.sessions ≡ s.sessions
unmarked s condition.Up down = absurd (down refl)
unmarked s condition.NoServer down = marks_kept s.sessions
unmarked s (condition.Doubt n) down = marks_kept s.sessions

-- where it isn't, the call is done if the devices do well
module _ (s : State) (k : Condition) (is : s.condition ≡ k) (down : k ≡ condition.Up → ⊥) (free : Admits s command.Restart) where
  abbrev Tells : Bool → State → Reply → Type 0
  Tells taken after r = IsTelling s command.Restart taken after r

  given : (found : Found) → call_verdict found s (OfAdmin Restarts) ≡ Leaves (restarted (is_taken found.anew) s) reply.Done
  given found = admitted found s command.Restart free ∙ comes_to found s k is ∙ unless_up found s k down

  leaves_so : (reading : Reading) → IsTrue (leaves (call_verdict (found_by reading s) s (OfAdmin Restarts)))
  leaves_so reading = ap leaves (given (found_by reading s))

  pub restart_wanting : Tells false s (reply.Refused refusal.NoMemory)
  restart_wanting = record {
    act = record { outcome = only Wanting; possible = record { reading = tt; event = (free.served, leaves_so AsKnown); lost = tt }; same = refl };
    taken = refl;
  }

  -- ---- no lock server could be made

  -- the sessions are as they were
  pub sessions_kept : (read : Option Bool) (sessions : List Session) (r : Reply) → sessions ≡ s.sessions
      → Tells false (doubted s (OfAdmin Restarts) read s.in_flight) r
      → Tells false (record (doubted s (OfAdmin Restarts) read s.in_flight) { sessions = sessions }) r
  sessions_kept read sessions r same h =
      let marks : with_marks (had_lock s) s.sessions ≡ s.sessions = ap (λ c. with_marks (had_in s c) s.sessions) is ∙ unmarked s k down in
      subst (λ xs. Tells false (record (doubted s (OfAdmin Restarts) read s.in_flight) { sessions = xs }) r) (marks ∙ sym same) h

  -- what was read of the change in flight
  abbrev reading_of : Option Bool → Reading
  reading_of None = AsKnown
  reading_of (Some taken) = Reopens taken

  abbrev MayHaveRead : Option Bool → Type 0
  MayHaveRead read = IfSome read (MayFind s)

  may_read : (read : Option Bool) → MayHaveRead read → MayRead (reading_of read) s (OfAdmin Restarts)
  may_read None may = tt
  may_read (Some taken) may = may

  reads_it : (read : Option Bool) → read_anew (reading_of read) ≡ read
  reads_it None = refl
  reads_it (Some taken) = refl

  -- for a reason of its own
  in_vain : (fault : RemakeFault) (read : Option Bool) → MayHaveRead read
      → Tells false (doubted s (OfAdmin Restarts) read s.in_flight) (reply.Refused (fault_told fault))
  in_vain fault read may = record {
    act = record {
      outcome = record { event = NotRemade fault; reading = reading_of read; lost = false };
      possible = record { reading = may_read read may; event = (leaves_so (reading_of read), refl); lost = tt };
      same = ap (λ b. refused (doubted s (OfAdmin Restarts) b s.in_flight) (fault_told fault)) (reads_it read);
    };
    taken = refl;
  }

  -- since the disk failed
  unfiled_so : (read : Option Bool) → MayHaveRead read → Tells false (doubted s (OfAdmin Restarts) read s.in_flight) (reply.Refused refusal.BackupFault)
  unfiled_so read may = record {
    act = record {
      outcome = record { event = BackupFails; reading = reading_of read; lost = false };
      possible = record { reading = may_read read may; event = (leaves_so (reading_of read), refl); lost = tt };
      same = ap (λ v. refused (unfiled s (OfAdmin Restarts) (read_anew (reading_of read)) (stored_before_file s (OfAdmin Restarts) v)) refusal.BackupFault)
          (given (found_by (reading_of read) s))
          ∙ ap (λ b. refused (doubted s (OfAdmin Restarts) b s.in_flight) refusal.BackupFault) (reads_it read);
    };
    taken = refl;
  }

  -- since the store failed
  unread_so : is_doubt k ≡ true → Tells false (doubted s (OfAdmin Restarts) None s.in_flight) (reply.Refused refusal.StoreFault)
  unread_so doubt = record {
    act = record {
      outcome = only StoreFails;
      possible = record { reading = tt; event = (leaves_so AsKnown, ap is_doubt is ∙ doubt); lost = tt };
      same = ap (λ v. refused (doubted s (OfAdmin Restarts) None (in_flight_after s (OfAdmin Restarts) v)) refusal.StoreFault) (given (found_in s));
    };
    taken = refl;
  }

  told_as : (read : Option Bool) (r q : Refusal) → r ≡ q → Tells false (doubted s (OfAdmin Restarts) read s.in_flight) (reply.Refused q)
      → Tells false (doubted s (OfAdmin Restarts) read s.in_flight) (reply.Refused r)
  told_as read r q why h = subst (λ x. Tells false (doubted s (OfAdmin Restarts) read s.in_flight) (reply.Refused x)) (sym why) h

  -- by its backup file
  pub not_remade : (fault : OpenFault) (r : Refusal) (read : Option Bool) → r ≡ remake_refusal fault → MayHaveRead read
      → Tells false (doubted s (OfAdmin Restarts) read s.in_flight) (reply.Refused r)
  not_remade opening.Failed r read why may = told_as read r refusal.BackupFault why (unfiled_so read may)
  not_remade (opening.Bad place) r read why may = told_as read r (fault_told (FindsBad place)) why (in_vain (FindsBad place) read may)
  not_remade opening.NoMemory r read why may = told_as read r refusal.NoMemory why (in_vain MeetsWant read may)

  none_read : (read : Option Bool) → read ≡ None → Tells false (doubted s (OfAdmin Restarts) None s.in_flight) (reply.Refused refusal.StoreFault)
      → Tells false (doubted s (OfAdmin Restarts) read s.in_flight) (reply.Refused refusal.StoreFault)
  none_read read none h = subst (λ b. Tells false (doubted s (OfAdmin Restarts) b s.in_flight) (reply.Refused refusal.StoreFault)) (sym none) h

  -- by its store
  pub not_read : is_doubt k ≡ true → (r : Refusal) (read : Option Bool) → IsReadFault r read → MayHaveRead read
      → Tells false (doubted s (OfAdmin Restarts) read s.in_flight) (reply.Refused r)
  not_read doubt refusal.StoreFault read why may = none_read read why (unread_so doubt)
  not_read doubt refusal.NoMemory read why may = in_vain MeetsWant read may
  not_read doubt (refusal.Unsound (bad.Store table row)) read why may = in_vain (FindsBadStore table row) read may
  not_read doubt _ read why may = absurd why

  -- ---- one was made

  made_of : (read : Option Bool) → MayHaveRead read → IsTable (recovered_table (settled (is_taken read) s))
      → Tells (is_taken read) (restarted (is_taken read) s) reply.Done
  made_of None may good = record {
    act = record {
      outcome = all_well;
      possible = record { reading = tt; event = subst LeavesTable (sym (given (found_in s))) good; lost = tt };
      same = ap (judged s) (given (found_in s));
    };
    taken = refl;
  }
  made_of (Some taken) may good = record {
    act = record {
      outcome = record { event = AllWell; reading = Reopens taken; lost = false };
      possible = record { reading = may; event = subst LeavesTable (sym (given (found_by (Reopens taken) s))) good; lost = tt };
      same = ap (judged s) (given (found_by (Reopens taken) s));
    };
    taken = refl;
  }

  -- what it has of the store and of the table, of sessions and orders
  pub record IsMadeOf (read : Option Bool) (after : List Session) (orders : List (Option UnitKey)) (table : Table) (ledger : Ledger) : Type 0 where
    pub stored : ledger ≡ stored_anew (is_taken read) s.stored s.in_flight
    pub bereaved : after ≡ map (bereft_if s.failed_caller) s.sessions
    pub idle : orders ≡ replicate 256 None
    pub made : table ≡ recovered s.max_locks (open_locks ledger)
    pub good : IsTable table

  pub remakes : (read : Option Bool) (after : List Session) (orders : List (Option UnitKey)) (table : Table) (ledger : Ledger)
      → MayHaveRead read → IsMadeOf read after orders table ledger
      → Tells (is_taken read) (remade_state s after orders table ledger (Done (is_taken read))) reply.Done
  remakes read after orders table ledger may h =
      let new : recovered_table (settled (is_taken read) s) ≡ table =
      ap (λ (l : Ledger). recovered s.max_locks (open_locks l)) (sym h.stored) ∙ sym h.made in
      subst (λ t. Tells (is_taken read) t reply.Done)
      (λ i. record s {
        condition = condition.Up;
        sessions = sym h.bereaved i;
        orders = sym h.idle i;
        locks = (new i).entries;
        limit = (new i).limit;
        taken_over = false;
        attached = false;
        stored = sym h.stored i;
        in_flight = None;
        found = None;
        failed_caller = None;
      })
      (made_of read may (subst IsTable (sym new) h.good))

-- ---- what is left of the file

-- a list of one of these units stays
entries_left : (units : List UnitLocks) (away : List UnitKey) (l : List Handed) (unit : UnitKey) → is_one_of units unit ≡ true
    → entries_of (left units away l) unit ≡ entries_of l unit
entries_left units away [] unit own = refl
entries_left units away (h ∷ l) unit own =
    let rest = entries_left units away l unit own in
    elim (cases_Bool (stays units away h)) [
      | inl kept ↦
          ap (λ b. entries_of (cond b (h ∷ left units away l) (left units away l)) unit) kept
          ∙ ap (λ es. if same_unit h.unit unit then h.entries else es) rest
      | inr freed ↦
          ap (λ b. entries_of (cond b (h ∷ left units away l) (left units away l)) unit) freed
          ∙ rest
          ∙ sym (ap (λ b. if b then h.entries else entries_of l unit) (other h freed (same_unit h.unit unit) refl))
    ]
  where
    other : (h : Handed) → stays units away h ≡ false → (b : Bool) → same_unit h.unit unit ≡ b → same_unit h.unit unit ≡ false
    other h freed true same =
        let is : h.unit ≡ unit = one_unit h.unit unit same in
        let none : is_one_of units unit ≡ false = ap (is_one_of units) (sym is) ∙ (or_parts (is_one_of units h.unit) _ freed).0 in
        absurd (cc)
    other h freed false apart = apart

-- so the open units agree still
left_agree : (ledger : Ledger) (away : List UnitKey) (lists : List Handed) → AgreeAll ledger lists → AgreeAll ledger (left (open_locks ledger) away lists)
left_agree ledger away lists h =
    all_agree ledger (left (open_locks ledger) away lists) (λ unit waits.
    each_agree ledger lists h unit waits ∙ sym (entries_left (open_locks ledger) away lists unit (one_of_open ledger unit waits)))

-- ---- by what is known of the change in flight

-- what was read is right; and where nothing was, nothing is in flight
abbrev pub IsReadRight : Option Bool → Option Bool → Ledger → Option Ledger → Type 0
IsReadRight None found stored in_flight = (in_flight ≡ None) × (found ≡ None)
IsReadRight (Some taken) found stored in_flight = (IsTrue taken → IsInFlight stored in_flight) × IsAsBefore found taken

abbrev AgreesAs : Option Bool → Ledger → Option Ledger → List Handed → Type 0
AgreesAs found stored in_flight lists = UnlessTaken found (AgreeAll stored lists) × UnlessUntaken found (OfInFlight in_flight (λ ledger. AgreeAll ledger lists))

-- lists agree with what was found
agree_found : (read found : Option Bool) (stored : Ledger) (in_flight : Option Ledger) (lists : List Handed) → IsReadRight read found stored in_flight
    → AgreesAs found stored in_flight lists → AgreeAll (stored_anew (is_taken read) stored in_flight) lists
agree_found None found stored in_flight lists right h = (subst (λ f. AgreesAs f stored in_flight lists) right.1 h).0
agree_found (Some false) None stored in_flight lists right h = h.0
agree_found (Some false) (Some false) stored in_flight lists right h = h.0
agree_found (Some false) (Some true) stored in_flight lists right h = let odd = right.1 in absurd (cc)
agree_found (Some true) found stored None lists right h = absurd (right.0 refl)
agree_found (Some true) None stored (Some changed) lists right h = h.1
agree_found (Some true) (Some false) stored (Some changed) lists right h = let odd = right.1 in absurd (cc)
agree_found (Some true) (Some true) stored (Some changed) lists right h = h.1

-- and so they agree with all that it may be from then on
agrees_then : (read found : Option Bool) (stored : Ledger) (in_flight : Option Ledger) (lists : List Handed) → IsReadRight read found stored in_flight
    → AgreeAll (stored_anew (is_taken read) stored in_flight) lists → AgreesAs (known_behind found read) stored in_flight lists
agrees_then None found stored in_flight lists right h =
    subst (λ f. AgreesAs f stored in_flight lists) (sym right.1) (h, subst (λ p. OfInFlight p (λ ledger. AgreeAll ledger lists)) (sym right.0) tt)
agrees_then (Some false) found stored in_flight lists right h = (h, tt)
agrees_then (Some true) found stored None lists right h = (tt, tt)
agrees_then (Some true) found stored (Some changed) lists right h = (tt, h)

recovers_so : (n : ℕ) (found : Option Bool) (stored : Ledger) (in_flight : Option Ledger) (image : List ℕ) (lists : List Handed) → Stands image lists
    → AgreesAs found stored in_flight lists → RecoversFrom (condition.Doubt n) stored in_flight found image
recovers_so n found stored in_flight image lists stood h = record { lists = lists; stands = stood; agree = h.0; flight_agrees = h.1; only = tt }

-- an image that follows another one, by this fault
left_stands : (ledger : Ledger) (lists : List Handed) (fault : OpenFault) (old image : List ℕ) → AgreeAll ledger lists → Stands old lists
    → LeavesLists (open_locks ledger) fault old image → (less : List Handed) × Stands image less × AgreeAll ledger less
left_stands ledger lists opening.Failed old image agree stood h =
    let less = h.lists lists stood in (left (open_locks ledger) less.gone lists, less.stands, left_agree ledger less.gone lists agree)
left_stands ledger lists (opening.Bad place) old image agree stood h = (lists, h.states lists stood, agree)
left_stands ledger lists opening.NoMemory old image agree stood h =
    let less = h.lists lists stood in (left (open_locks ledger) less.gone lists, less.stands, left_agree ledger less.gone lists agree)

module _ {D : Type 0} (tells : Bool) (reads : D → List ℕ) (may_leave : D → List ℕ → Type 0) (faults : D → ℕ) where
  module _ (k : Condition) (stored : Ledger) (in_flight : Option Ledger) (found read : Option Bool) (right : IsReadRight read found stored in_flight)
      (old : BackupView D) (all : AllRecover tells may_leave k stored in_flight found old) where
    -- what each image stands for agrees with what was found
    pub found_stands : IsTrue tells → (image : List ℕ) → may_leave old.disk image
        → (lists : List Handed) × Stands image lists × AgreeAll (stored_anew (is_taken read) stored in_flight) lists
    found_stands t image may =
        let h = all t image may in (h.lists, h.stands, agree_found read found stored in_flight h.lists right (h.agree, h.flight_agrees))

    -- a file that was made anew in vain
    pub left_recovers : (units : List UnitLocks) (new : BackupView D) (fault : OpenFault) → units ≡ open_locks (stored_anew (is_taken read) stored in_flight)
        → (IsTrue tells → Follows (LeavesLists units fault) (may_leave old.disk) (may_leave new.disk)) → (calls : ℕ)
        → AllRecover tells may_leave (condition.Doubt (calls + 1)) stored in_flight (known_behind found read) new
    left_recovers units new fault are images calls = λ t image may.
        let before = images t image may in
        let h = found_stands t before.0 before.1 in
        let less =
        left_stands (stored_anew (is_taken read) stored in_flight) h.0 fault before.0 image h.2 h.1
        (subst (λ us. LeavesLists us fault before.0 image) are before.2) in
        recovers_so (calls + 1) (known_behind found read) stored in_flight image less.0 less.1 (agrees_then read found stored in_flight less.0 right less.2)

    -- and one that wasn't touched, where something was read
    pub same_recovers : (new : BackupView D) → new ≡ old → (calls : ℕ) → AllRecover tells may_leave (condition.Doubt (calls + 1)) stored in_flight
        (known_behind found read) new
    same_recovers new same calls = λ t image may.
        let h = found_stands t image (subst (λ (f : BackupView D). may_leave f.disk image) same may) in
        recovers_so (calls + 1) (known_behind found read) stored in_flight image h.0 h.1 (agrees_then read found stored in_flight h.0 right h.2)

  -- or nothing
  pub untouched_recovers : (k : Condition) (stored : Ledger) (in_flight : Option Ledger) (found : Option Bool) (old new : BackupView D) → new ≡ old
      → AllRecover tells may_leave k stored in_flight found old → (calls : ℕ)
      → AllRecover tells may_leave (condition.Doubt (calls + 1)) stored in_flight found new
  untouched_recovers k stored in_flight found old new same all calls = λ t image may.
      let h = all t image (subst (λ (f : BackupView D). may_leave f.disk image) same may) in
      recovers_so (calls + 1) found stored in_flight image h.lists h.stands (h.agree, h.flight_agrees)

  -- where one was made it is ready
  pub remade_lists : (ledger : Ledger) (units : List UnitLocks) (bytes : List ℕ) (new : BackupView D) → units ≡ open_locks ledger → new.failed ≡ false
      → AreKnown new.units (locking units) → (IsTrue tells → IsRecovered reads may_leave bytes units new) → HasOpenLists tells reads may_leave ledger new
  remade_lists ledger units bytes new are usable known read = record {
    usable = usable;
    standing = known_waiting ledger new.units (subst (λ us. AreKnown new.units (locking us)) are known);
    ready = λ t.
        let h = recovered_lists reads may_leave bytes ledger new (subst (λ us. IsRecovered reads may_leave bytes us new) are (read t)) in
        record { lists = h.0; ready = h.1; just = h.2 };
  }

-- ---- the disk's count of faults

pub remake_counts : (fault : OpenFault) (r : Refusal) (before now : ℕ) → r ≡ remake_refusal fault → CountsFault fault before now
    → HasFileCause before now (reply.Refused r)
remake_counts opening.Failed r before now why h = subst (λ x. HasFileCause before now (reply.Refused x)) (sym why) h
remake_counts (opening.Bad place) r before now why h = subst (λ x. HasFileCause before now (reply.Refused x)) (sym why) h
remake_counts opening.NoMemory r before now why h = subst (λ x. HasFileCause before now (reply.Refused x)) (sym why) h

-- and the store's, which stands still
pub remake_quiet : (fault : OpenFault) (r : Refusal) (before now : ℕ) → r ≡ remake_refusal fault → now ≡ before → HasStoreCause before now (reply.Refused r)
remake_quiet opening.Failed r before now why h = subst (λ x. HasStoreCause before now (reply.Refused x)) (sym why) h
remake_quiet (opening.Bad place) r before now why h = subst (λ x. HasStoreCause before now (reply.Refused x)) (sym why) h
remake_quiet opening.NoMemory r before now why h = subst (λ x. HasStoreCause before now (reply.Refused x)) (sym why) h
