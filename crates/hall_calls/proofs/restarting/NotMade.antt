-- A lock server that isn't made anew since the store isn't read, or memory is wanting for the units that wait.
use Rattle.std.proofs.Common.{◌≡◌, ℕ, ◌+◌, Bool, true, false, List, refl, sym, ap, ◌∙◌, subst}
use Rattle.std.specs.Prelude.{Option, Some, None, IfSome, IsTrue, is_some}
use Rattle.backup_file.specs.Backup.{BackupView}
use Rattle.enq_base.specs.declared.condition.Bad.TheVariants as bad
use Rattle.enq_base.specs.declared.condition.Condition.{Condition}
use Rattle.enq_base.specs.declared.condition.Condition.TheVariants as condition
use Rattle.enq_base.specs.declared.owner.UnitKey.{UnitKey}
use Rattle.enq_base.specs.declared.refusal.Refusal.{Refusal}
use Rattle.enq_base.specs.declared.refusal.Refusal.TheVariants as refusal
use Rattle.keeper_api.specs.Keeping.{IsWithin}
use Rattle.keeper_api.specs.Rows.{Rows}
use Rattle.lock_entry.specs.Table.{Table}
use Rattle.posting.specs.BooksView.{BooksView}
use Rattle.update_records.specs.Ledger.{Ledger}
use Rattle.hall_model.specs.Acts.{Admits, IsTelling}
use Rattle.hall_model.specs.Devices.{IsAsBefore, MayFind, is_doubt}
use Rattle.hall_calls.specs.Filing.{AllRecover, HasFileCause}
use Rattle.hall_model.specs.History.{known_behind}
use Rattle.hall_model.specs.Kept.{IsInFlight}
use Rattle.hall_calls.specs.Remaking.{IsLeftReady, IsReadFault, IsUnread, LeavesKnown, LeavesRemade, OnNotRemade, OnRefusedFirst, OnRemade, flight_over}
use Rattle.hall_calls.specs.Remaking.{remade_condition, remade_reply, remade_state, remade_taken}
use Rattle.hall_calls.specs.Serving.{DoesStore}
use Rattle.hall_model.specs.State.{State, is_up}
use Rattle.hall_model.specs.Unsound.{is_unsound_file}
use Rattle.hall_model.specs.declared.command.Command.TheVariants as command
use Rattle.hall_model.specs.declared.command.Reply.TheVariants as reply
use Rattle.hall_model.specs.declared.command.Session.{Session}
use Rattle.hall_calls.specs.declared.remaking.Remade.{Remade}
use Rattle.hall_calls.specs.declared.remaking.Remade.TheVariants.{Done, Refused, InDoubt}
use Rattle.hall_calls.specs.declared.units.Failure.{Failure}
use Rattle.hall_calls.proofs.restarting.MadeAnew.{not_read, restart_wanting, same_recovers, sessions_kept, untouched_recovers}
use Rattle.hall_calls.proofs.lemmas.StoreRead.{unread_known}

-- ---- by what came of it

pub all_not_remade : (remade : Remade) (P : Type 0) → P → OnNotRemade remade P
all_not_remade (Done taken) P h = tt
all_not_remade (Refused r) P h = h
all_not_remade (InDoubt r read) P h = h

pub all_refused_first : (remade : Remade) (P : Type 0) → P → OnRefusedFirst remade P
all_refused_first (Done taken) P h = tt
all_refused_first (Refused r) P h = h
all_refused_first (InDoubt r read) P h = tt

-- without a lock server, or in doubt
pub not_up : (k : Condition) → (k ≡ condition.Up → ⊥) → is_up k ≡ false
not_up condition.Up down = absurd (down refl)
not_up condition.NoServer down = refl
not_up (condition.Doubt n) down = refl

-- the state has what the books and the failure have
pub record IsOf (s : State) (ledger : Ledger) (failure : Failure) : Type 0 where
  pub stored : s.stored ≡ ledger
  pub in_flight : s.in_flight ≡ flight_over ledger failure
  pub found : s.found ≡ failure.found

pub may_find : (s : State) (ledger : Ledger) (failure : Failure) → IsOf s ledger failure → (taken : Bool)
    → (IsTrue taken → IsInFlight ledger (flight_over ledger failure))
    → IsAsBefore failure.found taken → MayFind s taken
may_find s ledger failure h taken flight known = record {
  flight = λ t. subst (λ l. IsInFlight l s.in_flight) (sym h.stored) (subst (IsInFlight ledger) (sym h.in_flight) (flight t));
  known = subst (λ f. IsAsBefore f taken) (sym h.found) known;
}

may_have : (s : State) (ledger : Ledger) (failure : Failure) → IsOf s ledger failure → (read : Option Bool)
    → IfSome read (λ taken. IsTrue taken → IsInFlight ledger (flight_over ledger failure)) → IfSome read (IsAsBefore failure.found) → IfSome read (MayFind s)
may_have s ledger failure h None flight known = tt
may_have s ledger failure h (Some taken) flight known = may_find s ledger failure h taken flight known

fault_filed : (r : Refusal) (read : Option Bool) (n : ℕ) → IsReadFault r read → HasFileCause n n (reply.Refused r)
fault_filed refusal.StoreFault read n why = refl
fault_filed refusal.NoMemory read n why = refl
fault_filed (refusal.Unsound (bad.Store table row)) read n why = refl
fault_filed _ read n why = absurd why

fault_sound : (r : Refusal) (read : Option Bool) → IsReadFault r read → is_unsound_file (reply.Refused r) ≡ false
fault_sound refusal.StoreFault read why = refl
fault_sound refusal.NoMemory read why = refl
fault_sound (refusal.Unsound (bad.Store table row)) read why = refl
fault_sound _ read why = absurd why

module _ {K : Type 0} (held : K → Option Rows) (may_leave : K → Rows → Type 0) (faults : K → ℕ) (k : Condition) (failure : Failure)
    (old new : BooksView K) where
  abbrev Unread : Remade → Type 0
  Unread remade = IsUnread held may_leave faults k failure old new remade

  pub unread_acts : (remade : Remade) → Unread remade → (k ≡ condition.Up → ⊥) → (s : State) → s.condition ≡ k → IsOf s old.ledger failure
      → Admits s command.Restart → (sessions : List Session) (orders : List (Option UnitKey)) (table : Table) (ledger : Ledger) → sessions ≡ s.sessions
      → IsTelling s command.Restart (remade_taken remade) (remade_state s sessions orders table ledger remade) (remade_reply remade)
  unread_acts (Done taken) h down s is own free sessions orders table ledger same = absurd h
  unread_acts (Refused r) h down s is own free sessions orders table ledger same =
      subst (λ x. IsTelling s command.Restart false s (reply.Refused x)) (sym h.0) (restart_wanting s k is down free)
  unread_acts (InDoubt r read) h down s is own free sessions orders table ledger same =
      sessions_kept s k is down free read sessions (reply.Refused r) same
      (not_read s k is down free h.0 r read h.1.why (may_have s old.ledger failure own read h.1.flight h.1.known))

  doubt_down : (c : Condition) → is_doubt c ≡ true → is_up c ≡ false
  doubt_down condition.Up e = absurd (cc)
  doubt_down condition.NoServer e = absurd (cc)
  doubt_down (condition.Doubt n) e = refl

  -- whether a table stands is as it was
  pub unread_stands : (remade : Remade) (stands : Bool) (calls : ℕ) → Unread remade → stands ≡ is_up k → stands ≡ is_up (remade_condition k calls remade)
  unread_stands (Done taken) stands calls h was = absurd h
  unread_stands (Refused r) stands calls h was = was
  unread_stands (InDoubt r read) stands calls h was = was ∙ doubt_down k h.0

  pub unread_usable : (remade : Remade) (P : Type 0) → Unread remade → OnRemade remade P
  unread_usable (Done taken) P h = absurd h
  unread_usable (Refused r) P h = tt
  unread_usable (InDoubt r read) P h = tt

  pub unread_apart : (remade : Remade) → Unread remade → (is_doubt k ≡ false → new ≡ old) → OnRefusedFirst remade (new ≡ old)
  unread_apart (Done taken) h apart = tt
  unread_apart (Refused r) h apart = apart h.1
  unread_apart (InDoubt r read) h apart = tt

  pub unread_store : (remade : Remade) → Unread remade → (is_doubt k ≡ false → new ≡ old) → is_some (held new.keeper) ≡ is_some (held old.keeper)
      → IsWithin (may_leave new.keeper) (may_leave old.keeper) → DoesStore held may_leave faults true (is_doubt k) old.keeper new.keeper (remade_reply remade)
  unread_store (Done taken) h apart told within = absurd h
  unread_store (Refused r) h apart told within =
      subst (λ b. DoesStore held may_leave faults true b old.keeper new.keeper (reply.Refused r)) (sym h.1) (ap (λ (x : BooksView K). x.keeper) (apart h.1))
  unread_store (InDoubt r read) h apart told within =
      subst (λ b. DoesStore held may_leave faults true b old.keeper new.keeper (reply.Refused r)) (sym h.0)
      (record { told = told; cause = h.1.cause; within = within })

  pub unread_left : (remade : Remade) → Unread remade → is_some (held new.keeper) ≡ is_some (held old.keeper)
      → IsWithin (may_leave new.keeper) (may_leave old.keeper)
      → LeavesKnown held may_leave old.keeper failure.found old.ledger (flight_over old.ledger failure)
      → LeavesRemade held may_leave new.keeper old.ledger new.ledger failure remade
  unread_left (Done taken) h told within before = absurd h
  unread_left (Refused r) h told within before =
      unread_known held may_leave old.keeper new.keeper failure.found old.ledger (flight_over old.ledger failure) told within before
  unread_left (InDoubt r read) h told within before = h.1.left

  pub unread_cause : (remade : Remade) (n : ℕ) → Unread remade → HasFileCause n n (remade_reply remade)
  unread_cause (Done taken) n h = absurd h
  unread_cause (Refused r) n h = subst (λ x. HasFileCause n n (reply.Refused x)) (sym h.0) refl
  unread_cause (InDoubt r read) n h = fault_filed r read n h.1.why

  pub unread_sound : (remade : Remade) → Unread remade → is_unsound_file (remade_reply remade) ≡ false
  unread_sound (Done taken) h = absurd h
  unread_sound (Refused r) h = ap (λ x. is_unsound_file (reply.Refused x)) h.0
  unread_sound (InDoubt r read) h = fault_sound r read h.1.why

  module _ {D : Type 0} (tells : Bool) (reads : D → List ℕ) (leaves : D → List ℕ → Type 0) (disk_faults : D → ℕ) where
    known_file : (read : Option Bool) (file : BackupView D) → IfSome read (λ taken. IsTrue taken → IsInFlight old.ledger (flight_over old.ledger failure))
        → IfSome read (IsAsBefore failure.found) → AllRecover tells leaves k old.ledger (flight_over old.ledger failure) failure.found file → (calls : ℕ)
        → AllRecover tells leaves (condition.Doubt (calls + 1)) old.ledger (flight_over old.ledger failure) (known_behind failure.found read) file
    known_file None file flight known all calls =
        untouched_recovers tells reads leaves disk_faults k old.ledger (flight_over old.ledger failure) failure.found file file refl all calls
    known_file (Some taken) file flight known all calls =
        same_recovers tells reads leaves disk_faults k old.ledger (flight_over old.ledger failure) failure.found (Some taken)
        (flight, known) file all file refl calls

    pub unread_file : (remade : Remade) (file : BackupView D) → Unread remade
        → AllRecover tells leaves k old.ledger (flight_over old.ledger failure) failure.found file
        → IsLeftReady tells reads leaves old.ledger new.ledger failure file file remade
    unread_file (Done taken) file h all = absurd h
    unread_file (Refused r) file h all = refl
    unread_file (InDoubt r read) file h all = λ calls. known_file read file h.1.flight h.1.known all calls
