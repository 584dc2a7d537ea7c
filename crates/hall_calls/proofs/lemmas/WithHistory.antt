-- A call, apart from its place in the history and with it.
use Rattle.std.proofs.Common.{◌≡◌, inl, inr, ℕ, Bool, true, false, List, [], ◌∷◌, refl, sym, ap, ◌∙◌, subst}
use Rattle.std.specs.Prelude.{if◌then◌else◌, IsTrue, Option, Some, None, is_some}
use Rattle.std.proofs.lemmas.Bool.{and_parts}
use Rattle.enq_base.specs.declared.condition.Condition.{Condition}
use Rattle.enq_base.specs.declared.condition.Condition.TheVariants.{Up}
use Rattle.lock_entry.specs.Table.{Table}
use Rattle.lock_entry.specs.declared.entry.Entry.{Entry}
use Rattle.enq_base.specs.declared.condition.Condition.TheVariants as condition
use Rattle.enq_base.specs.declared.refusal.Refusal.{Refusal}
use Rattle.enq_base.specs.declared.refusal.Refusal.TheVariants as refusal
use Rattle.enq_server.specs.Replica.{IsLostWith, ReplicaView, told_list}
use Rattle.enq_server.specs.Server.{Server, replicated}
use Rattle.keeper_api.specs.Keeping.{IsWithin}
use Rattle.keeper_api.specs.Rows.{Rows}
use Rattle.hall_model.specs.Acts.{Admits, IsAct, IsTelling}
use Rattle.hall_calls.specs.Written.{OnFailure, locks_posted}
use Rattle.hall_model.specs.Calls.{Call, post_of, LogsOn, OfSession, OfWorker, OfAdmin, Kills, FailsOver, Restarts, Attaches, Cancels, Resubmits, SessionCall}
use Rattle.hall_model.specs.Calls.{LogsOff, Asks, Frees, FreesAll, Converts, Draws, Reserves, Reads, Commits, RollsBack, Takes, Posts, Drops, call_of, restarts}
use Rattle.hall_model.specs.Calls.{session_touches_file, ships, touches_file, wants_server}
use Rattle.hall_model.specs.Devices.{MayBeDone, all_well, reaches_store, session_reaches_store, session_uses_file, session_uses_store, uses_file, uses_store}
use Rattle.hall_calls.specs.Filing.{DoesFile, HasFileCause, KeepsFile, MayFile}
use Rattle.hall_model.specs.History.{IsGiven, Served, is_unrecorded, judged}
use Rattle.hall_model.specs.Kept.{OutsideDoubt}
use Rattle.hall_calls.specs.Leaving.{HasStoreCause, KeepsStore}
use Rattle.hall_calls.specs.Serving.{DoesStore, IsDue, LeavesFile, MayWrite, with_calls}
use Rattle.hall_model.specs.State.{State}
use Rattle.hall_model.specs.Step.{barred, caller_refusal, down_refusal, found_in, is_full, or_else, server_refusal, unavailable}
use Rattle.hall_model.specs.declared.command.Command.{Command}
use Rattle.hall_model.specs.declared.command.Command.TheVariants as command
use Rattle.hall_model.specs.declared.command.PastEntry.{PastEntry}
use Rattle.hall_model.specs.declared.command.Reply.{Reply}
use Rattle.hall_model.specs.declared.command.Reply.TheVariants as reply
use Rattle.hall_model.specs.declared.command.Session.{Session}
use Rattle.hall_calls.specs.declared.units.Written.{Written}
use Rattle.hall_calls.specs.declared.units.Written.TheVariants.{Answered, Failed, Unfiled}
use Rattle.model_laws.proofs.ByCall.{ArePlain, plain_unavailable}
use Rattle.model_laws.proofs.BarredCalls.{refused_verdict}
use Rattle.model_laws.proofs.PlainRefusals.{IsPlain}
use Rattle.hall_calls.proofs.ending.StateBehind.{LoseAlike, locks_of}
use Rattle.model_laws.proofs.NotedCalls.{full_or}
use Rattle.hall_calls.proofs.verdicts.EachCall.{refused_done}
use Rattle.hall_calls.proofs.verdicts.FoundChange.{shut_by_history}
use Rattle.hall_calls.proofs.ending.AfterStop.{plain_quiet, same_keeps, untouched_keeps}
use Rattle.hall_calls.proofs.ending.OverFile.{any_file, plain_file}
use Rattle.hall_calls.proofs.replica.Shipping.{Stays, stays_same, stays_shipped}
use Rattle.hall_calls.proofs.lemmas.Replies.{fault_uses_file, fault_uses_store, unnoted_same}
use Rattle.backup_file.specs.Backup.{BackupView}
use Rattle.ledger_steps.specs.declared.part.Part.{Part}
use Rattle.ledger_steps.specs.Parts.{is_first}
use Rattle.model_laws.proofs.PartOrders.{post_is}

true_not_false : true ≡ false → ⊥
true_not_false e = cc

-- ---- what nothing bars

-- calls are served
abbrev pub IsServing : Condition → Type 0
IsServing condition.Up = Unit {0}
IsServing condition.NoServer = Unit {0}
IsServing (condition.Doubt n) = ⊥

pub outside : (k : Condition) (P : Type 0) → IsServing k → OutsideDoubt k P → P
outside condition.Up P serving h = h
outside condition.NoServer P serving h = h
outside (condition.Doubt n) P serving h = absurd serving

none_first : (o later : Option Refusal) → or_else o later ≡ None → o ≡ None
none_first None later e = refl
none_first (Some r) later e = cc

none_later : (o later : Option Refusal) → or_else o later ≡ None → later ≡ None
none_later None later e = e
none_later (Some r) later e = cc

pub not_barred : (s : State) (call : Call) → unavailable s call ≡ None → barred s call ≡ None
not_barred s call free = none_first (barred s call) _ free

-- a call that no doubt bars, but for a restart, finds the server not in doubt
serving_in : (full : Bool) (k : Condition) (call : Call) → restarts call ≡ false → (if full then Some refusal.LogFull else down_refusal k call) ≡ None
    → IsServing k
serving_in true k call off e = cc
serving_in false condition.Up call off e = tt
serving_in false condition.NoServer call off e = tt
serving_in false (condition.Doubt n) call off e = let shut : Some (refusal.Down n) ≡ None = sym (ap (λ b. if b then None else Some (refusal.Down n)) off) ∙ e in
    cc

-- it finds the server up, or a call that wants none without a server
pub is_serving : (s : State) (c : Command) → restarts (call_of c) ≡ false → Admits s c → IsServing s.condition
is_serving s c off free = serving_in (is_full s) s.condition (call_of c) off (not_barred s (call_of c) free.served)

-- a restart wants no server
pub wants_none : (call : Call) → wants_server call ≡ true → restarts call ≡ false
wants_none (LogsOn name user) wants = refl
wants_none (OfSession name call) wants = refl
wants_none (OfWorker worker call) wants = refl
wants_none (OfAdmin Kills) wants = refl
wants_none (OfAdmin FailsOver) wants = refl
wants_none (OfAdmin Restarts) wants = cc
wants_none (OfAdmin Attaches) wants = refl
wants_none (OfAdmin (Cancels unit)) wants = refl
wants_none (OfAdmin (Resubmits unit)) wants = refl

up_in : (k : Condition) (call : Call) → IsServing k → wants_server call ≡ true → server_refusal k call ≡ None → k ≡ Up
up_in condition.Up call serving wants e = refl
up_in condition.NoServer call serving wants e = let refused : Some refusal.SystemFailure ≡ None =
    sym (ap (λ b. if b then Some refusal.SystemFailure else None) wants) ∙ e in cc
up_in (condition.Doubt n) call serving wants e = absurd serving

pub server_up : (s : State) (c : Command) → wants_server (call_of c) ≡ true → Admits s c → s.condition ≡ Up
server_up s c wants free =
    up_in s.condition (call_of c) (is_serving s c (wants_none (call_of c) wants) free) wants
    (none_later (caller_refusal s.sessions (call_of c)) _ (none_later (barred s (call_of c)) _ free.served))

-- ---- a call apart from its place in the history

pub acts_as : (s : State) (c : Command) (after new : State) (r said : Reply) → IsAct s c after r → new ≡ after → said ≡ r → IsAct s c new said
acts_as s c after new r said act is same = subst (λ x. IsAct s c x said) (sym is) (subst (IsAct s c after) (sym same) act)

pub due_serving : (s : State) (past : List PastEntry) (c : Command) → restarts (call_of c) ≡ false → IsDue s past c → IsServing s.condition
due_serving s past c off due = is_serving (with_calls s past) c off due.admits

pub due_up : (s : State) (past : List PastEntry) (c : Command) → wants_server (call_of c) ≡ true → IsDue s past c → s.condition ≡ Up
due_up s past c wants due = server_up (with_calls s past) c wants due.admits

module _ {D L : Type 0} (applied : L → Option (List Entry)) where
  -- the locks behind a post are those of the table, and where there is no server those of a replica
  pub posted_in : (k : Condition) (x : ℕ) (part : Part) (t t' : Server D L) → (is_first part ≡ true → k ≡ Up)
      → (is_first part ≡ false → t'.table.entries ≡ t.table.entries) → (is_first part ≡ false → t'.replica ≡ t.replica)
      → locks_posted part (locks_of applied k x t).entries t'.table.entries ≡ (locks_of applied k x t').entries
  posted_in k x part t t' up same replicas = by_part (is_first part) up same replicas
    where
      same_as : (q : Condition) → t'.table.entries ≡ t.table.entries → t'.replica ≡ t.replica
          → (locks_of applied q x t).entries ≡ (locks_of applied q x t').entries
      same_as condition.Up e e' = sym e
      same_as condition.NoServer e e' = ap (told_list applied) (sym e')
      same_as (condition.Doubt n) e e' = refl

      by_part : (b : Bool) → (b ≡ true → k ≡ Up) → (b ≡ false → t'.table.entries ≡ t.table.entries) → (b ≡ false → t'.replica ≡ t.replica)
          → (if b then t'.table.entries else (locks_of applied k x t).entries) ≡ (locks_of applied k x t').entries
      by_part true up same replicas = subst (λ q. t'.table.entries ≡ (locks_of applied q x t').entries) (sym (up refl)) refl
      by_part false up same replicas = same_as k (same refl) (replicas refl)

  -- and so is the limit
  pub posted_limit : (k : Condition) (x : ℕ) (part : Part) (t t' : Server D L) → t'.table.limit ≡ t.table.limit → (is_first part ≡ true → k ≡ Up)
      → (is_first part ≡ false → t'.replica ≡ t.replica) → (locks_of applied k x t').limit ≡ (locks_of applied k x t).limit
  posted_limit k x part t t' limit up replicas = by_part (is_first part) up replicas
    where
      same_as : (q : Condition) → t'.replica ≡ t.replica → (locks_of applied q x t').limit ≡ (locks_of applied q x t).limit
      same_as condition.Up e = limit
      same_as condition.NoServer e = ap (λ l. (replicated x l).limit) (ap (told_list applied) e)
      same_as (condition.Doubt n) e = refl

      by_part : (b : Bool) → (b ≡ true → k ≡ Up) → (b ≡ false → t'.replica ≡ t.replica) → (locks_of applied k x t').limit ≡ (locks_of applied k x t).limit
      by_part true up replicas = subst (λ q. (locks_of applied q x t').limit ≡ (locks_of applied q x t).limit) (sym (up refl)) limit
      by_part false up replicas = same_as k (replicas refl)

  -- what follows is lost in one only with other locks
  pub posted_stays : (k : Condition) (x : ℕ) (part : Part) (call : Call) (t t' : Server D L) → ships call ≡ is_first part → (is_first part ≡ true → k ≡ Up)
      → t'.table.limit ≡ t.table.limit → (is_first part ≡ false → t'.replica ≡ t.replica) → (t'.replica.attached ≡ true → t.replica.attached ≡ true)
      → IsLostWith t.replica t'.replica t.table t'.table
      → Stays call t.replica.attached t'.replica.attached (locks_of applied k x t).entries (locks_of applied k x t').entries
  posted_stays k x part call t t' is up limit replicas kept lost = by_part (is_first part) is up replicas
    where
      by_part : (b : Bool) → ships call ≡ b → (b ≡ true → k ≡ Up) → (b ≡ false → t'.replica ≡ t.replica)
          → Stays call t.replica.attached t'.replica.attached (locks_of applied k x t).entries (locks_of applied k x t').entries
      by_part true is up replicas =
          subst (λ q. Stays call t.replica.attached t'.replica.attached (locks_of applied q x t).entries (locks_of applied q x t').entries) (sym (up refl))
          (stays_shipped call t.replica.attached t'.replica.attached t.table t'.table is kept limit lost)
      by_part false is up replicas =
          subst (λ (f : ReplicaView L). Stays call t.replica.attached f.attached (locks_of applied k x t).entries (locks_of applied k x t').entries)
          (sym (replicas refl)) (stays_same call t.replica.attached _ _)

all_alike : (start : ℕ) (es : List Entry) (sessions : List Session) → LoseAlike start es es sessions
all_alike start es [] = tt
all_alike start es (x ∷ sessions) = (refl, all_alike start es sessions)

same_alike : (start : ℕ) (old new : List Entry) (sessions : List Session) → new ≡ old → LoseAlike start old new sessions
same_alike start old new sessions same = subst (λ es. LoseAlike start old es sessions) (sym same) (all_alike start old sessions)

-- a table that is as it was
pub lost_none : (start : ℕ) (old new : Table) (sessions : List Session) (w : Written) → OnFailure w (new ≡ old)
    → OnFailure w (LoseAlike start old.entries new.entries sessions)
lost_none start old new sessions (Answered r) same = tt
lost_none start old new sessions (Failed change) same = same_alike start old.entries new.entries sessions (ap (λ (t : Table). t.entries) same)
lost_none start old new sessions Unfiled same = same_alike start old.entries new.entries sessions (ap (λ (t : Table). t.entries) same)

-- ---- a call that isn't served

pub refused_telling : (s : State) (c : Command) (r : Refusal) → unavailable s (call_of c) ≡ Some r → IsTelling s c false s (reply.Refused r)
refused_telling s c r shut = record {
  act = record {
    outcome = all_well;
    possible = record {
      reading = tt;
      event = subst (MayBeDone (call_of c)) (sym (refused_verdict (found_in s) s (call_of c) r shut)) (refused_done (call_of c) r);
      lost = tt;
    };
    same =
        ap (judged s) (refused_verdict (found_in s) s (call_of c) r shut);
  };
  taken = refl;
}

first_refusal : (o later : Option Refusal) (r first : Refusal) → o ≡ Some first → or_else o later ≡ Some r → r ≡ first
first_refusal None later r first e h = cc
first_refusal (Some x) later r first e h = cc

-- a call that isn't served, but not for a full history, finds room in it
pub refused_room : (s : State) (call : Call) (r : Refusal) → unavailable s call ≡ Some r → is_unrecorded (reply.Refused r) ≡ false → is_full s ≡ false
refused_room s call r shut noted =
    full_or (is_full s ≡ false) (is_full s)
    (λ full. let is : r ≡ refusal.LogFull = first_refusal (barred s call) _ r refusal.LogFull (shut_by_history s call full) shut in
    absurd (true_not_false (ap (λ q. is_unrecorded (reply.Refused q)) (sym is) ∙ noted)))
    (λ e. e)

pub shut_plain : (s : State) (call : Call) (r : Refusal) → unavailable s call ≡ Some r → IsPlain r
shut_plain s call r shut = subst ArePlain shut (plain_unavailable s call)

pub refused_store : {K : Type 0} (held : K → Option Rows) (may_leave : K → Rows → Type 0) (faults : K → ℕ) (keeper : K) (s : State) (call : Call) (r : Refusal)
    → unavailable s call ≡ Some r → MayWrite held may_leave faults keeper keeper (reply.Refused r)
refused_store held may_leave faults keeper s call r shut =
    record {
      told = refl;
      cause = plain_quiet r (faults keeper) (faults keeper) refl (shut_plain s call r shut);
      kept =
          untouched_keeps held may_leave keeper r;
    }

-- ---- what a call does to the store

session_touches : (s : State) (name : List ℕ) (call : SessionCall) → IsTrue (session_uses_store s name call) → session_reaches_store s call ≡ true
session_touches s name (Draws object nr) uses = uses
session_touches s name (Reserves object nr upto) uses = uses
session_touches s name (Reads table key) uses = refl
session_touches s name (Commits parts stock) uses = refl
session_touches s name LogsOff uses = cc
session_touches s name (Asks rs) uses = cc
session_touches s name (Frees rs) uses = cc
session_touches s name FreesAll uses = cc
session_touches s name (Converts wanted) uses = cc
session_touches s name RollsBack uses = cc

-- a call that uses the store is one that touches it
uses_touches : (s : State) (call : Call) → IsTrue (uses_store s call) → reaches_store s call ≡ true
uses_touches s (LogsOn name user) uses = cc
uses_touches s (OfSession name call) uses = session_touches s name call uses
uses_touches s (OfWorker worker (Takes part)) uses = cc
uses_touches s (OfWorker worker (Posts part)) uses = refl
uses_touches s (OfWorker worker Drops) uses = cc
uses_touches s (OfAdmin Kills) uses = cc
uses_touches s (OfAdmin FailsOver) uses = cc
uses_touches s (OfAdmin Restarts) uses = uses
uses_touches s (OfAdmin Attaches) uses = cc
uses_touches s (OfAdmin (Cancels unit)) uses = refl
uses_touches s (OfAdmin (Resubmits unit)) uses = refl

untouched : (b : Bool) → b ≡ true → b ≡ false → ⊥
untouched true e f = cc
untouched false e f = cc

-- a call that doesn't touch the store is not answered that it failed
quiet_counts : (s : State) (c : Command) (after : State) (r : Reply) (f g : ℕ) → reaches_store s (call_of c) ≡ false → IsAct s c after r → g ≡ f
    → HasStoreCause f g r
quiet_counts s c after (reply.Refused refusal.StoreFault) f g off act e =
    absurd (untouched _ (uses_touches s (call_of c) (fault_uses_store s c after act)) off)
quiet_counts s c after _ f g off act e = e

module _ {K : Type 0} (held : K → Option Rows) (may_leave : K → Rows → Type 0) (faults : K → ℕ) (old new : K) where
  abbrev Does : Bool → Bool → Reply → Type 0
  Does remakes reaches r = DoesStore held may_leave faults remakes reaches old new r

  told_by : (remakes reaches : Bool) (r : Reply) → Does remakes reaches r → is_some (held new) ≡ is_some (held old)
  told_by true true r h = h.told
  told_by false true r h = h.told
  told_by true false r h = ap (λ k. is_some (held k)) h
  told_by false false r h = ap (λ k. is_some (held k)) h

  cause_by : (remakes reaches : Bool) (r : Reply) → (reaches ≡ false → faults new ≡ faults old → HasStoreCause (faults old) (faults new) r)
      → Does remakes reaches r → HasStoreCause (faults old) (faults new) r
  cause_by true true r quiet h = h.cause
  cause_by false true r quiet h = h.cause
  cause_by true false r quiet h = quiet refl (ap faults h)
  cause_by false false r quiet h = quiet refl (ap faults h)

  kept_by : (remakes reaches : Bool) (r : Reply) → remakes ≡ false → Does remakes reaches r → KeepsStore held may_leave old new r
  kept_by true reaches r off h = absurd (cc)
  kept_by false true r off h = h.kept
  kept_by false false r off h = same_keeps held may_leave old new r h

  within_by : (remakes reaches : Bool) (r : Reply) → remakes ≡ true → Does remakes reaches r → IsWithin (may_leave new) (may_leave old)
  within_by true true r on h = h.within
  within_by true false r on h = subst (λ k. IsWithin (may_leave k) (may_leave old)) (sym h) (λ rows may. may)
  within_by false reaches r on h = absurd (cc)

  -- what any call does to the store
  module _ (s : State) (c : Command) (r : Reply) (does : Does (restarts (call_of c)) (reaches_store s (call_of c)) r) where
    pub store_told : is_some (held new) ≡ is_some (held old)
    store_told = told_by (restarts (call_of c)) (reaches_store s (call_of c)) r does

    pub store_caused : (after : State) → IsAct s c after r → HasStoreCause (faults old) (faults new) r
    store_caused after act =
        cause_by (restarts (call_of c)) (reaches_store s (call_of c)) r (λ off same. quiet_counts s c after r (faults old) (faults new) off act same) does

    pub store_kept : restarts (call_of c) ≡ false → KeepsStore held may_leave old new r
    store_kept off = kept_by (restarts (call_of c)) (reaches_store s (call_of c)) r off does

    pub store_within : restarts (call_of c) ≡ true → IsWithin (may_leave new) (may_leave old)
    store_within on = within_by (restarts (call_of c)) (reaches_store s (call_of c)) r on does

    pub same_keeper : reaches_store s (call_of c) ≡ false → new ≡ old
    same_keeper off = same_by (restarts (call_of c)) (subst (λ b. Does (restarts (call_of c)) b r) off does)
      where
        same_by : (remakes : Bool) → Does remakes false r → new ≡ old
        same_by true h = h
        same_by false h = h

-- a call but a restart that touches the store in some cases
pub does_store : {K : Type 0} (held : K → Option Rows) (may_leave : K → Rows → Type 0) (faults : K → ℕ) (b : Bool) (old new : K) (r : Reply)
    → MayWrite held may_leave faults old new r → (b ≡ false → new ≡ old) → DoesStore held may_leave faults false b old new r
does_store held may_leave faults true old new r may same = may
does_store held may_leave faults false old new r may same = same refl

-- ---- what a call does to the backup file

pub refused_file : {D : Type 0} (faults : D → ℕ) (file : BackupView D) (s : State) (call : Call) (r : Refusal) → unavailable s call ≡ Some r
    → MayFile faults file file (reply.Refused r)
refused_file faults file s call r shut =
    record { cause = plain_file r (faults file.disk) (faults file.disk) refl (shut_plain s call r shut); kept = any_file file (reply.Refused r) }

file_session_touches : (s : State) (name : List ℕ) (call : SessionCall) → IsTrue (session_uses_file s name call) → session_touches_file call ≡ true
file_session_touches s name (Commits parts stock) uses = refl
file_session_touches s name (Draws object nr) uses = cc
file_session_touches s name (Reserves object nr upto) uses = cc
file_session_touches s name (Reads table key) uses = cc
file_session_touches s name LogsOff uses = cc
file_session_touches s name (Asks rs) uses = cc
file_session_touches s name (Frees rs) uses = cc
file_session_touches s name FreesAll uses = cc
file_session_touches s name (Converts wanted) uses = cc
file_session_touches s name RollsBack uses = cc

-- a call that uses the file is one that touches it
uses_touches_file : (s : State) (call : Call) → IsTrue (uses_file s call) → touches_file call ≡ true
uses_touches_file s (LogsOn name user) uses = cc
uses_touches_file s (OfSession name call) uses = file_session_touches s name call uses
uses_touches_file s (OfWorker worker (Takes part)) uses = cc
uses_touches_file s (OfWorker worker (Posts part)) uses = (and_parts _ _ uses).0
uses_touches_file s (OfWorker worker Drops) uses = cc
uses_touches_file s (OfAdmin Kills) uses = cc
uses_touches_file s (OfAdmin FailsOver) uses = cc
uses_touches_file s (OfAdmin Restarts) uses = refl
uses_touches_file s (OfAdmin Attaches) uses = cc
uses_touches_file s (OfAdmin (Cancels unit)) uses = refl
uses_touches_file s (OfAdmin (Resubmits unit)) uses = refl

-- a call that doesn't touch the file is not answered that the disk failed
quiet_file : (s : State) (c : Command) (after : State) (r : Reply) (f g : ℕ) → touches_file (call_of c) ≡ false → IsAct s c after r → g ≡ f → HasFileCause f g r
quiet_file s c after (reply.Refused refusal.BackupFault) f g off act e =
    absurd (untouched _ (uses_touches_file s (call_of c) (fault_uses_file s c after act)) off)
quiet_file s c after _ f g off act e = e

file_by : {D : Type 0} (faults : D → ℕ) (old new : BackupView D) (s : State) (c : Command) (after : State) (r : Reply) (b : Bool) → touches_file (call_of c) ≡ b
    → IsAct s c after r → DoesFile faults b old new r → MayFile faults old new r
file_by faults old new s c after r true e act h = h
file_by faults old new s c after r false e act h =
    subst (λ f. MayFile faults old f r) (sym h)
    (record { cause = quiet_file s c after r (faults old.disk) (faults old.disk) e act refl; kept = any_file old r })

-- what any call may do to it
any_call_file : {D : Type 0} (faults : D → ℕ) (old new : BackupView D) (s : State) (c : Command) (after : State) (r : Reply) → IsAct s c after r
    → DoesFile faults (touches_file (call_of c)) old new r → MayFile faults old new r
any_call_file faults old new s c after r act h = file_by faults old new s c after r (touches_file (call_of c)) refl act h

pub file_cause : {D : Type 0} (faults : D → ℕ) (old new : BackupView D) (s : State) (c : Command) (after : State) (r : Reply) → IsAct s c after r
    → LeavesFile faults (restarts (call_of c)) (touches_file (call_of c)) old new r
    → HasFileCause (faults old.disk) (faults new.disk) r
file_cause faults old new s c after r act h =
    elim (restarts (call_of c)) as (λ b. LeavesFile faults b (touches_file (call_of c)) old new r → HasFileCause (faults old.disk) (faults new.disk) r) [
      | true ↦ λ k. k
      | false ↦ λ k. (any_call_file faults old new s c after r act k).cause
    ] h

pub file_kept : {D : Type 0} (faults : D → ℕ) (old new : BackupView D) (s : State) (c : Command) (after : State) (r : Reply) → IsAct s c after r
    → LeavesFile faults (restarts (call_of c)) (touches_file (call_of c)) old new r
    → restarts (call_of c) ≡ false → KeepsFile old new r
file_kept faults old new s c after r act h off =
    (any_call_file faults old new s c after r act (subst (λ b. LeavesFile faults b (touches_file (call_of c)) old new r) off h)).kept

-- a restart touches the file
restarts_touch : (call : Call) → restarts call ≡ true → touches_file call ≡ true
restarts_touch (LogsOn name user) is = cc
restarts_touch (OfSession name call) is = cc
restarts_touch (OfWorker worker call) is = cc
restarts_touch (OfAdmin Kills) is = cc
restarts_touch (OfAdmin FailsOver) is = cc
restarts_touch (OfAdmin Restarts) is = refl
restarts_touch (OfAdmin Attaches) is = cc
restarts_touch (OfAdmin (Cancels unit)) is = cc
restarts_touch (OfAdmin (Resubmits unit)) is = cc

pub same_as_filed : {D : Type 0} (faults : D → ℕ) (old new : BackupView D) (c : Command) (r : Reply)
    → LeavesFile faults (restarts (call_of c)) (touches_file (call_of c)) old new r → touches_file (call_of c) ≡ false → new ≡ old
same_as_filed faults old new c r h e =
    elim (restarts (call_of c)) as (λ b. restarts (call_of c) ≡ b → LeavesFile faults b (touches_file (call_of c)) old new r → new ≡ old) [
      | true ↦ λ is k. absurd (untouched (touches_file (call_of c)) (restarts_touch (call_of c) is) e)
      | false ↦ λ is k. subst (λ b. DoesFile faults b old new r) e k
    ] refl h

-- any call but a restart
pub never_restarts : (c : Command) → (c ≡ command.Restart → ⊥) → restarts (call_of c) ≡ false
never_restarts command.Restart other = absurd (other refl)
never_restarts _ other = refl

-- ---- its place in the history

-- a call that isn't recorded changes nothing
pub unrecorded_same : (s : State) (c : Command) (after : State) (r : Reply) → IsAct s c after r → is_unrecorded r ≡ true → after ≡ s
unrecorded_same s c after r act e =
    ap (λ (x : Served). x.state) (sym act.same) ∙ unnoted_same act.outcome s c act.possible.lost (ap (λ (x : Served). is_unrecorded x.reply) act.same ∙ e)

pub given_noted : (made given : Reply) → IsGiven made given → is_unrecorded made ≡ false → is_unrecorded given ≡ false
given_noted made given (inl same) noted = ap is_unrecorded same ∙ noted
given_noted made given (inr (row, is)) noted = ap is_unrecorded is

-- a V2 part isn't one whose locks end
pub posts_file : {D : Type 0} (faults : D → ℕ) (old new : BackupView D) (part : Part) (worker : ℕ) (r : Reply) → MayFile faults old new r
    → (is_first part ≡ false → new ≡ old)
    → LeavesFile faults (restarts (call_of (post_of part worker))) (touches_file (call_of (post_of part worker))) old new r
posts_file faults old new part worker r does unfiled =
    subst (λ call. LeavesFile faults (restarts call) (touches_file call) old new r) (sym (post_is part worker)) (by_part (is_first part) refl)
  where
    by_part : (b : Bool) → is_first part ≡ b → DoesFile faults b old new r
    by_part true e = does
    by_part false e = unfiled e
