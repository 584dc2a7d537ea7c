-- Calls over the fields of what is present: what a call does that is due, and what holds of all that is present behind it.
use Rattle.std.proofs.Common.{◌≡◌, ℕ, ◌+◌, ◌≤◌, Bool, true, false, List, [], ◌∷◌, length, is_some, refl, sym, ap, ◌∙◌, subst, arith}
use Rattle.std.specs.List.{AllByRecursion}
use Rattle.std.specs.Prelude.{IfSome, IsTrue, Option, None}
use Rattle.enq_base.specs.declared.condition.Condition.{Condition}
use Rattle.enq_base.specs.declared.condition.Condition.TheVariants.{Up}
use Rattle.enq_server.specs.Replica.{IsLostWith, KeepsOn, ReplicaView}
use Rattle.enq_server.specs.Server.{Server}
use Rattle.enq_server.proofs.lemmas.Replicas.{keeps_none}
use Rattle.keeper_api.specs.Keeping.{IsOnly}
use Rattle.keeper_api.specs.Rows.{Rows}
use Rattle.lock_entry.specs.declared.entry.Entry.{Entry}
use Rattle.posting.specs.BooksView.{BooksView, IsUsable}
use Rattle.backup_file.specs.Backup.{BackupView}
use Rattle.hall_model.specs.Acts.{Admits, IsAct}
use Rattle.hall_model.specs.Calls.{Call, OfSession, LogsOff, Asks, Frees, FreesAll, Converts, RollsBack, call_of, renews_replica, restarts, ships, touches_file, wants_server}
use Rattle.hall_model.specs.Devices.{reaches_store}
use Rattle.hall_model.specs.Kept.{IsKept, IsYoung, OutsideDoubt}
use Rattle.hall_model.specs.State.{State, attached_in}
use Rattle.hall_model.specs.declared.command.Command.{Command}
use Rattle.hall_model.specs.declared.command.PastEntry.{PastEntry}
use Rattle.hall_model.specs.declared.command.Reply.{Reply}
use Rattle.hall_model.specs.declared.command.Session.{Session}
use Rattle.hall_calls.specs.Filing.{AllRecover, ChangesLevels, DoesFile, HasOpenLists, StandsWritten}
use Rattle.hall_calls.specs.Leaving.{LeavesWritten}
use Rattle.hall_calls.specs.Remaking.{flight_over, no_failure}
use Rattle.hall_calls.specs.Serving.{DoesStore, IsDue, LeavesFile, MayWrite, Serves, is_of_locks, with_calls}
use Rattle.hall_calls.specs.Standing.{IsEnded, IsPresent, Standing}
use Rattle.hall_calls.specs.Storing.{EndsAs}
use Rattle.hall_calls.specs.View.{View}
use Rattle.hall_calls.specs.Written.{IsWritten, OnAnswer, OnFailure, OnStoreFailure, written_reply}
use Rattle.hall_calls.specs.declared.present.Present.TheInside.{Inside}
use Rattle.hall_calls.specs.declared.units.Failure.{Failure}
use Rattle.hall_calls.specs.declared.units.Written.{Written}
use Rattle.hall_calls.proofs.ending.FirstState.{first_leaves}
use Rattle.hall_calls.proofs.ending.AfterStop.{also_answered, answered_leaves, also_failed, leaves_after, usable_after}
use Rattle.hall_calls.proofs.ending.OverFields.{Leaves, LeavesLocks, ends_as, left_by, rewritten, seen, standing, state_in, stood, up}
use Rattle.hall_calls.proofs.ending.OverFile.{beside_images, beside_lists, first_recovers, recovers_after, same_lists, same_recovers}
use Rattle.hall_calls.proofs.ending.StateBehind.{LoseAlike, caller_of, kept_ranges, none_before, ranges_without, written_act, written_state}
use Rattle.hall_calls.proofs.lemmas.WithHistory.{acts_as, does_store, due_serving, due_up, outside, posted_limit, posted_stays}
use Rattle.hall_calls.proofs.replica.EachCall.{never_remakes, serves_as}
use Rattle.hall_calls.proofs.replica.Shipping.{shipped, shipped_written, stays_in, stays_same, stays_shipped}
use Rattle.hall_calls.proofs.verdicts.EachCall.{at_state}
use Rattle.ledger_steps.specs.declared.part.Part.{Part}
use Rattle.ledger_steps.specs.Parts.{is_first}

-- ---- what a call finds that is due

pub record Finds {T K D L : Type 0} (held : K → Option Rows) (is_open : K → Type 0) (tells : Bool) (reads : D → List ℕ) (disk_may_leave : D → List ℕ → Type 0)
    (applied : L → Option (List Entry)) (old : Inside T K D L) (past : List PastEntry) : Type 0 where
  pub kept : IsKept (state_in held applied old past)
  pub usable : IsUsable held is_open old.books
  pub filed : HasOpenLists tells reads disk_may_leave old.books.ledger old.locks.file
  -- no change is in flight
  pub still : (old.failure.in_flight ≡ None) × (old.failure.found ≡ None)

pub finds : {T K D L : Type 0} {held : K → Option Rows} {is_open : K → Type 0} {may_leave : K → Rows → Type 0} {tells : Bool} {reads : D → List ℕ}
    {disk_may_leave : D → List ℕ → Type 0} (applied : L → Option (List Entry)) (old : Inside T K D L) {was : View K D L} {past : List PastEntry} {c : Command}
    → IsPresent held is_open may_leave tells reads disk_may_leave old.condition old.books old.failure old.locks
    → seen held applied old ≡ was → IsDue was.state past c → restarts (call_of c) ≡ false
    → Finds held is_open tells reads disk_may_leave applied old past
finds {held = held} {is_open = is_open} {tells = tells} {reads = reads} {disk_may_leave = disk_may_leave} applied old {was = was} {past = past} {c = c}
    present is due off =
    let here : IsDue (state_in held applied old []) past c = subst (λ (v : View _ _ _). IsDue v.state past c) (sym is) due in
    let serving = due_serving (state_in held applied old []) past c off here in
    record {
      kept = here.kept;
      usable = outside old.condition (IsUsable held is_open old.books) serving present.usable;
      filed = outside old.condition (HasOpenLists tells reads disk_may_leave old.books.ledger old.locks.file) serving present.filed;
      still = (
        none_before old.failure old.books.ledger
            (outside old.condition (flight_over old.books.ledger old.failure ≡ None) serving here.kept.steady.settled),
        outside old.condition (old.failure.found ≡ None) serving here.kept.steady.unknown,
      );
    }

young_more : (n m : ℕ) (xs : List Session) → n ≤ m → AllByRecursion (IsYoung n) xs → AllByRecursion (IsYoung m) xs
young_more n m [] within h = tt
young_more n m (x ∷ xs) within h = (omega (arith, within, h.0), young_more n m xs within h.1)

next_within : (n : ℕ) → n ≤ 262144 → n + 1 ≤ 262145
next_within n within = omega (arith, within)

-- the units of each session after as many calls as a history keeps
pub young : {s : State} → IsKept s → AllByRecursion (IsYoung 262145) s.sessions
young {s = s} kept = young_more (length s.past + 1) 262145 s.sessions (next_within (length s.past) kept.within) kept.few.units

-- a call that wants a server finds it up
pub finds_up : {T K D L : Type 0} (held : K → Option Rows) (applied : L → Option (List Entry)) (old : Inside T K D L) {was : View K D L} {past : List PastEntry}
    {c : Command} → seen held applied old ≡ was → IsDue was.state past c → wants_server (call_of c) ≡ true → old.condition ≡ Up
finds_up held applied old {was = was} {past = past} {c = c} is due wants =
    due_up (state_in held applied old []) past c wants (subst (λ (v : View _ _ _). IsDue v.state past c) (sym is) due)

-- ---- what holds of all that is present

module _ {K D L : Type 0} {held : K → Option Rows} {is_open : K → Type 0} {may_leave : K → Rows → Type 0} {tells : Bool} {reads : D → List ℕ}
    {disk_may_leave : D → List ℕ → Type 0} where
  -- before any call
  pub present_first : (b : BooksView K) (t : Server D L) {f : Failure} → f ≡ no_failure
      → ((keeper : K) → is_open keeper → IfSome (held keeper) (λ rows. IsOnly rows (may_leave keeper))) → IsUsable held is_open b
      → HasOpenLists tells reads disk_may_leave b.ledger t.file → t.stands ≡ true
      → IsPresent held is_open may_leave tells reads disk_may_leave Up b f t
  present_first b t is settled usable filed stands =
      subst (λ (f : Failure). IsPresent held is_open may_leave tells reads disk_may_leave Up b f t) (sym is) (record {
        usable = usable;
        left = first_leaves (held b.keeper) (may_leave b.keeper) b.ledger (answered_leaves held is_open may_leave b settled usable);
        filed = filed;
        lists = first_recovers tells reads disk_may_leave (λ d. 0) b.ledger t.file filed;
        stands = stands;
      })

  -- behind a call of the lock server, which leaves the file as it is
  pub present_locked : {k : Condition} {b : BooksView K} {f : Failure} {t : Server D L} (now : Server D L)
      → IsPresent held is_open may_leave tells reads disk_may_leave k b f t → now.file ≡ t.file → now.stands ≡ t.stands
      → IsPresent held is_open may_leave tells reads disk_may_leave k b f now
  present_locked {k = k} {b = b} {f = f} {t = t} now present file stands = record {
    usable = present.usable;
    left = present.left;
    filed = subst (λ x. OutsideDoubt k (HasOpenLists tells reads disk_may_leave b.ledger x)) (sym file) present.filed;
    lists = subst (λ x. AllRecover tells disk_may_leave k b.ledger (flight_over b.ledger f) f.found x) (sym file) present.lists;
    stands = stands ∙ present.stands;
  }

  -- behind a call that uses store and file
  pub present_written : {T : Type 0} {applied : L → Option (List Entry)} {old : Inside T K D L} {past : List PastEntry}
      (now : Inside T K D L) {e : Standing D L} {calls start : ℕ} {caller : Option (List ℕ)} {w : Written} {said : Reply}
      → Finds held is_open tells reads disk_may_leave applied old past → IsEnded (standing (left_by old now)) e calls start caller w said
      → OnAnswer w (IsUsable held is_open now.books) → LeavesWritten held may_leave now.books w
      → OnAnswer w (HasOpenLists tells reads disk_may_leave now.books.ledger now.locks.file)
      → (IsTrue tells → (image : List ℕ) → disk_may_leave now.locks.file.disk image → StandsWritten now.books.ledger w image)
      → IsPresent held is_open may_leave tells reads disk_may_leave e.condition now.books e.failure e.locks
  present_written {old = old} now {e = e} {calls = calls} {caller = caller} {w = w} found end usable left lists images =
      let count : D → ℕ = λ d. 0 in
      let ledger = now.books.ledger in
      record {
        usable = usable_after (IsUsable held is_open now.books) old.condition e.condition calls w end.condition usable;
        left = leaves_after held may_leave now.books old.failure e.failure caller w end.failure found.still.0 found.still.1 left;
        filed =
            same_lists tells reads disk_may_leave count e.condition ledger now.locks.file e.locks.file end.file
            (usable_after (HasOpenLists tells reads disk_may_leave ledger now.locks.file) old.condition e.condition calls w end.condition lists);
        lists =
            same_recovers tells reads disk_may_leave count e.condition ledger (flight_over ledger e.failure) e.failure.found now.locks.file e.locks.file
            end.file
            (recovers_after tells reads disk_may_leave count ledger now.locks.file old.failure e.failure caller old.condition e.condition calls w
            found.still end.failure end.condition images);
        stands = end.stands;
      }

  -- behind a call that leaves the file, and writes a level at most
  pub present_books : {T : Type 0} {applied : L → Option (List Entry)} {old : Inside T K D L} {past : List PastEntry}
      (now : Inside T K D L) {e : Standing D L} {calls start : ℕ} {caller : Option (List ℕ)} {w : Written} {said : Reply}
      → Finds held is_open tells reads disk_may_leave applied old past → IsEnded (standing (left_by old now)) e calls start caller w said
      → OnAnswer w (IsUsable held is_open now.books) → LeavesWritten held may_leave now.books w → now.locks.file ≡ old.locks.file
      → ChangesLevels old.books.ledger now.books.ledger w
      → IsPresent held is_open may_leave tells reads disk_may_leave e.condition now.books e.failure e.locks
  present_books {old = old} now {w = w} found end usable left same levels =
      let count : D → ℕ = λ d. 0 in
      let before = old.books.ledger in
      let ledger = now.books.ledger in
      present_written now found end usable left
      (subst (λ (f : BackupView D). OnAnswer w (HasOpenLists tells reads disk_may_leave ledger f)) (sym same)
      (beside_lists tells reads disk_may_leave count before ledger old.locks.file w levels found.filed))
      (subst (λ (f : BackupView D). IsTrue tells → (image : List ℕ) → disk_may_leave f.disk image → StandsWritten ledger w image) (sym same)
      (beside_images tells reads disk_may_leave count before ledger old.locks.file w levels found.filed))

-- ---- what a call leaves

-- a call of a server that is up leaves what one that is up would
pub leaves_up : {T K D L : Type 0} {held : K → Option Rows} {applied : L → Option (List Entry)} {c : Command} {w : Written} {past : List PastEntry}
    {old now : Inside T K D L} → old.condition ≡ Up → Leaves held applied c w past (up old) now → Leaves held applied c w past old now
leaves_up {held = held} {applied = applied} {c = c} {w = w} {past = past} {old = old} {now = now} is left =
    subst (λ (o : Inside _ _ _ _). Leaves held applied c w past o now) (λ i. record old { condition = sym is i }) left

-- the lock server is as it was
pub locks_same : {T K D L : Type 0} {applied : L → Option (List Entry)} {call : Call} {w : Written} {old now : Inside T K D L} → now.locks ≡ old.locks
    → LeavesLocks applied call w old now
locks_same {applied = applied} {call = call} {w = w} {old = old} {now = now} same =
    subst (λ (t : Server _ _). LeavesLocks applied call w old (record now { locks = t })) (sym same)
    (record { told = refl; limit = also_answered _ w refl; stays = stays_same call _ _ _ })

-- a server that is up has changed its table
pub locks_up : {T K D L : Type 0} {applied : L → Option (List Entry)} {faults refusals : L → ℕ} {call : Call} {w : Written} (old now : Inside T K D L)
    → ships call ≡ true → KeepsOn applied faults refusals old.locks.replica now.locks.replica → now.locks.table.limit ≡ old.locks.table.limit
    → IsLostWith old.locks.replica now.locks.replica old.locks.table now.locks.table → LeavesLocks applied call w (up old) now
locks_up {call = call} {w = w} old now may keeps limit lost = record {
  told = keeps.told;
  limit = also_answered (now.locks.table.limit ≡ old.locks.table.limit) w limit;
  stays = stays_shipped call old.locks.replica.attached now.locks.replica.attached old.locks.table now.locks.table may keeps.kept limit lost;
}

-- a V1 part has changed it, which a server that is up posts
pub locks_posted : {T K D L : Type 0} {applied : L → Option (List Entry)} {faults refusals : L → ℕ} {call : Call} {w : Written} (part : Part)
    (old now : Inside T K D L) → ships call ≡ is_first part → (is_first part ≡ true → old.condition ≡ Up)
    → KeepsOn applied faults refusals old.locks.replica now.locks.replica → now.locks.table.limit ≡ old.locks.table.limit
    → IsLostWith old.locks.replica now.locks.replica old.locks.table now.locks.table → (is_first part ≡ false → now.locks.replica ≡ old.locks.replica)
    → LeavesLocks applied call w old now
locks_posted {applied = applied} {call = call} {w = w} part old now is on keeps limit lost replicas = record {
  told = keeps.told;
  limit = also_answered _ w (posted_limit applied old.condition old.max_locks part old.locks now.locks limit on replicas);
  stays = posted_stays applied old.condition old.max_locks part call old.locks now.locks is on limit replicas keeps.kept lost;
}

-- neither sessions nor orders nor ranges have changed
pub leaves_else : {T K D L : Type 0} {held : K → Option Rows} {applied : L → Option (List Entry)} {c : Command} {w : Written} {past : List PastEntry}
    {old now : Inside T K D L} → now.sessions ≡ old.sessions → now.orders.items ≡ old.orders.items → now.ranges ≡ old.ranges
    → ranges_without (call_of c) old.ranges ≡ old.ranges
    → is_some (held now.books.keeper) ≡ is_some (held old.books.keeper) → OnStoreFailure w (now.books.ledger ≡ old.books.ledger)
    → OnFailure w (LoseAlike old.books.ledger.start old.locks.table.entries now.locks.table.entries old.sessions) → LeavesLocks applied (call_of c) w old now
    → (flight_over old.books.ledger old.failure ≡ None → Admits (state_in held applied old past) c
    → IsWritten (state_in held applied old past) c (rewritten held applied old now past) w)
    → Leaves held applied c w past old now
leaves_else {c = c} {w = w} {old = old} {now = now} sessions orders ranges without told ledger lost locks written = record {
  told = told;
  ledger = ledger;
  sessions = also_failed (now.sessions ≡ old.sessions) w sessions;
  orders = also_failed (now.orders.items ≡ old.orders.items) w orders;
  ranges = kept_ranges (call_of c) w old.ranges now.ranges without (also_failed (now.ranges ≡ old.ranges) w ranges);
  lost = lost;
  locks = locks;
  written = written;
}

-- what it does to the store, by how it ends
pub wrote : {K : Type 0} {held : K → Option Rows} {is_open : K → Type 0} {may_leave : K → Rows → Type 0} {faults : K → ℕ} {old new : BooksView K} {w : Written}
    → EndsAs held is_open may_leave faults old new w → MayWrite held may_leave faults old.keeper new.keeper (written_reply w)
wrote ends = record { told = ends.told; cause = ends.cause; kept = ends.kept }

-- ---- a call by another name

pub due_as : {s : State} {past : List PastEntry} {c d : Command} → c ≡ d → IsDue s past c → IsDue s past d
due_as {s = s} {past = past} is due = subst (IsDue s past) is due

pub called_as : {K D L : Type 0} {held : K → Option Rows} {may_leave : K → Rows → Type 0} {faults : K → ℕ} {disk_faults : D → ℕ} {gives : L → List Entry}
    {applied : L → Option (List Entry)} {link_faults refusals : L → ℕ} {old new : View K D L} {past : List PastEntry} {c d : Command} {r : Reply} → c ≡ d
    → Serves held may_leave faults disk_faults gives applied link_faults refusals old new past d r
    → Serves held may_leave faults disk_faults gives applied link_faults refusals old new past c r
called_as {held = held} {may_leave = may_leave} {faults = faults} {disk_faults = disk_faults} {gives = gives} {applied = applied} {link_faults = link_faults}
    {refusals = refusals} {old = old} {new = new} {past = past} {r = r} is served =
    subst (λ (x : Command). Serves held may_leave faults disk_faults gives applied link_faults refusals old new past x r) (sym is) served

-- ---- the calls of the lock server

-- what the calls are that the lock server alone answers
pub record AsksServer (call : Call) : Type 0 where
  pub wants : wants_server call ≡ true
  pub may : ships call ≡ true
  pub renews : renews_replica call ≡ false
  pub reaches : (s : State) → reaches_store s call ≡ false
  pub touches : touches_file call ≡ false

false_not_true : false ≡ true → ⊥
false_not_true e = cc

pub asks_server : (call : Call) → is_of_locks call ≡ true → AsksServer call
asks_server (OfSession session LogsOff) of = record { wants = refl; may = refl; renews = refl; reaches = λ s. refl; touches = refl }
asks_server (OfSession session (Asks requests)) of = record { wants = refl; may = refl; renews = refl; reaches = λ s. refl; touches = refl }
asks_server (OfSession session (Frees requests)) of = record { wants = refl; may = refl; renews = refl; reaches = λ s. refl; touches = refl }
asks_server (OfSession session FreesAll) of = record { wants = refl; may = refl; renews = refl; reaches = λ s. refl; touches = refl }
asks_server (OfSession session (Converts wanted)) of = record { wants = refl; may = refl; renews = refl; reaches = λ s. refl; touches = refl }
asks_server (OfSession session RollsBack) of = record { wants = refl; may = refl; renews = refl; reaches = λ s. refl; touches = refl }
asks_server call of = absurd (false_not_true of)

-- ---- a call by itself

true_not_false : true ≡ false → ⊥
true_not_false e = cc

-- a call that touches the store has nothing to show where it doesn't
pub never : {P : Type 0} → true ≡ false → P
never e = absurd (true_not_false e)

module _ {T K D L : Type 0} (held : K → Option Rows) (applied : L → Option (List Entry)) where
  -- a call that uses the store, where it fails too
  written_call : (old now : Inside T K D L) (e : Standing D L) (past : List PastEntry) (c : Command) (w : Written) (said : Reply)
      → restarts (call_of c) ≡ false → IsDue (state_in held applied old []) past c → Leaves held applied c w past old now
      → IsEnded (standing (left_by old now)) e (length past) old.books.ledger.start (caller_of (call_of c)) w said
      → IsAct (state_in held applied old past) c (state_in held applied (stood (left_by old now) e) past) said
  written_call old now e past c w said off due left end =
      let s : State = state_in held applied old past in
      let serving = due_serving (state_in held applied old []) past c off due in
      let none : flight_over old.books.ledger old.failure ≡ None =
      outside old.condition (flight_over old.books.ledger old.failure ≡ None) serving due.kept.steady.settled in
      let unfailed : old.failure.caller ≡ None = outside old.condition (old.failure.caller ≡ None) serving due.kept.steady.unfailed in
      let on : Bool = attached_in old.condition now.locks.replica.attached in
      let put : State = rewritten held applied old now past in
      let after : State = written_state s (call_of c) (record put { attached = on }) w in
      let act : IsAct s c after (written_reply w) =
      written_act s c (record put { attached = on }) w
      (shipped_written s c put on w
      (stays_in old.condition (call_of c) old.locks.replica.attached now.locks.replica.attached s.locks put.locks left.locks.stays) due.admits refl
      (left.written none due.admits)) in
      acts_as s c after (state_in held applied (stood (left_by old now) e) past) (written_reply w) said act
      (ends_as held applied c past w old now e said none unfailed left end) end.reply

module _ {K D L : Type 0} {held : K → Option Rows} {may_leave : K → Rows → Type 0} {faults : K → ℕ} {disk_faults : D → ℕ} {gives : L → List Entry}
    {applied : L → Option (List Entry)} {link_faults refusals : L → ℕ} where
  -- a call that touches neither the store nor the file
  pub serves_apart : {old was new : View K D L} {past : List PastEntry} {c : Command} {r said : Reply} → old ≡ was → IsDue was.state past c
      → reaches_store old.state (call_of c) ≡ false → touches_file (call_of c) ≡ false → renews_replica (call_of c) ≡ false
      → new.keeper ≡ old.keeper → new.file ≡ old.file → KeepsOn applied link_faults refusals old.replica new.replica → said ≡ r
      → (Admits (with_calls old.state past) c → IsAct (with_calls old.state past) c (with_calls new.state past) r)
      → Serves held may_leave faults disk_faults gives applied link_faults refusals was new past c said
  serves_apart {old = old} {new = new} {past = past} {c = c} {said = said} is due off unfiled still keeper file keeps same act =
      let here : IsDue old.state past c = subst (λ (v : View K D L). IsDue v.state past c) (sym is) due in
      let never = never_remakes (call_of c) still in
      subst (λ (v : View K D L). Serves held may_leave faults disk_faults gives applied link_faults refusals v new past c said) is
      (serves_as held may_leave faults disk_faults gives applied link_faults refusals old new past c said still
      (subst (IsAct (with_calls old.state past) c (with_calls new.state past)) (sym same) (act here.admits))
      (subst (λ b. DoesStore held may_leave faults b (reaches_store old.state (call_of c)) old.keeper new.keeper said) (sym never)
      (subst (λ b. DoesStore held may_leave faults false b old.keeper new.keeper said) (sym off) keeper))
      (subst (λ b. LeavesFile disk_faults b (touches_file (call_of c)) old.file new.file said) (sym never)
      (subst (λ b. DoesFile disk_faults b old.file new.file said) (sym unfiled) file))
      keeps)

  -- a call that the lock server alone answers
  pub serves_locked : {T : Type 0} (old now : Inside T K D L) {was : View K D L} {past : List PastEntry} {c : Command} {r said : Reply}
      → seen held applied old ≡ was → IsDue was.state past c → is_of_locks (call_of c) ≡ true → now.locks.file ≡ old.locks.file
      → KeepsOn applied link_faults refusals old.locks.replica now.locks.replica → now.locks.table.limit ≡ old.locks.table.limit
      → IsLostWith old.locks.replica now.locks.replica old.locks.table now.locks.table → said ≡ r
      → (Admits (state_in held applied (up old) past) c → IsAct (state_in held applied (up old) past) c
      (record (state_in held applied (up old) past) { sessions = now.sessions; locks = now.locks.table.entries }) r)
      → Serves held may_leave faults disk_faults gives applied link_faults refusals was
      (seen held applied (record old { sessions = now.sessions; locks = now.locks })) past c said
  serves_locked {T = T} old now {past = past} {c = c} {r = r} is due of file keeps limit lost same act =
      let asks = asks_server (call_of c) of in
      let on : old.condition ≡ Up = finds_up held applied old is due asks.wants in
      let new : Inside T K D L = record old { sessions = now.sessions; locks = now.locks } in
      let s : State = state_in held applied (up old) past in
      let later : State = state_in held applied (up new) past in
      let done : State = record s { sessions = now.sessions; locks = now.locks.table.entries } in
      let done_up : Admits s c → IsAct s c later r = λ room.
      at_state s c (record done { attached = now.locks.replica.attached }) later r
      (λ i. record later { limit = sym limit i; link_told = sym keeps.told i })
      (shipped s c done r now.locks.replica.attached
      (stays_shipped (call_of c) old.locks.replica.attached now.locks.replica.attached old.locks.table now.locks.table asks.may keeps.kept limit lost)
      room refl (act room)) in
      serves_apart is due (asks.reaches (state_in held applied old [])) asks.touches asks.renews refl file keeps same
      (subst (λ k. Admits (state_in held applied (record old { condition = k }) past) c → IsAct (state_in held applied (record old { condition = k }) past) c
      (state_in held applied (record new { condition = k }) past) r) (sym on) done_up)

  -- a call that uses the store, by what it does to the store and to the file
  pub serves_written : {T : Type 0} (old now : Inside T K D L) {e : Standing D L} {was : View K D L} {past : List PastEntry} {c : Command} {w : Written}
      {said : Reply} → seen held applied old ≡ was → IsDue was.state past c → renews_replica (call_of c) ≡ false
      → IsEnded (standing (left_by old now)) e (length past) old.books.ledger.start (caller_of (call_of c)) w said
      → Leaves held applied c w past old now
      → DoesStore held may_leave faults (restarts (call_of c)) (reaches_store (state_in held applied old []) (call_of c)) old.books.keeper now.books.keeper
      (written_reply w)
      → LeavesFile disk_faults (restarts (call_of c)) (touches_file (call_of c)) old.locks.file now.locks.file (written_reply w)
      → KeepsOn applied link_faults refusals old.locks.replica now.locks.replica
      → Serves held may_leave faults disk_faults gives applied link_faults refusals was (seen held applied (stood (left_by old now) e)) past c said
  serves_written old now {e = e} {past = past} {c = c} {w = w} {said = said} is due renews end left store file keeps =
      let here : IsDue (state_in held applied old []) past c = subst (λ (v : View K D L). IsDue v.state past c) (sym is) due in
      let new : View K D L = seen held applied (stood (left_by old now) e) in
      let reaches : Bool = reaches_store (state_in held applied old []) (call_of c) in
      subst (λ (v : View K D L). Serves held may_leave faults disk_faults gives applied link_faults refusals v new past c said) is
      (serves_as held may_leave faults disk_faults gives applied link_faults refusals (seen held applied old) new past c said renews
      (written_call held applied old now e past c w said (never_remakes (call_of c) renews) here left end)
      (subst (λ r. DoesStore held may_leave faults (restarts (call_of c)) reaches old.books.keeper now.books.keeper r) (sym end.reply) store)
      (subst (λ (f : BackupView D). LeavesFile disk_faults (restarts (call_of c)) (touches_file (call_of c)) old.locks.file f said) (sym end.file)
      (subst (λ r. LeavesFile disk_faults (restarts (call_of c)) (touches_file (call_of c)) old.locks.file now.locks.file r) (sym end.reply) file))
      (subst (λ (q : ReplicaView L). KeepsOn applied link_faults refusals old.locks.replica q) (sym end.replica) keeps))

  -- the same of one that wants a server
  pub serves_up : {T : Type 0} (old now : Inside T K D L) {e : Standing D L} {was : View K D L} {past : List PastEntry} {c : Command} {w : Written}
      {said : Reply} → seen held applied old ≡ was → IsDue was.state past c → wants_server (call_of c) ≡ true → renews_replica (call_of c) ≡ false
      → IsEnded (standing (left_by old now)) e (length past) old.books.ledger.start (caller_of (call_of c)) w said
      → Leaves held applied c w past (up old) now
      → DoesStore held may_leave faults (restarts (call_of c)) (reaches_store (state_in held applied old []) (call_of c)) old.books.keeper now.books.keeper
      (written_reply w)
      → LeavesFile disk_faults (restarts (call_of c)) (touches_file (call_of c)) old.locks.file now.locks.file (written_reply w)
      → KeepsOn applied link_faults refusals old.locks.replica now.locks.replica
      → Serves held may_leave faults disk_faults gives applied link_faults refusals was (seen held applied (stood (left_by old now) e)) past c said
  serves_up old now is due wants renews end left store file keeps =
      serves_written old now is due renews end (leaves_up (finds_up held applied old is due wants) left) store file keeps

  -- the same of one that leaves file and lock server
  pub serves_books : {T : Type 0} (old now : Inside T K D L) {e : Standing D L} {was : View K D L} {past : List PastEntry} {c : Command} {w : Written}
      {said : Reply} → seen held applied old ≡ was → IsDue was.state past c → renews_replica (call_of c) ≡ false → touches_file (call_of c) ≡ false
      → now.locks ≡ old.locks
      → IsEnded (standing (left_by old now)) e (length past) old.books.ledger.start (caller_of (call_of c)) w said
      → Leaves held applied c w past old now
      → MayWrite held may_leave faults old.books.keeper now.books.keeper (written_reply w)
      → (reaches_store (state_in held applied old []) (call_of c) ≡ false → now.books.keeper ≡ old.books.keeper)
      → Serves held may_leave faults disk_faults gives applied link_faults refusals was (seen held applied (stood (left_by old now) e)) past c said
  serves_books old now {c = c} {w = w} is due renews untouched same end left may still =
      let off = never_remakes (call_of c) renews in
      let reaches : Bool = reaches_store (state_in held applied old []) (call_of c) in
      let r : Reply = written_reply w in
      serves_written old now is due renews end left
      (subst (λ b. DoesStore held may_leave faults b reaches old.books.keeper now.books.keeper r) (sym off)
      (does_store held may_leave faults reaches old.books.keeper now.books.keeper r may still))
      (subst (λ b. LeavesFile disk_faults b (touches_file (call_of c)) old.locks.file now.locks.file r) (sym off)
      (subst (λ b. DoesFile disk_faults b old.locks.file now.locks.file r) (sym untouched) (ap (λ (t : Server D L). t.file) same)))
      (subst (λ (t : Server D L). KeepsOn applied link_faults refusals old.locks.replica t.replica) (sym same)
      (keeps_none applied link_faults refusals old.locks.replica))
