-- The fields of what is present, the state that they are, and what calls leave of them.
use Rattle.std.proofs.Common.{◌≡◌, ◌+◌, false, List, [], length, is_some, sym, ap, ◌∙◌}
use Rattle.std.specs.Prelude.{Option, None}
use Rattle.std.specs.Option.{option_map}
use Rattle.enq_base.specs.declared.condition.Condition.{Condition}
use Rattle.enq_base.specs.declared.condition.Condition.TheVariants as condition
use Rattle.enq_server.specs.Replica.{ReplicaView, told_list}
use Rattle.keeper_api.specs.Rows.{Rows}
use Rattle.lock_entry.specs.declared.entry.Entry.{Entry}
use Rattle.ledger_steps.specs.Steps.{after_step}
use Rattle.hall_model.specs.Acts.{Admits}
use Rattle.hall_model.specs.Calls.{Call, call_of}
use Rattle.hall_model.specs.History.{caller_behind, doubted, had_lock}
use Rattle.hall_model.specs.Sessions.{has_one_of, with_marks}
use Rattle.hall_model.specs.State.{State, attached_in, state_of, unhanded}
use Rattle.hall_model.specs.declared.command.Command.{Command}
use Rattle.hall_model.specs.declared.command.PastEntry.{PastEntry}
use Rattle.hall_model.specs.declared.command.Reply.{Reply}
use Rattle.hall_model.specs.declared.command.Session.{Session}
use Rattle.hall_calls.specs.Remaking.{OnNotRemade, OnRefusedFirst, OnRemade, flight_over, remade_condition, remade_failure, remade_over, remade_state}
use Rattle.hall_calls.specs.Standing.{IsEnded, Standing}
use Rattle.hall_calls.specs.View.{View}
use Rattle.hall_calls.specs.Written.{IsWritten, OnAnswer, OnFailure, OnStoreFailure, marked_in}
use Rattle.hall_calls.specs.declared.present.Present.TheInside.{Inside}
use Rattle.hall_calls.specs.declared.remaking.Remade.{Remade}
use Rattle.hall_calls.specs.declared.remaking.Remade.TheVariants.{Done, Refused, InDoubt}
use Rattle.hall_calls.specs.declared.units.Written.{Written}
use Rattle.hall_calls.specs.declared.units.Written.TheVariants.{Answered, Failed, Unfiled}
use Rattle.hall_calls.proofs.ending.StateBehind.{HasRanges, LoseAlike, caller_as, caller_of, locks_of, marks_alike, marks_kept, same_flight, without_as, written_state}
use Rattle.hall_calls.proofs.replica.Shipping.{Stays}

module _ {T K D L : Type 0} where
  -- what a call left of sessions, orders, ranges, books and lock server
  abbrev pub left_by : (old now : Inside T K D L) → Inside T K D L
  left_by old now = record old { sessions = now.sessions; orders = now.orders; locks = now.locks; ranges = now.ranges; books = now.books }

  -- what a restart left, which leaves the ranges
  abbrev pub remade_by : (old now : Inside T K D L) → Inside T K D L
  remade_by old now = record old {
    condition = now.condition;
    taken_over = now.taken_over;
    sessions = now.sessions;
    orders = now.orders;
    locks = now.locks;
    books = now.books;
    failure = now.failure;
  }

  -- what changes where a device fails
  abbrev pub standing : Inside T K D L → Standing D L
  standing p = record { condition = p.condition; failure = p.failure; sessions = p.sessions; locks = p.locks }

  abbrev pub stood : Inside T K D L → Standing D L → Inside T K D L
  stood p e = record p { condition = e.condition; failure = e.failure; sessions = e.sessions; locks = e.locks }

  -- the same with a server that is up
  abbrev pub up : Inside T K D L → Inside T K D L
  up p = record p { condition = condition.Up }

module _ {T K D L : Type 0} (held : K → Option Rows) (applied : L → Option (List Entry)) where
  -- the state that these fields are, behind these calls
  abbrev pub state_in : Inside T K D L → List PastEntry → State
  state_in p past =
      state_of (is_some (held p.books.keeper)) (is_some (applied p.locks.replica.link)) p.locks.replica.attached p.taken_over p.condition p.sessions
      p.next_session p.orders.items p.locks.table (told_list applied p.locks.replica) p.max_locks p.max_marks p.ranges p.books.ledger
      (flight_over p.books.ledger p.failure) p.failure.found p.failure.caller past

  -- and with the devices, before any call
  abbrev pub seen : Inside T K D L → View K D L
  seen p = record { state = state_in p []; keeper = p.books.keeper; file = p.locks.file; replica = p.locks.replica }

  -- what a call leaves where no device fails, but for what follows
  abbrev pub rewritten : (old now : Inside T K D L) → List PastEntry → State
  rewritten old now past = record (state_in old past) {
    sessions = now.sessions;
    orders = now.orders.items;
    locks = (locks_of applied old.condition old.max_locks now.locks).entries;
    ranges = now.ranges;
    stored = now.books.ledger;
  }

-- what a call leaves of the lock server, and of what follows its table: a link that tells its list as before, a table with the same limit, and a replica that
-- is lost only with other locks
pub record LeavesLocks {T K D L : Type 0} (applied : L → Option (List Entry)) (call : Call) (w : Written) (old now : Inside T K D L) : Type 0 where
  pub told : is_some (applied now.locks.replica.link) ≡ is_some (applied old.locks.replica.link)
  pub limit : OnAnswer w ((locks_of applied old.condition old.max_locks now.locks).limit ≡ (locks_of applied old.condition old.max_locks old.locks).limit)
  pub stays : Stays call old.locks.replica.attached now.locks.replica.attached (locks_of applied old.condition old.max_locks old.locks).entries
      (locks_of applied old.condition old.max_locks now.locks).entries

-- what a call that uses the store leaves, before it ends: where a device failed only what the store may have is another
pub record Leaves {T K D L : Type 0} (held : K → Option Rows) (applied : L → Option (List Entry)) (c : Command) (w : Written) (past : List PastEntry)
    (old now : Inside T K D L) : Type 0 where
  pub told : is_some (held now.books.keeper) ≡ is_some (held old.books.keeper)
  pub ledger : OnStoreFailure w (now.books.ledger ≡ old.books.ledger)
  pub sessions : OnFailure w (now.sessions ≡ old.sessions)
  pub orders : OnFailure w (now.orders.items ≡ old.orders.items)
  pub ranges : HasRanges (call_of c) w old.ranges now.ranges
  pub lost : OnFailure w (LoseAlike old.books.ledger.start old.locks.table.entries now.locks.table.entries old.sessions)
  pub locks : LeavesLocks applied (call_of c) w old now
  pub written : flight_over old.books.ledger old.failure ≡ None → Admits (state_in held applied old past) c
      → IsWritten (state_in held applied old past) c (rewritten held applied old now past) w

module _ {T K D L : Type 0} (held : K → Option Rows) (applied : L → Option (List Entry)) where
  -- the sessions behind a call in which a device failed
  marked_so : (old now : Inside T K D L) (ss : List Session) (past : List PastEntry)
      → LoseAlike old.books.ledger.start old.locks.table.entries now.locks.table.entries old.sessions → now.sessions ≡ old.sessions
      → ss ≡ marked_in old.condition old.books.ledger.start now.locks.table.entries now.sessions
      → ss ≡ with_marks (had_lock (state_in held applied old past)) old.sessions
  marked_so old now ss past alike same is = by_case old.condition is
    where
      by_case : (k : Condition) → ss ≡ marked_in k old.books.ledger.start now.locks.table.entries now.sessions
          → ss ≡ with_marks (had_lock (state_in held applied (record old { condition = k }) past)) old.sessions
      by_case condition.Up h =
          h ∙ (λ i. with_marks (has_one_of old.books.ledger.start (unhanded now.locks.table.entries)) (same i))
          ∙ marks_alike old.books.ledger.start old.locks.table.entries now.locks.table.entries old.sessions alike
      by_case condition.NoServer h = h ∙ same ∙ sym (marks_kept old.sessions)
      by_case (condition.Doubt q) h = h ∙ same ∙ sym (marks_kept old.sessions)

  -- what the fields are behind a call that uses the store
  pub ends_as : (c : Command) (past : List PastEntry) (w : Written) (old now : Inside T K D L) (e : Standing D L) (said : Reply)
      → flight_over old.books.ledger old.failure ≡ None → old.failure.caller ≡ None → Leaves held applied c w past old now
      → IsEnded (standing (left_by old now)) e (length past) old.books.ledger.start (caller_of (call_of c)) w said
      → state_in held applied (stood (left_by old now) e) past
      ≡ written_state (state_in held applied old past) (call_of c)
      (record (rewritten held applied old now past) { attached = attached_in old.condition now.locks.replica.attached }) w
  ends_as c past (Answered r) old now e said none unfailed left end =
      (λ i. state_in held applied (record (left_by old now) {
        condition = end.condition i;
        failure = end.failure i;
        sessions = end.sessions i;
        locks = end.kept i;
      }) past)
      ∙ (λ i. record (state_in held applied (left_by old now) past) {
        told = left.told i;
        link_told = left.locks.told i;
        limit = left.locks.limit i;
        in_flight = same_flight old.failure old.books.ledger now.books.ledger none i;
      })
  ends_as c past (Failed change) old now e said none unfailed left end =
      let s : State = state_in held applied old past in
      let call : Call = call_of c in
      let caller : caller_of call ≡ caller_behind old.failure.caller call = sym (caller_as old.failure.caller call unfailed) in
      let link : is_some (applied e.locks.replica.link) ≡ is_some (applied old.locks.replica.link) =
      ap (λ (q : ReplicaView L). is_some (applied q.link)) end.replica ∙ left.locks.told in
      let marks : e.sessions ≡ with_marks (had_lock s) old.sessions = marked_so old now e.sessions past left.lost left.sessions end.sessions in
      let doubt : Inside T K D L = record (left_by old now) {
        condition = condition.Doubt (length past + 1);
        failure = record old.failure { in_flight = change; caller = caller_of call };
        locks = e.locks;
      } in
      (λ i. record (state_in held applied (record doubt { condition = end.condition i; failure = end.failure i }) past) { sessions = marks i })
      ∙ (λ i. record (state_in held applied doubt past) {
        sessions = with_marks (had_lock s) old.sessions;
        told = left.told i;
        link_told = link i;
        orders = left.orders i;
        ranges = left.ranges i;
        stored = left.ledger i;
        in_flight = option_map (after_step (left.ledger i)) change;
        failed_caller = caller i;
      })
      ∙ ap (λ (x : State). doubted x call None (option_map (after_step old.books.ledger) change)) (sym (without_as call s))
  ends_as c past Unfiled old now e said none unfailed left end =
      let s : State = state_in held applied old past in
      let call : Call = call_of c in
      let caller : caller_of call ≡ caller_behind old.failure.caller call = sym (caller_as old.failure.caller call unfailed) in
      let link : is_some (applied e.locks.replica.link) ≡ is_some (applied old.locks.replica.link) =
      ap (λ (q : ReplicaView L). is_some (applied q.link)) end.replica ∙ left.locks.told in
      let marks : e.sessions ≡ with_marks (had_lock s) old.sessions = marked_so old now e.sessions past left.lost left.sessions end.sessions in
      let doubt : Inside T K D L = record (left_by old now) {
        condition = condition.Doubt (length past + 1);
        failure = record old.failure { caller = caller_of call };
        locks = e.locks;
      } in
      (λ i. record (state_in held applied (record doubt { condition = end.condition i; failure = end.failure i }) past) { sessions = marks i })
      ∙ (λ i. record (state_in held applied doubt past) {
        sessions = with_marks (had_lock s) old.sessions;
        told = left.told i;
        link_told = link i;
        orders = left.orders i;
        ranges = left.ranges i;
        in_flight = same_flight old.failure old.books.ledger now.books.ledger none i;
        failed_caller = caller i;
      })

  -- the fields behind a restart
  pub remade_as : (remade : Remade) (old now : Inside T K D L) (past : List PastEntry)
      → is_some (held now.books.keeper) ≡ is_some (held old.books.keeper) → is_some (applied now.locks.replica.link) ≡ is_some (applied old.locks.replica.link)
      → OnRemade remade (now.locks.replica.attached ≡ false) → OnRefusedFirst remade (now.locks ≡ old.locks)
      → now.condition ≡ remade_condition old.condition (length past) remade → now.taken_over ≡ remade_over old.taken_over remade
      → now.failure ≡ remade_failure old.failure remade → OnNotRemade remade (now.sessions ≡ old.sessions)
      → OnNotRemade remade (now.orders.items ≡ old.orders.items) → OnNotRemade remade (now.books.ledger ≡ old.books.ledger)
      → state_in held applied (remade_by old now) past
      ≡ remade_state (state_in held applied old past) now.sessions now.orders.items now.locks.table now.books.ledger remade
  remade_as (Done taken) old now past told link off still is by failure a b kept =
      λ i. record (state_in held applied (record (remade_by old now) { condition = is i; taken_over = by i; failure = failure i }) past) {
        told = told i;
        link_told = link i;
        attached = attached_in (is i) (off i);
      }
  remade_as (Refused r) old now past told link off still is by failure a b kept =
      λ i. record (state_in held applied (record (remade_by old now) {
        condition = is i;
        taken_over = by i;
        sessions = a i;
        locks = still i;
        books = record now.books { ledger = kept i };
        failure = failure i;
      }) past) { told = told i; orders = b i }
  remade_as (InDoubt r read) old now past told link off still is by failure a b kept =
      λ i. record (state_in held applied (record (remade_by old now) {
        condition = is i;
        taken_over = by i;
        books = record now.books { ledger = kept i };
        failure = failure i;
      }) past) { told = told i; link_told = link i; orders = b i }
