-- With a change in flight there is a state in order; and so all that calls keep is kept by each of them.
use Rattle.std.proofs.Common.{◌≡◌, ℕ, ◌+◌, ◌≤◌, Bool, true, false, cond, List, [], ◌∷◌, ◌++◌, length, refl, sym, ap, ◌∙◌, subst, arith}
use Rattle.std.specs.Prelude.{◌&&◌, if◌then◌else◌, not, IsTrue, Option, Some, None}
use Rattle.std.specs.List.{AllByRecursion}
use Rattle.std.proofs.lemmas.Bool.{false≢true}
use Rattle.std.proofs.lemmas.List.{length-append}
use Rattle.enq_base.specs.declared.unit.Num.{Num}
use Rattle.enq_base.specs.declared.unit.Parts.{Parts}
use Rattle.lock_entry.proofs.lemmas.Naming.{bytes_eq-same}
use Rattle.number_ranges.specs.Intervals.{is_buffered}
use Rattle.ledger_steps.specs.Posts.{kind_for}
use Rattle.ledger_steps.specs.Drawn.{handed_out, num_of}
use Rattle.ledger_steps.specs.Levels.{present}
use Rattle.ledger_steps.specs.declared.range.NumberRange.{NumberRange}
use Rattle.update_records.specs.Ledger.{Ledger}
use Rattle.hall_model.specs.declared.command.Command.{Command}
use Rattle.hall_model.specs.declared.command.PastEntry.{PastEntry}
use Rattle.hall_model.specs.declared.command.Reply.{Reply}
use Rattle.hall_model.specs.declared.command.Session.{Session}
use Rattle.hall_model.specs.Acts.{IsAct}
use Rattle.hall_model.specs.Calls.{Call, LogsOn, OfSession, OfWorker, OfAdmin, Kills, FailsOver, Restarts, Attaches, Cancels, Resubmits, Takes, Posts, Drops}
use Rattle.hall_model.specs.Calls.{call_of, only_reads, restarts, LogsOff, Asks, Frees, FreesAll, Converts, Draws, Reserves, Reads, Commits, RollsBack}
use Rattle.hall_model.specs.Devices.{DeviceOutcome, Event, AllWell, Wanting, StoreFails, BackupFails, LinkFails, NotRemade, IsAllowed, IsTold, MayHappen, MayRead, Reading, found_by}
use Rattle.hall_model.specs.History.{caller_behind, doubted, ends_in, had_lock, in_flight_after, judged, read_anew, served, step, stored_before_file, takes_flight, unfiled, with_entry, without_stock}
use Rattle.hall_model.specs.Kept.{AreSameButCaller, CanStand, HasFew, HasGoodLocks, HasOpenUnits, HasSoundLocks, HasStateInFlight, IsKept, IsMovedOn, MayHaveMoved}
use Rattle.hall_model.specs.Numbers.{drawn, next_number, raised_to, stocked}
use Rattle.hall_model.specs.OpenUnits.{OfInFlight}
use Rattle.hall_model.specs.Sessions.{is_called, session_at, with_marks, with_draw, with_next_unit, with_session, without_draws}
use Rattle.hall_model.specs.State.{State, is_honest}
use Rattle.hall_model.specs.Stocks.{MayCall}
use Rattle.hall_model.specs.Step.{Found, Verdict, Refuses, Leaves, call_verdict, cancelled, committed, detached, is_full, is_taken, leaves, marked, numbered, reopened, reposted, stored_anew}
use Rattle.model_laws.proofs.ByCall.{CanDraw, OfEach, by_doubt, by_made, by_restart}
use Rattle.hall_laws.proofs.keeping.SessionsAlike.{marked_steady, same_marked, with_other_marks}
use Rattle.hall_laws.proofs.keeping.SoundLocks.{over_table, served-sound, verdict-stored}
use Rattle.hall_laws.proofs.keeping.EachCall.{Holds, below_limit, by_condition, each-holds, raises-holds, served-holds, stocked-holds, with_past}
use Rattle.model_laws.proofs.NotedCalls.{by_noting}
use Rattle.hall_laws.proofs.keeping.Unchanged.{list_told, served-past, verdict_in_flight}
use Rattle.model_laws.proofs.FoundSessions.{found_name}
use Rattle.hall_laws.proofs.open_units.ChangedLocks.{served-open, verdict-together}
use Rattle.hall_laws.proofs.keeping.Restarts.{may_stay, restart_in_flight, same_sessions}

-- ---- the session that calls

same_but_changed : (change : Session → Session) → ((x : Session) → IsMovedOn x (change x)) → (name : List ℕ) (xs : List Session)
    → AreSameButCaller (Some name) xs (with_session name change xs)
same_but_changed change moves name [] = tt
same_but_changed change moves name (x ∷ xs) =
    elim (is_called name x) as (λ b. is_called name x ≡ b → AreSameButCaller (Some name) (x ∷ xs) (cond b (change x ∷ xs) (x ∷ with_session name change xs))) [
      | true ↦ λ e. (subst (λ b. MayHaveMoved b x (change x)) (sym e) (moves x), same_sessions (Some name) xs)
      | false ↦ λ e. (may_stay (is_called name x) x, same_but_changed change moves name xs)
    ] refl

-- it is found by its name
changed_caller : (s : State) (name : List ℕ) (x : Session) (change : Session → Session) → ((y : Session) → IsMovedOn y (change y))
    → session_at s.sessions name ≡ Some x → AreSameButCaller (Some name) s.sessions (with_session x.name change s.sessions)
changed_caller s name x change moves at =
    let own : x.name ≡ name = bytes_eq-same x.name name (found_name name s.sessions x at) in
    subst (λ m. AreSameButCaller (Some name) s.sessions (with_session m change s.sessions)) (sym own) (same_but_changed change moves name s.sessions)

next_moves : (y : Session) → IsMovedOn y (with_next_unit y)
next_moves y = record { name = refl; user = refl; number = refl; low = omega arith; high = omega arith }

numbers_move : (y : Session) → IsMovedOn y (without_draws y)
numbers_move y = record { name = refl; user = refl; number = refl; low = omega arith; high = omega arith }

-- ---- the change that a call makes

-- the locks of its open units may stand together, where they can be told from the calls, and so may those of each unit
record IsFair (honest : Bool) (changed : Ledger) : Type 0 where
  together : IsTrue honest → CanStand changed
  units : AllByRecursion HasGoodLocks changed.units

-- what was stored before is in order
same_in_flight : (n : ℕ) (s : State) (call : Call) (in_flight : Option Ledger) → Holds n s → IsFair (is_honest s) s.stored
    → HasStateInFlight (doubted s call None in_flight) s.stored
same_in_flight n s call in_flight h fair = record {
  state = with_other_marks (had_lock s) s;
  stored = refl;
  ranges = refl;
  next = refl;
  sessions = same_sessions (caller_behind s.failed_caller call) (with_marks (had_lock s) s.sessions);
  steady = marked_steady (had_lock s) s h.steady;
  units = fair.units;
  together = fair.together;
}

-- a state that the call would have led to, with the same sessions
other_in_flight : (n : ℕ) (s t : State) (call : Call) (in_flight : Option Ledger) → t.ranges ≡ s.ranges
    → t.next_session ≡ s.next_session → t.sessions ≡ s.sessions → Holds n t → IsFair (is_honest s) t.stored
    → HasStateInFlight (doubted s call None in_flight) t.stored
other_in_flight n s t call in_flight ranges next sessions h fair = record {
  state = with_other_marks (had_lock s) t;
  stored = refl;
  ranges = ranges;
  next = next;
  sessions =
      let marked : List Session = with_marks (had_lock s) s.sessions in
      let caller = caller_behind s.failed_caller call in
      subst (λ xs. AreSameButCaller caller marked (with_marks (had_lock s) xs)) (sym sessions) (same_sessions caller marked);
  steady = marked_steady (had_lock s) t h.steady;
  units = fair.units;
  together = fair.together;
}

-- one with another session that calls, and with memory behind a stock
commit_in_flight : (n : ℕ) (s t : State) (name : List ℕ) (parts : Parts) (stock : List Num) (in_flight : Option Ledger)
    → t.ranges ≡ (stocked stock s).ranges → t.next_session ≡ s.next_session → AreSameButCaller (Some name) s.sessions t.sessions
    → Holds n t → IsFair (is_honest s) t.stored → HasStateInFlight (doubted (stocked stock s) (OfSession name (Commits parts stock)) None in_flight) t.stored
commit_in_flight n s t name parts stock in_flight ranges next sessions h fair = record {
  state = with_other_marks (had_lock s) t;
  stored = refl;
  ranges = ranges;
  next = next;
  sessions = same_marked (Some name) (had_lock s) s.sessions t.sessions sessions;
  steady = marked_steady (had_lock s) t h.steady;
  units = fair.units;
  together = fair.together;
}

-- a draw leaves the level that reserves the number, which is given to nobody
drawn_in_flight : (n : ℕ) (s : State) (x : Session) (object nr : List ℕ) (call : Call) (r : NumberRange) (in_flight : Option Ledger) → CanDraw s x object nr r
    → s.found ≡ None → Holds n s
    → IsFair (is_honest s) (drawn s x (present s.stored.levels r.interval) (next_number r (present s.stored.levels r.interval) x)).stored
    → HasStateInFlight (doubted s call None in_flight)
    (drawn s x (present s.stored.levels r.interval) (next_number r (present s.stored.levels r.interval) x)).stored
drawn_in_flight n s x object nr call r in_flight can unread h =
    let i = present s.stored.levels r.interval in
    let number = next_number r i x in
    let t : State = record s { sessions = with_session x.name (with_draw (num_of i number)) s.sessions } in
    let behind : Bool → Ledger = λ b. (if b then record t { ranges = handed_out i t.ranges; stored = raised_to i number t.stored } else t).stored in
    elim (is_buffered i) as (λ b. is_buffered r.interval ≡ b → IsFair (is_honest s) (behind b) → HasStateInFlight (doubted s call None in_flight) (behind b)) [
      | true ↦ λ is fair.
          other_in_flight (n + 1) s (record s { stored = raised_to i number s.stored }) call in_flight refl refl refl
          (raises-holds n s object nr number r can.range is can.within unread h) fair
      | false ↦ λ is fair. same_in_flight n s call in_flight h fair
    ] refl

-- ---- each call

-- where the store fails in it there is a state in order with what it leaves, whatever else is in flight
abbrev LeavesInFlight : State → Call → Verdict → Type 0
LeavesInFlight s call v =
    IsTrue (leaves v) → IsFair (is_honest s) (judged s v).state.stored → (in_flight : Option Ledger)
    → HasStateInFlight (doubted (without_stock call s) call None in_flight) (judged s v).state.stored

no_leaving : {P : Type 0} → IsTrue false → P
no_leaving is = absurd (false≢true is)

-- a restart leaves what was stored before, or what was in flight
anew_doubted : (s : State) (in_flight : Option Ledger) (changed : Ledger) → HasStateInFlight s changed
    → HasStateInFlight (doubted s (OfAdmin Restarts) None in_flight) changed
anew_doubted s in_flight changed h = record {
  state = with_other_marks (had_lock s) h.state;
  stored = h.stored;
  ranges = h.ranges;
  next = h.next;
  sessions = same_marked s.failed_caller (had_lock s) s.sessions h.state.sessions h.sessions;
  steady = marked_steady (had_lock s) h.state h.steady;
  units = h.units;
  together = h.together;
}

each_in_flight : (n : ℕ) (found : Found) (s : State) → HasSoundLocks s → HasStateInFlight s (stored_anew (is_taken found.anew) s.stored s.in_flight)
    → IsTold s.link_told (found.list ≡ s.locks) → s.found ≡ None → Holds n s
    → OfEach (λ call v. MayCall s call → LeavesInFlight s call v) found s
each_in_flight n found s sound anew told unread h =
    let each = each-holds n found s sound anew told unread h in
    record {
      refuses = λ call r plain may is. no_leaving is;
      enters = λ name user free may is fair in_flight. same_in_flight n s (LogsOn name user) in_flight h fair;
      logs_off = λ name x at may is fair in_flight. same_in_flight n s (OfSession name LogsOff) in_flight h fair;
      grants = λ name x rs locks at e may is fair in_flight. same_in_flight n s (OfSession name (Asks rs)) in_flight h fair;
      lowers = λ name x rs at may is fair in_flight. same_in_flight n s (OfSession name (Frees rs)) in_flight h fair;
      frees = λ name x at may is fair in_flight. same_in_flight n s (OfSession name FreesAll) in_flight h fair;
      converts = λ name x wanted c at e may is fair in_flight. same_in_flight n s (OfSession name (Converts wanted)) in_flight h fair;
      draws = λ name x object nr r at can may is fair in_flight. drawn_in_flight n s x object nr
          (OfSession name (Draws object nr)) r in_flight can unread h fair;
      reserves = λ name x object nr upto r at can may is fair in_flight.
          let i = present s.stored.levels r.interval in
          other_in_flight (n + 1) s (record s { stored = raised_to i upto s.stored }) (OfSession name (Reserves object nr upto)) in_flight
          refl refl refl (each.reserves name x object nr upto r at can may) fair;
      reads = λ name x table key at may is fair in_flight. same_in_flight n s (OfSession name (Reads table key)) in_flight h fair;
      commits_nothing = λ name x parts stock at may is fair in_flight.
          commit_in_flight n s (stocked stock s) name parts stock in_flight refl refl (same_sessions (Some name) s.sessions)
          (stocked-holds n s stock may h) fair;
      commits_numbers = λ name x parts stock at may is fair in_flight.
          commit_in_flight (n + 1) s (stocked stock (numbered s x (x.draws ++ stock))) name parts stock in_flight refl refl
          (changed_caller s name x without_draws numbers_move at) (each.commits_numbers name x parts stock at may) fair;
      commits = λ name x parts stock at may is fair in_flight.
          commit_in_flight (n + 1) s (stocked stock (committed s x parts (x.draws ++ stock))) name parts stock in_flight refl refl
          (changed_caller s name x with_next_unit next_moves at) (each.commits name x parts stock at may) fair;
      rolls_back = λ name x at may is fair in_flight. same_in_flight n s (OfSession name RollsBack) in_flight h fair;
      takes = λ worker part unit free e may is fair in_flight. same_in_flight n s (OfWorker worker (Takes part)) in_flight h fair;
      posts = λ worker part unit e may is fair in_flight.
          other_in_flight (n + 1) s (marked part s worker unit (kind_for part (found.part part unit))) (OfWorker worker (Posts part)) in_flight
          refl refl refl (each.posts worker part unit e may) fair;
      drops = λ worker unit e may is fair in_flight. same_in_flight n s (OfWorker worker Drops) in_flight h fair;
      kills = λ up may is fair in_flight. same_in_flight n s (OfAdmin Kills) in_flight h fair;
      fails_over = λ can may is fair in_flight. same_in_flight n s (OfAdmin FailsOver) in_flight h fair;
      strays = λ first second none may is fair in_flight. same_in_flight n s (OfAdmin FailsOver) in_flight h fair;
      attaches = λ up may is fair in_flight. same_in_flight n s (OfAdmin Attaches) in_flight h fair;
      restarts = λ off may is fair in_flight. anew_doubted s in_flight (stored_anew (is_taken found.anew) s.stored s.in_flight) anew;
      cancels = λ unit status can may is fair in_flight.
          other_in_flight (n + 1) s (cancelled s unit status) (OfAdmin (Cancels unit)) in_flight refl refl refl (each.cancels unit status can may) fair;
      reopens = λ unit es here stand may is fair in_flight.
          other_in_flight (n + 1) s (reopened s unit es) (OfAdmin (Resubmits unit)) in_flight refl refl refl (each.reopens unit es here stand may) fair;
      reposts = λ unit here may is fair in_flight.
          other_in_flight (n + 1) s (reposted s unit) (OfAdmin (Resubmits unit)) in_flight refl refl refl (each.reposts unit here may) fair;
    }

-- nothing is in flight
nothing_in_flight : (o : Option Ledger) (Q : Ledger → Type 0) → o ≡ None → OfInFlight o Q
nothing_in_flight o Q none = subst (λ p. OfInFlight p Q) (sym none) tt

-- what is so of what the call leaves stored is so of the change in flight, if there was none before
failing_flies : (Q : Ledger → Type 0) (s : State) (call : Call) (v : Verdict) → s.in_flight ≡ None → IsTrue (leaves v)
    → Q (judged s v).state.stored → OfInFlight (in_flight_after s call v) Q
failing_flies Q s call (Refuses r) none is h = no_leaving is
failing_flies Q s call (Leaves after r) none is h =
    elim (only_reads call) as (λ b. OfInFlight (if b then s.in_flight else Some after.stored) Q) [
      | true ↦ nothing_in_flight s.in_flight Q none
      | false ↦ h
    ]

-- ---- a restart that isn't done

of_in_flight_more : (o : Option Ledger) (Q R : Ledger → Type 0) → ((ledger : Ledger) → Q ledger → R ledger) → OfInFlight o Q → OfInFlight o R
of_in_flight_more None Q R more h = tt
of_in_flight_more (Some ledger) Q R more h = more ledger h

-- with the change in flight there is a state in order
abbrev pub HoldsInFlight : State → Type 0
HoldsInFlight s = OfInFlight s.in_flight (HasStateInFlight s)

-- the change in flight stays
doubted_in_flight : (s : State) (read : Option Bool) (changed : Ledger) → HasStateInFlight s changed
    → HasStateInFlight (doubted s (OfAdmin Restarts) read s.in_flight) changed
doubted_in_flight s read changed h = record {
  state = with_other_marks (had_lock s) h.state;
  stored = h.stored;
  ranges = h.ranges;
  next = h.next;
  sessions = same_marked s.failed_caller (had_lock s) s.sessions h.state.sessions h.sessions;
  steady = marked_steady (had_lock s) h.state h.steady;
  units = h.units;
  together = h.together;
}

unmade_in_flight : (s : State) (read : Option Bool) → HoldsInFlight s → HoldsInFlight (doubted s (OfAdmin Restarts) read s.in_flight)
unmade_in_flight s read h = of_in_flight_more s.in_flight (HasStateInFlight s) (HasStateInFlight (doubted s (OfAdmin Restarts) read s.in_flight))
    (doubted_in_flight s read) h

-- ---- a replica that follows, or none

relink : (s : State) (follows : Bool) (changed : Ledger) → HasStateInFlight s changed → HasStateInFlight (record s { attached = follows }) changed
relink s follows changed h = record {
  state = h.state;
  stored = h.stored;
  ranges = h.ranges;
  next = h.next;
  sessions = h.sessions;
  steady = h.steady;
  units = h.units;
  together = h.together;
}

attached_in_flight : (s : State) (follows : Bool) → HoldsInFlight s → HoldsInFlight (record s { attached = follows })
attached_in_flight s follows h = of_in_flight_more s.in_flight (HasStateInFlight s) (HasStateInFlight (record s { attached = follows })) (relink s follows) h

unlink : (s : State) (changed : Ledger) → HasStateInFlight s changed → HasStateInFlight (detached s) changed
unlink s changed h = record {
  state = h.state;
  stored = h.stored;
  ranges = h.ranges;
  next = h.next;
  sessions = h.sessions;
  steady = h.steady;
  units = h.units;
  together = h.together;
}

detached_in_flight : (s : State) → HoldsInFlight s → HoldsInFlight (detached s)
detached_in_flight s h = of_in_flight_more s.in_flight (HasStateInFlight s) (HasStateInFlight (detached s)) (unlink s) h

-- ---- all that is kept, but for the length of the history

pub record HoldsAll (n : ℕ) (s : State) : Type 0 where
  pub holds : Holds n s
  pub sound : HasSoundLocks s
  pub open_units : HasOpenUnits s
  pub state_in_flight : HoldsInFlight s

anew_in_flight : (n : ℕ) (found : Found) (s : State) → HoldsAll n s → HasStateInFlight s (stored_anew (is_taken found.anew) s.stored s.in_flight)
anew_in_flight n found s h = restart_in_flight (is_taken found.anew) s h.sound.stored h.holds.steady h.open_units h.state_in_flight

-- the store fails
failing_in_flight : (n : ℕ) (found : Found) (s : State) (call : Call) → MayCall s call → IsTold s.link_told (found.list ≡ s.locks)
    → HoldsAll n s
    → IsTrue (leaves (call_verdict found s call))
    → HoldsInFlight (doubted (without_stock call s) call None (in_flight_after s call (call_verdict found s call)))
failing_in_flight n found s call may told h =
    let steady = h.holds.steady in
    let fair : IsFair (is_honest s) (judged s (call_verdict found s call)).state.stored = record {
      together = verdict-together found s call steady h.sound h.open_units h.state_in_flight;
      units = verdict-stored found s call steady h.sound h.open_units h.state_in_flight;
    } in
    let P : Call → Verdict → Type 0 = λ c v. IsTrue (leaves v) → HoldsInFlight (doubted (without_stock c s) c None (in_flight_after s c v)) in
    by_condition (P call (call_verdict found s call)) s steady
    (λ quiet is.
    let v = call_verdict found s call in
    let in_flight = in_flight_after s call v in
    failing_flies (HasStateInFlight (doubted (without_stock call s) call None in_flight)) s call v quiet.in_flight is
    (by_made (LeavesInFlight s) found s (each_in_flight n found s h.sound (anew_in_flight n found s h) told quiet.found h.holds) call may is fair in_flight))
    (λ k down. by_doubt P found s k call down (λ c r is. no_leaving is) (λ is. unmade_in_flight s None h.state_in_flight))

-- nothing fails
done_in_flight : (n : ℕ) (found : Found) (s : State) (call : Call) → HoldsAll n s → HoldsInFlight (judged s (call_verdict found s call)).state
done_in_flight n found s call h =
    let t = (judged s (call_verdict found s call)).state in
    by_condition (HoldsInFlight t) s h.holds.steady
    (λ quiet. nothing_in_flight t.in_flight (HasStateInFlight t) (verdict_in_flight (λ o. o ≡ None) found s call quiet.in_flight refl))
    (λ k down. by_doubt (λ c v. HoldsInFlight (judged s v).state) found s k call down (λ c r. h.state_in_flight) tt)

-- the disk of the backup file fails
unfiled_in_flight : (n : ℕ) (read : Option Bool) (found : Found) (s : State) (call : Call) → HoldsAll n s → IsTrue (leaves (call_verdict found s call))
    → HoldsInFlight (unfiled s call read (stored_before_file s call (call_verdict found s call)))
unfiled_in_flight n read found s call h =
    let P : Call → Verdict → Type 0 = λ c v. IsTrue (leaves v) → HoldsInFlight (unfiled s c read (stored_before_file s c v)) in
    by_condition (P call (call_verdict found s call)) s h.holds.steady
    (λ quiet is. nothing_in_flight s.in_flight _ quiet.in_flight)
    (λ k down. by_doubt P found s k call down (λ c r is. no_leaving is) (λ is. unmade_in_flight s read h.state_in_flight))

-- no lock server could be made anew
remade_in_flight : (s : State) (call : Call) (read : Option Bool) → IsTrue (restarts call) → HoldsInFlight s → HoldsInFlight (doubted s call read s.in_flight)
remade_in_flight s call read is h =
    by_restart (λ c. IsTrue (restarts c) → HoldsInFlight (doubted s c read s.in_flight)) (λ anew. unmade_in_flight s read h)
    (λ c off anew. absurd (false≢true (sym off ∙ anew))) call is

ended_in_flight : (n : ℕ) (e : Event) (reading : Reading) (s : State) (call : Call) → MayCall s call → MayRead reading s call
    → MayHappen e s call (call_verdict (found_by reading s) s call) → HoldsAll n s
    → HoldsInFlight (ends_in e reading s call (call_verdict (found_by reading s) s call)).state
ended_in_flight n AllWell reading s call may read happens h = done_in_flight n (found_by reading s) s call h
ended_in_flight n Wanting reading s call may read happens h = h.state_in_flight
ended_in_flight n StoreFails reading s call may read happens h = failing_in_flight n (found_by reading s) s call may
    (list_told reading s call read) h happens.0
ended_in_flight n BackupFails reading s call may read happens h = unfiled_in_flight n (read_anew reading) (found_by reading s) s call h happens.0
ended_in_flight n LinkFails reading s call may read happens h = detached_in_flight s h.state_in_flight
ended_in_flight n (NotRemade fault) reading s call may read happens h = remade_in_flight s call (read_anew reading) happens.1 h.state_in_flight

pub served_all : (n : ℕ) (o : DeviceOutcome) (s : State) (c : Command) → IsAllowed o s c → HoldsAll n s → HoldsAll (n + 1) (served o s c).state
served_all n o s c allowed h =
    let steady = h.holds.steady in
    let t = (ends_in o.event o.reading s (call_of c) (call_verdict (found_by o.reading s) s (call_of c))).state in
    record {
      holds = served-holds n o s c allowed h.sound h.open_units h.state_in_flight h.holds;
      sound = served-sound o s c allowed.possible steady h.sound h.open_units h.state_in_flight;
      open_units = served-open o s c allowed steady h.sound h.open_units h.state_in_flight;
      state_in_flight = attached_in_flight t (not o.lost && t.attached)
          (ended_in_flight n o.event o.reading s (call_of c) allowed.call allowed.possible.reading allowed.possible.event h);
    }

-- ---- the history

past_in_flight : (s : State) (past : List PastEntry) (changed : Ledger) → HasStateInFlight s changed → HasStateInFlight (record s { past = past }) changed
past_in_flight s past changed h = record {
  state = h.state;
  stored = h.stored;
  ranges = h.ranges;
  next = h.next;
  sessions = h.sessions;
  steady = h.steady;
  units = h.units;
  together = h.together;
}

pub with_past_all : (n : ℕ) (s : State) (past : List PastEntry) → HoldsAll n s → HoldsAll n (record s { past = past })
with_past_all n s past h =
    let units = h.open_units in
    record {
      holds = with_past n s past h.holds;
      sound = over_table h.sound.stored h.sound.table;
      open_units = record { held = units.held; stored = units.stored; in_flight = units.in_flight };
      state_in_flight = of_in_flight_more s.in_flight (HasStateInFlight s) (HasStateInFlight (record s { past = past }))
          (past_in_flight s past) h.state_in_flight;
    }

pub step_all : (n : ℕ) (o : DeviceOutcome) (s : State) (line : ℕ) (c : Command) → IsAllowed o s c → HoldsAll n s → HoldsAll (n + 1) (step o s line c).state
step_all n o s line c allowed h =
    let r = served o s c in
    let all = served_all n o s c allowed h in
    by_noting (λ x. HoldsAll (n + 1) x.state) line c (takes_flight o) r all (with_past_all (n + 1) r.state _ all)

-- a call with room for it in the history
pub kept_call : (s : State) (line : ℕ) (c : Command) (taken : Bool) (after : State) (r : Reply) → MayCall s (call_of c) → IsKept s → is_full s ≡ false
    → IsAct s c after r → IsKept (with_entry line c taken (record { state = after; reply = r }))
kept_call s line c taken after r may kept room act =
    let before : HoldsAll (length s.past) s = record {
      holds = record { few = kept.few; steady = kept.steady };
      sound = kept.sound;
      open_units = kept.open_units;
      state_in_flight = kept.state_in_flight;
    } in
    let all : HoldsAll (length s.past + 1) after =
    subst (λ x. HoldsAll (length s.past + 1) x.state) act.same
    (served_all (length s.past) act.outcome s c (record { call = may; possible = act.possible }) before) in
    let past : after.past ≡ s.past = ap (λ x. x.state.past) (sym act.same) ∙ served-past act.outcome s c in
    let t : State = with_entry line c taken (record { state = after; reply = r }) in
    let longer : length t.past ≡ length s.past + 1 = length-append after.past _ ∙ ap (λ es. length es + 1) past in
    let whole : HoldsAll (length s.past + 1) t = with_past_all (length s.past + 1) after t.past all in
    record {
      within = subst (λ n. n ≤ 262144) (sym longer) (below_limit (length s.past) room);
      few = subst (λ n. HasFew n t) (sym longer) whole.holds.few;
      steady = whole.holds.steady;
      sound = whole.sound;
      open_units = whole.open_units;
      state_in_flight = whole.state_in_flight;
    }
