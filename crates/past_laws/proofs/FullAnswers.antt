-- No call is refused for a full history but where that is full.
use Rattle.std.proofs.Common.{◌≡◌, ℕ, Bool, true, false, List, ◌++◌, length, refl, sym, subst}
use Rattle.std.specs.Prelude.{◌&&◌, ◌||◌, not, if◌then◌else◌, nat_eq, nat_le, nat_lt, Option, Some, None, Result, Ok, Err, is_some}
use Rattle.enq_base.specs.declared.condition.Condition.{Condition}
use Rattle.enq_base.specs.declared.condition.Condition.TheVariants as condition
use Rattle.enq_base.specs.declared.owner.UnitKey.{UnitKey}
use Rattle.enq_base.specs.declared.refusal.Refusal.{Refusal}
use Rattle.enq_base.specs.declared.refusal.Refusal.TheVariants as refusal
use Rattle.enq_base.specs.declared.unit.Num.{Num}
use Rattle.enq_base.specs.declared.unit.Parts.{Parts}
use Rattle.enq_base.specs.declared.unit.Status.{Status}
use Rattle.enq_base.specs.declared.unit.Status.TheVariants.{Bad}
use Rattle.model_laws.proofs.NotedCalls.{by_noting}
use Rattle.hall_model.specs.Calls.{Call, LogsOn, OfSession, OfWorker, OfAdmin, AdminCall, Kills, FailsOver, Restarts, Attaches, Cancels, Resubmits, WorkerCall}
use Rattle.hall_model.specs.Calls.{Takes, Posts, Drops, SessionCall, LogsOff, Asks, Frees, FreesAll, Converts, Draws, Reserves, Reads, Commits, RollsBack}
use Rattle.hall_model.specs.Calls.{call_of, restarts, wants_server}
use Rattle.hall_model.specs.Devices.{DeviceOutcome, AllWell, Wanting, StoreFails, BackupFails, LinkFails, NotRemade, RemakeFault, MeetsWant, FindsBad, FindsBadStore, fault_told, found_by}
use Rattle.hall_model.specs.History.{ends_in, judged, served, step, takes_flight}
use Rattle.hall_model.specs.Numbers.{next_number, other_holder, stocked}
use Rattle.hall_model.specs.Orders.{first_unclaimed, order_for, order_of, without_order, worker_of}
use Rattle.hall_model.specs.Sessions.{session_at}
use Rattle.hall_model.specs.State.{State}
use Rattle.hall_model.specs.Step.{Found, Verdict, Refuses, Leaves, admin_call, ask_refusal, barred, called, caller_refusal, call_verdict, cancelling, clashing}
use Rattle.hall_model.specs.Step.{committing, converting, down_refusal, drawing, effects_in, from_replica, giving, granting, handing, if_room, if_status}
use Rattle.hall_model.specs.Step.{if_unclaimed, is_full as has_no_room, is_sound, is_taken, logon, may_cancel, may_resubmit, or_else, own_verdict, passing}
use Rattle.hall_model.specs.Step.{posted_reply, posting, recording, reopening, reserving, restarted, resubmitting, session_call, session_refusal}
use Rattle.hall_model.specs.Step.{server_refusal, taking, to_cancel, to_resubmit, trying_again, unavailable, unless_refused, with_room, worker_call}
use Rattle.hall_model.specs.declared.command.Command.{Command}
use Rattle.hall_model.specs.declared.command.Reply.{Reply}
use Rattle.hall_model.specs.declared.command.Reply.TheVariants as reply
use Rattle.hall_model.specs.declared.command.Session.{Session}
use Rattle.ledger_steps.specs.Levels.{present, range_at}
use Rattle.ledger_steps.specs.Steps.{waiting_for}
use Rattle.ledger_steps.specs.declared.range.NumberRange.{NumberRange}
use Rattle.ledger_steps.specs.declared.step.Outcome.{Outcome}
use Rattle.ledger_steps.specs.declared.step.Outcome.TheVariants as outcome
use Rattle.lock_entry.specs.Converting.{Conversion}
use Rattle.lock_entry.specs.Sound.{first_clash}
use Rattle.lock_entry.specs.declared.entry.Entry.{Entry}
use Rattle.lock_entry.specs.declared.fault.AskFault.{AskFault}
use Rattle.lock_entry.specs.declared.fault.AskFault.TheVariants as fault
use Rattle.number_ranges.specs.Intervals.{is_buffered}
use Rattle.number_ranges.specs.declared.interval.Interval.{Interval}
use Rattle.script_actors.specs.Actors.{is_full}
use Rattle.update_records.specs.Ledger.{Ledger}
use Rattle.update_records.specs.Marks.{status_of}
use Rattle.ledger_steps.specs.declared.part.Part.{Part}
use Rattle.ledger_steps.specs.Parts.{is_first}

-- an answer for another reason than a full history, or none
abbrev pub IsOther : Reply → Type 0
IsOther r = is_full r ≡ false

abbrev IsOtherRefusal : Refusal → Type 0
IsOtherRefusal r = IsOther (reply.Refused r)

-- ---- why a status is refused

abbrev IsOtherResult : Result Status Refusal → Type 0
IsOtherResult (Ok status) = Unit {0}
IsOtherResult (Err r) = IsOtherRefusal r

room_other : (ledger : Ledger) (limit : ℕ) (status : Status) → IsOtherResult (if_room ledger limit status)
room_other ledger limit status =
    elim (nat_le limit (length ledger.marks)) as (λ b. IsOtherResult (if b then Err (refusal.StoreFull limit) else Ok status)) [
      | true ↦ refl
      | false ↦ tt
    ]

unclaimed_other : (o : Option ℕ) (next : Result Status Refusal) → IsOtherResult next → IsOtherResult (if_unclaimed o next)
unclaimed_other None next h = h
unclaimed_other (Some worker) next h = refl

status_other : (may : Status → Bool) (unit : UnitKey) (status : Status) (next : Result Status Refusal) → IsOtherResult next
    → IsOtherResult (if_status may unit status next)
status_other may unit status next h =
    elim (may status) as (λ b. IsOtherResult (if b then next else Err (refusal.WrongStatus unit status))) [ true ↦ h | false ↦ refl ]

cancel_other : (ledger : Ledger) (orders : List (Option UnitKey)) (limit : ℕ) (unit : UnitKey) → IsOtherResult (to_cancel ledger orders limit unit)
cancel_other ledger orders limit unit =
    elim (status_of ledger.units ledger.marks unit) as (λ o. IsOtherResult (elim o [
      | None ↦ Err refusal.UnknownUnit
      | Some status ↦ if_status may_cancel unit status (if_unclaimed (worker_of orders unit) (if_room ledger limit status))
    ])) [
      | None ↦ refl
      | Some status ↦ status_other may_cancel unit status (if_unclaimed (worker_of orders unit) (if_room ledger limit status))
          (unclaimed_other (worker_of orders unit) (if_room ledger limit status) (room_other ledger limit status))
    ]

resubmit_other : (ledger : Ledger) (limit : ℕ) (unit : UnitKey) → IsOtherResult (to_resubmit ledger limit unit)
resubmit_other ledger limit unit =
    elim (status_of ledger.units ledger.marks unit) as (λ o. IsOtherResult (elim o [
      | None ↦ Err refusal.UnknownUnit
      | Some status ↦ if_status may_resubmit unit status (if_room ledger limit status)
    ])) [
      | None ↦ refl
      | Some status ↦ status_other may_resubmit unit status (if_room ledger limit status) (room_other ledger limit status)
    ]

-- ---- what a call comes to

ask_other : (f : AskFault) → IsOtherRefusal (ask_refusal f)
ask_other (fault.Foreign e) = refl
ask_other (fault.Full used limit) = refl
ask_other fault.Count = refl
ask_other fault.Lost = refl
ask_other fault.NoMemory = refl

posted_other : (part : Part) (unit : UnitKey) (o : Outcome) → IsOther (posted_reply part unit o)
posted_other part unit outcome.Done =
    elim (is_first part) as (λ b. IsOther (if b then reply.Posted unit else reply.Closed unit)) [ true ↦ refl | false ↦ refl ]
posted_other part unit (outcome.Refused index reason) =
    elim (is_first part) as (λ b. IsOther (if b then reply.Bad unit index reason else reply.Bad2 unit index reason)) [
      | true ↦ refl
      | false ↦ refl
    ]

-- what holds of each other refusal and of each other answer
record OfOther (Q : Verdict → Type 0) : Type 0 where
  refuses : (r : Refusal) → IsOtherRefusal r → Q (Refuses r)
  leaves : (t : State) (r : Reply) → IsOther r → Q (Leaves t r)

module _ (Q : Verdict → Type 0) (each : OfOther Q) where
  one_of : (b : Bool) (v w : Verdict) → Q v → Q w → Q (if b then v else w)
  one_of true v w p q = p
  one_of false v w p q = q

  in_room : (s : State) (v : Verdict) → Q v → Q (with_room s v)
  in_room s v h = one_of (nat_le s.mark_limit (length s.stored.marks)) _ v (each.refuses _ refl) h

  of_recording : (s : State) (x : Session) (parts : Parts) (numbers : List Num) → Q (recording s x parts numbers)
  of_recording s x parts numbers = one_of (nat_eq (effects_in parts) 0) _ _ (each.leaves _ _ refl) (each.leaves _ _ refl)

  of_committing : (s : State) (x : Session) (parts : Parts) (numbers : List Num) → Q (committing s x parts numbers)
  of_committing s x parts numbers =
      one_of (nat_lt 64 (length numbers) || nat_lt 200 (effects_in parts)) _ _ (each.refuses _ refl)
      (one_of (nat_eq (effects_in parts) 0 && nat_eq (length numbers) 0) _ _ (each.leaves _ _ refl)
      (in_room s (recording s x parts numbers) (of_recording s x parts numbers)))

  of_logon : (s : State) (name user : List ℕ) → Q (logon s name user)
  of_logon s name user =
      one_of (is_some (session_at s.sessions name)) _ _ (each.refuses _ refl)
      (one_of (nat_le 1024 (length s.sessions)) _ _ (each.refuses _ refl) (each.leaves _ _ refl))

  of_grant : (s : State) (r : Result (List Entry) AskFault) → Q (granting s r)
  of_grant s (Ok locks) = each.leaves _ _ refl
  of_grant s (Err f) = each.refuses (ask_refusal f) (ask_other f)

  of_conversion : (s : State) (r : Result Conversion AskFault) → Q (converting s r)
  of_conversion s (Ok c) = each.leaves _ _ refl
  of_conversion s (Err f) = each.refuses (ask_refusal f) (ask_other f)

  of_giving : (s : State) (x : Session) (i : Interval) (number : ℕ) → Q (giving s x i number)
  of_giving s x i number = one_of (nat_lt i.to number) _ _ (each.refuses _ refl) (each.leaves _ _ refl)

  of_holder : (s : State) (x : Session) (i : Interval) (number : ℕ) (o : Option Session)
      → Q (elim o [ Some y ↦ Refuses (refusal.IntervalBusy y.name) | None ↦ giving s x i number ])
  of_holder s x i number None = of_giving s x i number
  of_holder s x i number (Some y) = each.refuses _ refl

  of_drawing : (s : State) (x : Session) (r : NumberRange) (i : Interval) → Q (drawing s x r i)
  of_drawing s x r i =
      one_of (nat_le 64 (length x.draws)) _ _ (each.refuses _ refl)
      (of_holder s x i (next_number r i x) (other_holder s.sessions x.name i))

  of_draw : (s : State) (x : Session) (o : Option NumberRange)
      → Q (elim o [ None ↦ Refuses refusal.IntervalNotFound | Some r ↦ drawing s x r (present s.stored.levels r.interval) ])
  of_draw s x None = each.refuses _ refl
  of_draw s x (Some r) = of_drawing s x r (present s.stored.levels r.interval)

  of_reserving : (s : State) (i : Interval) (upto : ℕ) → Q (reserving s i upto)
  of_reserving s i upto =
      one_of (not (is_buffered i)) _ _ (each.refuses _ refl)
      (one_of (nat_lt i.to upto) _ _ (each.refuses _ refl) (each.leaves _ _ refl))

  of_reserve : (s : State) (upto : ℕ) (o : Option NumberRange)
      → Q (elim o [ None ↦ Refuses refusal.IntervalNotFound | Some r ↦ reserving s (present s.stored.levels r.interval) upto ])
  of_reserve s upto None = each.refuses _ refl
  of_reserve s upto (Some r) = of_reserving s (present s.stored.levels r.interval) upto

  of_taking : (s : State) (worker : ℕ) (o : Option UnitKey) → Q (taking s worker o)
  of_taking s worker None = each.refuses _ refl
  of_taking s worker (Some unit) = each.leaves _ _ refl

  of_take : (s : State) (worker : ℕ) (part : Part) (o : Option UnitKey) → Q (elim o [
    | Some unit ↦ Refuses (refusal.WorkerBusy unit)
    | None ↦ taking s worker (first_unclaimed s.orders (waiting_for part s.stored))
  ])
  of_take s worker part None = of_taking s worker (first_unclaimed s.orders (waiting_for part s.stored))
  of_take s worker part (Some unit) = each.refuses _ refl

  of_post : (found : Found) (s : State) (worker : ℕ) (part : Part) (o : Option UnitKey) → Q (elim o [
    | None ↦ Refuses refusal.NoOrder
    | Some unit ↦ with_room s (posting part s worker unit (found.part part unit))
  ])
  of_post found s worker part None = each.refuses _ refl
  of_post found s worker part (Some unit) =
      in_room s (posting part s worker unit (found.part part unit)) (each.leaves _ _ (posted_other part unit (found.part part unit)))

  of_drop : (s : State) (worker : ℕ) (o : Option UnitKey) → Q (elim o [
    | None ↦ Refuses refusal.NoOrder
    | Some unit ↦ Leaves (record s { orders = without_order s.orders worker }) (reply.Unit unit)
  ])
  of_drop s worker None = each.refuses _ refl
  of_drop s worker (Some unit) = each.leaves _ _ refl

  of_worker : (found : Found) (s : State) (worker : ℕ) (call : WorkerCall) → Q (worker_call found s worker call)
  of_worker found s worker (Takes part) = of_take s worker part (order_of s.orders worker)
  of_worker found s worker (Posts part) = of_post found s worker part (order_for part s.stored s.orders worker)
  of_worker found s worker Drops = of_drop s worker (order_of s.orders worker)

  of_clash : (s : State) (o : Option (ℕ × ℕ)) → Q (clashing s o)
  of_clash s None = each.leaves _ _ refl
  of_clash s (Some places) = each.leaves _ _ refl

  of_handing : (s : State) (list : List Entry) → Q (handing s list)
  of_handing s list = one_of (is_sound list) _ _ (each.leaves _ _ refl) (of_clash s (first_clash list))

  of_failing_over : (found : Found) (s : State) (k : Condition) → Q (elim k [
    | condition.Up ↦ Refuses refusal.ServerUp
    | condition.NoServer ↦ from_replica found s
    | condition.Doubt n ↦ Refuses (refusal.Down n)
  ])
  of_failing_over found s condition.Up = each.refuses _ refl
  of_failing_over found s condition.NoServer = one_of s.attached _ _ (of_handing s found.list) (each.refuses _ refl)
  of_failing_over found s (condition.Doubt n) = each.refuses _ refl

  of_restart : (found : Found) (s : State) (k : Condition) → Q (elim k [
    | condition.Up ↦ Refuses refusal.ServerUp
    | condition.NoServer ↦ Leaves (restarted (is_taken found.anew) s) reply.Done
    | condition.Doubt n ↦ Leaves (restarted (is_taken found.anew) s) reply.Done
  ])
  of_restart found s condition.Up = each.refuses _ refl
  of_restart found s condition.NoServer = each.leaves _ _ refl
  of_restart found s (condition.Doubt n) = each.leaves _ _ refl

  of_cancelling : (s : State) (unit : UnitKey) (r : Result Status Refusal) → IsOtherResult r → Q (cancelling s unit r)
  of_cancelling s unit (Ok status) h = each.leaves _ _ refl
  of_cancelling s unit (Err r) h = each.refuses r h

  of_reopening : (s : State) (unit : UnitKey) (r : Result (List Entry) AskFault) → Q (reopening s unit r)
  of_reopening s unit (Ok locks) = each.leaves _ _ refl
  of_reopening s unit (Err f) = each.refuses (ask_refusal f) (ask_other f)

  of_trying : (s : State) (unit : UnitKey) (status : Status) → Q (trying_again s unit status)
  of_trying s unit Bad = of_reopening s unit _
  of_trying s unit _ = each.leaves _ _ refl

  of_resubmitting : (s : State) (unit : UnitKey) (r : Result Status Refusal) → IsOtherResult r → Q (resubmitting s unit r)
  of_resubmitting s unit (Ok status) h = of_trying s unit status
  of_resubmitting s unit (Err r) h = each.refuses r h

  of_admin : (found : Found) (s : State) (call : AdminCall) → Q (admin_call found s call)
  of_admin found s Kills = each.leaves _ _ refl
  of_admin found s FailsOver = of_failing_over found s s.condition
  of_admin found s Restarts = of_restart found s s.condition
  of_admin found s Attaches = each.leaves _ _ refl
  of_admin found s (Cancels unit) = of_cancelling s unit _ (cancel_other s.stored s.orders s.mark_limit unit)
  of_admin found s (Resubmits unit) = of_resubmitting s unit _ (resubmit_other s.stored s.mark_limit unit)

-- a commit that is done hands out what is behind its stock, and is answered as before
of_passing : (Q : Verdict → Type 0) (stock : List Num) → OfOther Q → OfOther (λ v. Q (passing stock v))
of_passing Q stock each = record { refuses = λ r h. each.refuses r h; leaves = λ t r h. each.leaves (stocked stock t) r h }

module _ (Q : Verdict → Type 0) (each : OfOther Q) where
  of_session : (found : Found) (s : State) (x : Session) (call : SessionCall) → Q (session_call found s x call)
  of_session found s x LogsOff = each.leaves _ _ refl
  of_session found s x (Asks rs) = of_grant Q each s _
  of_session found s x (Frees rs) = each.leaves _ _ refl
  of_session found s x FreesAll = each.leaves _ _ refl
  of_session found s x (Converts wanted) = of_conversion Q each s _
  of_session found s x (Draws object nr) = of_draw Q each s x (range_at s.ranges object nr)
  of_session found s x (Reserves object nr upto) = of_reserve Q each s upto (range_at s.ranges object nr)
  of_session found s x (Reads table key) = each.leaves _ _ refl
  of_session found s x (Commits parts stock) =
      of_committing (λ v. Q (passing stock v)) (of_passing Q stock each) s x parts (x.draws ++ stock)
  of_session found s x RollsBack = each.leaves _ _ refl

  of_called : (found : Found) (s : State) (call : SessionCall) (o : Option Session) → Q (called found s call o)
  of_called found s call None = each.refuses _ refl
  of_called found s call (Some x) = of_session found s x call

  of_own : (found : Found) (s : State) (call : Call) → Q (own_verdict found s call)
  of_own found s (LogsOn name user) = of_logon Q each s name user
  of_own found s (OfSession name call) = of_called found s call (session_at s.sessions name)
  of_own found s (OfWorker worker call) = of_worker Q each found s worker call
  of_own found s (OfAdmin call) = of_admin Q each found s call

-- ---- why a call isn't served

abbrev AreOther : Option Refusal → Type 0
AreOther None = Unit {0}
AreOther (Some r) = IsOtherRefusal r

other_if : (b : Bool) (r : Refusal) → IsOtherRefusal r → AreOther (if b then Some r else None)
other_if true r h = h
other_if false r h = tt

other_unless : (b : Bool) (r : Refusal) → IsOtherRefusal r → AreOther (if b then None else Some r)
other_unless true r h = tt
other_unless false r h = h

other_else : (o p : Option Refusal) → AreOther o → AreOther p → AreOther (or_else o p)
other_else None p h k = k
other_else (Some r) p h k = h

other_down : (k : Condition) (call : Call) → AreOther (down_refusal k call)
other_down condition.Up call = tt
other_down condition.NoServer call = tt
other_down (condition.Doubt n) call = other_unless (restarts call) (refusal.Down n) refl

other_server : (k : Condition) (call : Call) → AreOther (server_refusal k call)
other_server condition.Up call = tt
other_server condition.NoServer call = other_if (wants_server call) refusal.SystemFailure refl
other_server (condition.Doubt n) call = tt

other_session : (call : SessionCall) (o : Option Session) → AreOther (session_refusal call o)
other_session call None = refl
other_session call (Some x) = other_if _ refusal.LocksLost refl

other_caller : (sessions : List Session) (call : Call) → AreOther (caller_refusal sessions call)
other_caller sessions (LogsOn name user) = tt
other_caller sessions (OfSession name call) = other_session call (session_at sessions name)
other_caller sessions (OfWorker worker call) = tt
other_caller sessions (OfAdmin call) = tt

-- where the history has room
other_barred : (s : State) (call : Call) → has_no_room s ≡ false → AreOther (barred s call)
other_barred s call room =
    subst (λ b. AreOther (if b then Some refusal.LogFull else down_refusal s.condition call)) (sym room) (other_down s.condition call)

other_unavailable : (s : State) (call : Call) → has_no_room s ≡ false → AreOther (unavailable s call)
other_unavailable s call room =
    other_else (barred s call) _ (other_barred s call room)
    (other_else (caller_refusal s.sessions call) _ (other_caller s.sessions call) (other_server s.condition call))

of_refused : (Q : Verdict → Type 0) → OfOther Q → (o : Option Refusal) (v : Verdict) → AreOther o → Q v → Q (unless_refused o v)
of_refused Q each None v h k = k
of_refused Q each (Some r) v h k = each.refuses r h

of_verdict : (Q : Verdict → Type 0) → OfOther Q → (found : Found) (s : State) (call : Call) → has_no_room s ≡ false → Q (call_verdict found s call)
unfolding call_verdict
of_verdict Q each found s call room =
    of_refused Q each (unavailable s call) (own_verdict found s call) (other_unavailable s call room) (of_own Q each found s call)

-- ---- any event

told_other : (f : RemakeFault) → IsOtherRefusal (fault_told f)
told_other MeetsWant = refl
told_other (FindsBad place) = refl
told_other (FindsBadStore table row) = refl

ended_other : (o : DeviceOutcome) (s : State) (call : Call) → has_no_room s ≡ false
    → IsOther (ends_in o.event o.reading s call (call_verdict (found_by o.reading s) s call)).reply
ended_other o s call room =
    let found = found_by o.reading s in
    let v = call_verdict found s call in
    elim o.event as (λ e. IsOther (ends_in e o.reading s call v).reply) [
      | AllWell ↦ of_verdict (λ w. IsOther (judged s w).reply) (record { refuses = λ r h. h; leaves = λ t r h. h }) found s call room
      | Wanting ↦ refl
      | StoreFails ↦ refl
      | BackupFails ↦ refl
      | LinkFails ↦ refl
      | NotRemade f ↦ told_other f
    ]

-- where the history has room no call is refused for it
pub step_other : (o : DeviceOutcome) (s : State) (line : ℕ) (c : Command) → has_no_room s ≡ false → IsOther (step o s line c).reply
step_other o s line c room =
    let h : IsOther (served o s c).reply = ended_other o s (call_of c) room in
    by_noting (λ r. IsOther r.reply) line c (takes_flight o) (served o s c) h h
