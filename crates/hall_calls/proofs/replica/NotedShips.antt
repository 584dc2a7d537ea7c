-- A call that ships what it changes is noted in the history, where it is served.
use Rattle.std.proofs.Common.{◌≡◌, ℕ, Bool, true, false, refl, sym, subst}
use Rattle.std.specs.Prelude.{◌&&◌, ◌||◌, if◌then◌else◌, nat_eq, nat_le, nat_lt, length, ◌++◌, List, Option, Some, None, Result, Ok, Err}
use Rattle.enq_base.specs.declared.owner.UnitKey.{UnitKey}
use Rattle.enq_base.specs.declared.refusal.Refusal.{Refusal}
use Rattle.enq_base.specs.declared.refusal.Refusal.TheVariants as refusal
use Rattle.enq_base.specs.declared.unit.Num.{Num}
use Rattle.enq_base.specs.declared.unit.Parts.{Parts}
use Rattle.enq_base.specs.declared.unit.Status.{Status}
use Rattle.enq_base.specs.declared.unit.Status.TheVariants as status
use Rattle.lock_entry.specs.Converting.{Conversion}
use Rattle.lock_entry.specs.declared.entry.Entry.{Entry}
use Rattle.lock_entry.specs.declared.fault.AskFault.{AskFault}
use Rattle.lock_entry.specs.declared.fault.AskFault.TheVariants as fault
use Rattle.ledger_steps.specs.declared.step.Outcome.{Outcome}
use Rattle.ledger_steps.specs.declared.step.Outcome.TheVariants as outcome
use Rattle.update_records.specs.Marks.{status_of}
use Rattle.hall_model.specs.Calls.{Call, LogsOn, OfSession, OfWorker, OfAdmin, Kills, FailsOver, Restarts, Attaches, Cancels, Resubmits, Takes, Posts, Drops}
use Rattle.hall_model.specs.Calls.{SessionCall, LogsOff, Asks, Frees, FreesAll, Converts, Draws, Reserves, Reads, Commits, RollsBack, ships}
use Rattle.hall_model.specs.History.{is_unrecorded, judged}
use Rattle.hall_model.specs.Orders.{order_for, worker_of}
use Rattle.hall_model.specs.Sessions.{session_at}
use Rattle.hall_model.specs.State.{State}
use Rattle.hall_model.specs.Step.{Found, Verdict, Refuses, ask_refusal, called, call_verdict, cancelling, commit, converting, effects_in, granting, if_room}
use Rattle.hall_model.specs.Step.{if_status, if_unclaimed, may_cancel, may_resubmit, own_verdict, passing, posted_reply, posting, recording, reopening}
use Rattle.hall_model.specs.Step.{resubmitting, session_call, to_cancel, to_resubmit, trying_again, unavailable, unless_refused, with_room}
use Rattle.hall_model.specs.declared.command.Reply.TheVariants as reply
use Rattle.hall_model.specs.declared.command.Session.{Session}
use Rattle.model_laws.proofs.ByCall.{by_room}
use Rattle.ledger_steps.specs.declared.part.Part.{Part}
use Rattle.ledger_steps.specs.Parts.{is_first}

abbrev IsNoted : State → Verdict → Type 0
IsNoted s v = is_unrecorded (judged s v).reply ≡ false

one_of : (Q : Verdict → Type 0) (b : Bool) (v w : Verdict) → Q v → Q w → Q (if b then v else w)
one_of Q true v w p q = p
one_of Q false v w p q = q

never : {P : Type 0} → false ≡ true → P
never e = absurd (cc)

rule_noted : (f : AskFault) → is_unrecorded (reply.Refused (ask_refusal f)) ≡ false
rule_noted (fault.Foreign e) = refl
rule_noted (fault.Full used limit) = refl
rule_noted fault.Count = refl
rule_noted fault.Lost = refl
rule_noted fault.NoMemory = refl

grant_noted : (s : State) (r : Result (List Entry) AskFault) → IsNoted s (granting s r)
grant_noted s (Ok locks) = refl
grant_noted s (Err f) = rule_noted f

conversion_noted : (s : State) (r : Result Conversion AskFault) → IsNoted s (converting s r)
conversion_noted s (Ok c) = refl
conversion_noted s (Err f) = rule_noted f

recorded_noted : (s : State) (x : Session) (parts : Parts) (numbers stock : List Num) → IsNoted s (passing stock (recording s x parts numbers))
recorded_noted s x parts numbers stock = one_of (λ v. IsNoted s (passing stock v)) (nat_eq (effects_in parts) 0) _ _ refl refl

commit_noted : (s : State) (x : Session) (parts : Parts) (stock : List Num) → IsNoted s (commit s x parts stock)
commit_noted s x parts stock =
    let numbers = x.draws ++ stock in
    let Q : Verdict → Type 0 = λ v. IsNoted s (passing stock v) in
    one_of Q (nat_lt 64 (length numbers) || nat_lt 200 (effects_in parts)) _ _ refl
    (one_of Q (nat_eq (effects_in parts) 0 && nat_eq (length numbers) 0) _ _ refl
    (by_room Q s (recording s x parts numbers) refl (recorded_noted s x parts numbers stock)))

session_noted : (found : Found) (s : State) (x : Session) (call : SessionCall) (name : List ℕ) → ships (OfSession name call) ≡ true
    → IsNoted s (session_call found s x call)
session_noted found s x LogsOff name on = refl
session_noted found s x (Asks rs) name on = grant_noted s _
session_noted found s x (Frees rs) name on = refl
session_noted found s x FreesAll name on = refl
session_noted found s x (Converts wanted) name on = conversion_noted s _
session_noted found s x (Draws object nr) name on = never on
session_noted found s x (Reserves object nr upto) name on = never on
session_noted found s x (Reads table key) name on = never on
session_noted found s x (Commits parts stock) name on = commit_noted s x parts stock
session_noted found s x RollsBack name on = refl

called_noted : (found : Found) (s : State) (call : SessionCall) (name : List ℕ) (o : Option Session) → ships (OfSession name call) ≡ true
    → IsNoted s (called found s call o)
called_noted found s call name None on = refl
called_noted found s call name (Some x) on = session_noted found s x call name on

posted_noted : (part : Part) (unit : UnitKey) (o : Outcome) → is_unrecorded (posted_reply part unit o) ≡ false
posted_noted part unit outcome.Done = elim (is_first part) as (λ b. is_unrecorded (if b then reply.Posted unit else reply.Closed unit) ≡ false)
    [ true ↦ refl | false ↦ refl ]
posted_noted part unit (outcome.Refused index reason) =
    elim (is_first part) as (λ b. is_unrecorded (if b then reply.Bad unit index reason else reply.Bad2 unit index reason) ≡ false)
    [ true ↦ refl | false ↦ refl ]

post_noted : (found : Found) (s : State) (worker : ℕ) (part : Part) (o : Option UnitKey)
    → IsNoted s (elim o [ None ↦ Refuses refusal.NoOrder | Some unit ↦ with_room s (posting part s worker unit (found.part part unit)) ])
post_noted found s worker part None = refl
post_noted found s worker part (Some unit) = by_room (IsNoted s) s _ refl (posted_noted part unit (found.part part unit))

-- a result that is refused for a reason which is noted
abbrev Declines : Result Status Refusal → Type 0
Declines (Ok status) = Unit {0}
Declines (Err r) = is_unrecorded (reply.Refused r) ≡ false

room_declines : (b : Bool) (limit : ℕ) (status : Status) → Declines (if b then Err (refusal.StoreFull limit) else Ok status)
room_declines true limit status = refl
room_declines false limit status = tt

unclaimed_declines : (o : Option ℕ) (next : Result Status Refusal) → Declines next → Declines (if_unclaimed o next)
unclaimed_declines None next h = h
unclaimed_declines (Some worker) next h = refl

status_declines : (b : Bool) (unit : UnitKey) (status : Status) (next : Result Status Refusal) → Declines next
    → Declines (if b then next else Err (refusal.WrongStatus unit status))
status_declines true unit status next h = h
status_declines false unit status next h = refl

cancel_declines : (s : State) (unit : UnitKey) → Declines (to_cancel s.stored s.orders s.mark_limit unit)
cancel_declines s unit =
    elim (status_of s.stored.units s.stored.marks unit) as (λ o. Declines (elim o [
      | None ↦ Err refusal.UnknownUnit
      | Some status ↦ if_status may_cancel unit status (if_unclaimed (worker_of s.orders unit) (if_room s.stored s.mark_limit status))
    ])) [
      | None ↦ refl
      | Some status ↦ status_declines (may_cancel status) unit status _
          (unclaimed_declines (worker_of s.orders unit) _ (room_declines (nat_le s.mark_limit (length s.stored.marks)) s.mark_limit status))
    ]

cancel_noted : (s : State) (unit : UnitKey) (r : Result Status Refusal) → Declines r → IsNoted s (cancelling s unit r)
cancel_noted s unit (Ok status) h = refl
cancel_noted s unit (Err r) h = h

resubmit_declines : (s : State) (unit : UnitKey) → Declines (to_resubmit s.stored s.mark_limit unit)
resubmit_declines s unit =
    elim (status_of s.stored.units s.stored.marks unit) as (λ o. Declines (elim o [
      | None ↦ Err refusal.UnknownUnit
      | Some status ↦ if_status may_resubmit unit status (if_room s.stored s.mark_limit status)
    ])) [
      | None ↦ refl
      | Some status ↦ status_declines (may_resubmit status) unit status _ (room_declines (nat_le s.mark_limit (length s.stored.marks)) s.mark_limit status)
    ]

reopening_noted : (s : State) (unit : UnitKey) (r : Result (List Entry) AskFault) → IsNoted s (reopening s unit r)
reopening_noted s unit (Ok locks) = refl
reopening_noted s unit (Err f) = rule_noted f

again_noted : (s : State) (unit : UnitKey) (status : Status) → IsNoted s (trying_again s unit status)
again_noted s unit status.Open = refl
again_noted s unit status.Posted = refl
again_noted s unit status.Closed = refl
again_noted s unit status.Bad = reopening_noted s unit _
again_noted s unit status.Bad2 = refl
again_noted s unit status.Cancelled = refl

resubmit_noted : (s : State) (unit : UnitKey) (r : Result Status Refusal) → Declines r → IsNoted s (resubmitting s unit r)
resubmit_noted s unit (Ok status) h = again_noted s unit status
resubmit_noted s unit (Err r) h = h

own_noted : (found : Found) (s : State) (call : Call) → ships call ≡ true → IsNoted s (own_verdict found s call)
own_noted found s (LogsOn name user) on = never on
own_noted found s (OfSession name call) on = called_noted found s call name (session_at s.sessions name) on
own_noted found s (OfWorker worker (Takes part)) on = never on
own_noted found s (OfWorker worker (Posts part)) on = post_noted found s worker part (order_for part s.stored s.orders worker)
own_noted found s (OfWorker worker Drops) on = never on
own_noted found s (OfAdmin Kills) on = never on
own_noted found s (OfAdmin FailsOver) on = never on
own_noted found s (OfAdmin Restarts) on = never on
own_noted found s (OfAdmin Attaches) on = refl
own_noted found s (OfAdmin (Cancels unit)) on = cancel_noted s unit _ (cancel_declines s unit)
own_noted found s (OfAdmin (Resubmits unit)) on = resubmit_noted s unit _ (resubmit_declines s unit)

pub ships_noted : (found : Found) (s : State) (call : Call) → unavailable s call ≡ None → ships call ≡ true
    → is_unrecorded (judged s (call_verdict found s call)).reply ≡ false
unfolding call_verdict
ships_noted found s call served on = subst (λ o. IsNoted s (unless_refused o (own_verdict found s call))) (sym served) (own_noted found s call on)
