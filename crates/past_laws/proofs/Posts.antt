-- A post isn't answered that there is no unit to take.
use Rattle.std.proofs.Common.{◌≡◌, ℕ, Bool, true, false, refl, subst, sym}
use Rattle.std.specs.Prelude.{◌&&◌, if◌then◌else◌, Option, Some, None}
use Rattle.enq_base.specs.declared.condition.Condition.{Condition}
use Rattle.enq_base.specs.declared.condition.Condition.TheVariants as condition
use Rattle.enq_base.specs.declared.owner.UnitKey.{UnitKey}
use Rattle.enq_base.specs.declared.refusal.Refusal.{Refusal}
use Rattle.enq_base.specs.declared.refusal.Refusal.TheVariants as refusal
use Rattle.model_laws.proofs.ByCall.{by_room}
use Rattle.model_laws.proofs.NotedCalls.{by_noting}
use Rattle.hall_model.specs.Calls.{Call, LogsOn, OfSession, OfWorker, OfAdmin, Takes, Posts, Drops, call_of}
use Rattle.hall_model.specs.Devices.{DeviceOutcome, AllWell, Wanting, StoreFails, BackupFails, LinkFails, NotRemade, RemakeFault, MeetsWant, FindsBad, FindsBadStore, fault_told, found_by}
use Rattle.hall_model.specs.History.{IsStep, Served, ends_in, judged, losing, served, takes_flight}
use Rattle.hall_model.specs.Orders.{order_for}
use Rattle.hall_model.specs.State.{State}
use Rattle.hall_model.specs.Step.{Found, Verdict, Refuses, call_verdict, down_refusal, is_full, or_else, posted_reply, posting, server_refusal, unless_refused, with_room, worker_call}
use Rattle.hall_model.specs.declared.command.Command.{Command}
use Rattle.hall_model.specs.declared.command.Reply.{Reply}
use Rattle.hall_model.specs.declared.command.Reply.TheVariants as reply
use Rattle.ledger_steps.specs.declared.step.Outcome.{Outcome}
use Rattle.ledger_steps.specs.declared.step.Outcome.TheVariants as outcome
use Rattle.order_laws.specs.Behind.{is_post}
use Rattle.order_workers.specs.Orders.{is_idle}
use Rattle.ledger_steps.specs.declared.part.Part.{Part}
use Rattle.ledger_steps.specs.Parts.{is_first}

abbrev NotIdle : Served → Type 0
NotIdle r = is_idle r.reply ≡ false

abbrev IfRefused : Option Refusal → Type 0
IfRefused None = Unit {0}
IfRefused (Some r) = is_idle (reply.Refused r) ≡ false

module _ (s : State) where
  abbrev Judged : Verdict → Type 0
  Judged v = NotIdle (judged s v)

  unless_not : (o : Option Refusal) (v : Verdict) → IfRefused o → Judged v → Judged (unless_refused o v)
  unless_not None v h k = k
  unless_not (Some r) v h k = h

  else_not : (a b : Option Refusal) → IfRefused a → IfRefused b → IfRefused (or_else a b)
  else_not None b h k = k
  else_not (Some r) b h k = h

  down_not : (k : Condition) (worker : ℕ) (part : Part) → IfRefused (down_refusal k (OfWorker worker (Posts part)))
  down_not condition.Up worker part = tt
  down_not condition.NoServer worker part = tt
  down_not (condition.Doubt n) worker part = refl

  server_not : (k : Condition) (worker : ℕ) (part : Part) → IfRefused (server_refusal k (OfWorker worker (Posts part)))
  server_not condition.Up worker part = tt
  server_not condition.NoServer worker part =
      elim (is_first part) as (λ b. IfRefused (if b then Some refusal.SystemFailure else None)) [ true ↦ refl | false ↦ tt ]
  server_not (condition.Doubt n) worker part = tt

  full_not : (b : Bool) (o : Option Refusal) → IfRefused o → IfRefused (if b then Some refusal.LogFull else o)
  full_not true o h = refl
  full_not false o h = h

  posted_not : (part : Part) (unit : UnitKey) (o : Outcome) → is_idle (posted_reply part unit o) ≡ false
  posted_not part unit outcome.Done =
      elim (is_first part) as (λ b. is_idle (if b then reply.Posted unit else reply.Closed unit) ≡ false) [ true ↦ refl | false ↦ refl ]
  posted_not part unit (outcome.Refused index reason) =
      elim (is_first part) as (λ b. is_idle (if b then reply.Bad unit index reason else reply.Bad2 unit index reason) ≡ false) [
        | true ↦ refl
        | false ↦ refl
      ]

  own_not : (found : Found) (worker : ℕ) (part : Part) → Judged (worker_call found s worker (Posts part))
  own_not found worker part =
      elim (order_for part s.stored s.orders worker)
      as (λ o. Judged (elim o [ None ↦ Refuses refusal.NoOrder | Some unit ↦ with_room s (posting part s worker unit (found.part part unit)) ])) [
        | None ↦ refl
        | Some unit ↦ by_room Judged s (posting part s worker unit (found.part part unit)) refl (posted_not part unit (found.part part unit))
      ]

  verdict_not : (found : Found) (worker : ℕ) (part : Part) → Judged (call_verdict found s (OfWorker worker (Posts part)))
  unfolding call_verdict
  verdict_not found worker part =
      let call = OfWorker worker (Posts part) in
      unless_not (or_else (if is_full s then Some refusal.LogFull else down_refusal s.condition call) (or_else None (server_refusal s.condition call)))
      (worker_call found s worker (Posts part))
      (else_not (if is_full s then Some refusal.LogFull else down_refusal s.condition call) (or_else None (server_refusal s.condition call))
      (full_not (is_full s) (down_refusal s.condition call) (down_not s.condition worker part))
      (else_not None (server_refusal s.condition call) tt (server_not s.condition worker part)))
      (own_not found worker part)

fault_not : (fault : RemakeFault) → is_idle (reply.Refused (fault_told fault)) ≡ false
fault_not MeetsWant = refl
fault_not (FindsBad place) = refl
fault_not (FindsBadStore table row) = refl

-- what the devices did, and what a call came to
abbrev ended : DeviceOutcome → State → Call → Served
ended o s call = losing o.lost (ends_in o.event o.reading s call (call_verdict (found_by o.reading s) s call))

ended_not : (o : DeviceOutcome) (s : State) (worker : ℕ) (part : Part) → NotIdle (ended o s (OfWorker worker (Posts part)))
ended_not o s worker part =
    let call = OfWorker worker (Posts part) in
    elim o.event as (λ e. NotIdle (ends_in e o.reading s call (call_verdict (found_by o.reading s) s call))) [
      | AllWell ↦ verdict_not s (found_by o.reading s) worker part
      | Wanting ↦ refl
      | StoreFails ↦ refl
      | BackupFails ↦ refl
      | LinkFails ↦ refl
      | NotRemade fault ↦ fault_not fault
    ]

-- of any call
abbrev NoIdlePost : Call → Served → Type 0
NoIdlePost call r = (is_post call && is_idle r.reply) ≡ false

served_not : (o : DeviceOutcome) (s : State) (call : Call) → NoIdlePost call (ended o s call)
served_not o s (LogsOn name user) = refl
served_not o s (OfSession name call) = refl
served_not o s (OfWorker worker (Takes part)) = refl
served_not o s (OfWorker worker (Posts part)) = ended_not o s worker part
served_not o s (OfWorker worker Drops) = refl
served_not o s (OfAdmin call) = refl

pub no_idle_post : (s t : State) (line : ℕ) (c : Command) (r : Reply) → IsStep s t line c r → (is_post (call_of c) && is_idle r) ≡ false
no_idle_post s t line c r h =
    let o = h.outcome in
    let one : NoIdlePost (call_of c) (served o s c) = served_not o s (call_of c) in
    subst (NoIdlePost (call_of c)) (sym h.same) (by_noting (NoIdlePost (call_of c)) line c (takes_flight o) (served o s c) one one)
