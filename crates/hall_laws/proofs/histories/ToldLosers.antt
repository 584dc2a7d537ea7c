-- A session that lost a lock is told so.
use Rattle.std.proofs.Common.{◌≡◌, ℕ, true, false, not, ◌&&◌, List, sym, ap, ◌∙◌}
use Rattle.std.specs.Prelude.{if◌then◌else◌, IsTrue, Option, Some, None}
use Rattle.enq_base.specs.declared.refusal.Refusal.{Refusal}
use Rattle.enq_base.specs.declared.refusal.Refusal.TheVariants as refusal
use Rattle.hall_model.specs.declared.command.Command.{Command}
use Rattle.hall_model.specs.declared.command.Reply.TheVariants as reply
use Rattle.hall_model.specs.declared.command.Session.{Session}
use Rattle.hall_model.specs.Calls.{OfSession, SessionCall, call_of, ends_unit}
use Rattle.hall_model.specs.Devices.{AllWell, BackupFails, DeviceOutcome, LinkFails, MayHappen, NotRemade, StoreFails, Wanting, found_by}
use Rattle.hall_model.specs.History.{judged, served, takes_flight}
use Rattle.hall_laws.specs.Losing.{LosersAreTold}
use Rattle.hall_model.specs.Recall.{AreModelAnswers, Made, state_after}
use Rattle.hall_model.specs.Sessions.{session_at}
use Rattle.hall_model.specs.State.{State}
use Rattle.hall_model.specs.Step.{Verdict, Refuses, barred, call_verdict, leaves, or_else, server_refusal, session_refusal, unavailable}
use Rattle.model_laws.proofs.BarredCalls.{refused_verdict}
use Rattle.model_laws.proofs.NotedCalls.{by_noting}

no_call : (o : Option Refusal) (r : Refusal) → o ≡ Some r → o ≡ None → ⊥
no_call None r h k = cc
no_call (Some x) r h k = cc

leaves_none : (v : Verdict) (r : Refusal) → v ≡ Refuses r → IsTrue (leaves v) → ⊥
leaves_none v r is h = let wrong : false ≡ true = sym (ap leaves is) ∙ h in cc

-- nothing is served to it
barred_loser : (s : State) (name : List ℕ) (asked : SessionCall) (x : Session) → barred s (OfSession name asked) ≡ None → session_at s.sessions name ≡ Some x
    → x.lost ≡ true → ends_unit asked ≡ false
    → unavailable s (OfSession name asked) ≡ Some refusal.LocksLost
barred_loser s name asked x free stands lost goes =
    let later = server_refusal s.condition (OfSession name asked) in
    ap (λ o. or_else o (or_else (session_refusal asked (session_at s.sessions name)) later)) free
    ∙ ap (λ o. or_else (session_refusal asked o) later) stands
    ∙ (λ i. or_else (if lost i && not (goes i) then Some refusal.LocksLost else None) later)

-- a call that is refused before it is served is answered so
refused_so : (o : DeviceOutcome) (s : State) (c : Command) (r : Refusal) → unavailable s (call_of c) ≡ Some r
    → MayHappen o.event s (call_of c) (call_verdict (found_by o.reading s) s (call_of c)) → (served o s c).reply ≡ reply.Refused r
refused_so o s c r shut =
    let v = call_verdict (found_by o.reading s) s (call_of c) in
    let is : v ≡ Refuses r = refused_verdict (found_by o.reading s) s (call_of c) r shut in
    elim o.event as (λ e. MayHappen e s (call_of c) v → (served (record { event = e; reading = o.reading; lost = o.lost }) s c).reply ≡ reply.Refused r) [
      | AllWell ↦ λ may. ap (λ w. (judged s w).reply) is
      | Wanting ↦ λ may. absurd (no_call (unavailable s (call_of c)) r shut may.0)
      | StoreFails ↦ λ may. absurd (leaves_none v r is may.0)
      | BackupFails ↦ λ may. absurd (leaves_none v r is may.0)
      | LinkFails ↦ λ may. absurd (leaves_none v r is may.0)
      | NotRemade fault ↦ λ may. absurd (leaves_none v r is may.0)
    ]

pub losers_told : (first : State) (made : List Made) → AreModelAnswers first made → LosersAreTold first made
losers_told first made answers earlier later m whole free loser =
    let s = state_after first earlier in
    let answer = answers earlier later m whole in
    let c = m.call.command in
    let unbarred : barred s (OfSession loser.name loser.asked) ≡ None = sym (ap (barred s) loser.made) ∙ free in
    let shut : unavailable s (call_of c) ≡ Some refusal.LocksLost =
    ap (unavailable s) loser.made ∙ barred_loser s loser.name loser.asked loser.session unbarred loser.stands loser.lost loser.goes_on in
    let told = refused_so m.outcome s c refusal.LocksLost shut answer.allowed.possible.event in
    sym answer.reply ∙ by_noting (λ x. x.reply ≡ reply.Refused refusal.LocksLost) m.call.line c (takes_flight m.outcome) (served m.outcome s c) told told
