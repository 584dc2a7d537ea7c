-- A restart that is done flags just the sessions that lose.
use Rattle.std.proofs.Common.{◌≡◌, List, [], ◌∷◌, map, refl, sym, ◌∙◌, subst}
use Rattle.std.proofs.lemmas.List.Sums.{fold-append}
use Rattle.enq_base.specs.declared.refusal.Refusal.{Refusal}
use Rattle.hall_model.specs.declared.command.Reply.TheVariants as reply
use Rattle.hall_model.specs.Calls.{Call, OfAdmin, Restarts, call_of}
use Rattle.hall_model.specs.History.{Served, judged, served, takes_flight}
use Rattle.hall_laws.specs.Losing.{FlagsJustLosers}
use Rattle.hall_model.specs.Recall.{AreModelAnswers, Made, again, recalled, state_after}
use Rattle.hall_model.specs.Sessions.{bereft_if}
use Rattle.hall_model.specs.State.{State}
use Rattle.hall_model.specs.Step.{Found, Verdict, call_verdict}
use Rattle.model_laws.proofs.ByCall.{by_anew, by_event}
use Rattle.model_laws.proofs.NotedCalls.{by_noting}

abbrev FlagsIf : State → Call → Served → Type 0
FlagsIf s call r = call ≡ OfAdmin Restarts → r.reply ≡ reply.Done → r.state.sessions ≡ map (bereft_if s.failed_caller) s.sessions

not_done : (r : Refusal) → reply.Refused r ≡ reply.Done → ⊥
not_done r e = cc

judged-flags : (found : Found) (s : State) (call : Call) → FlagsIf s call (judged s (call_verdict found s call))
judged-flags found s call is =
    let Q : Verdict → Type 0 = λ v. (judged s v).reply ≡ reply.Done → (judged s v).state.sessions ≡ map (bereft_if s.failed_caller) s.sessions in
    subst (λ c. Q (call_verdict found s c)) (sym is) (by_anew Q found s (λ r told. absurd (not_done r told)) (λ told. refl))

stepped-flags : (s : State) (m : Made) → FlagsIf s (call_of m.call.command) (again s m)
stepped-flags s m =
    let c = m.call.command in
    let Q : Served → Type 0 = FlagsIf s (call_of c) in
    let h =
    by_event Q m.outcome s c (λ lost done h. h) (λ found. judged-flags found s (call_of c)) (λ is told. absurd (not_done _ told))
    (λ is told. absurd (not_done _ told)) (λ reading is told. absurd (not_done _ told)) (λ reading is told. absurd (not_done _ told))
    (λ read r is told. absurd (not_done r told)) in
    by_noting Q m.call.line c (takes_flight m.outcome) (served m.outcome s c) h h

pub just_losers : (first : State) (made : List Made) → AreModelAnswers first made → FlagsJustLosers first made
just_losers first made answers earlier later m whole is done =
    let s = state_after first earlier in
    let answer = answers earlier later m whole in
    subst (λ (t : State). t.sessions ≡ map (bereft_if s.failed_caller) s.sessions) (sym (fold-append recalled first earlier (m ∷ [])))
    (stepped-flags s m is (answer.reply ∙ done))
