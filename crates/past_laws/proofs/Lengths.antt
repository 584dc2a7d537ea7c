-- How long a history is.
use Rattle.std.proofs.Common.{◌≡◌, ℕ, ◌+◌, ◌≤◌, ◌<◌, true, false, List, [], ◌∷◌, length, sym, ap, ◌∙◌, subst, arith, true≢false}
use Rattle.std.specs.Prelude.{if◌then◌else◌, IsTrue, Option, Some, None, nat_le}
use Rattle.std.proofs.Math.Nat.{le_trans}
use Rattle.std.proofs.lemmas.Bool.{leb-false, leb-true}
use Rattle.std.proofs.lemmas.List.{append-nil, length-append}
use Rattle.enq_base.specs.declared.refusal.Refusal.{Refusal}
use Rattle.enq_base.specs.declared.refusal.Refusal.TheVariants as refusal
use Rattle.hall_laws.proofs.histories.NotedSteps.{AnswersFrom, answers_before}
use Rattle.hall_laws.proofs.keeping.Unchanged.{served-past}
use Rattle.model_laws.proofs.NotedCalls.{by_noting, full_or}
use Rattle.hall_model.specs.Calls.{Call, call_of}
use Rattle.hall_model.specs.Devices.{AllWell, Wanting, StoreFails, BackupFails, LinkFails, NotRemade, DeviceOutcome, IsPossible, MayHappen, found_by}
use Rattle.hall_model.specs.History.{IsStep, Served, ends_in, is_unrecorded, judged, past_entry, served, step, takes_flight, with_entry}
use Rattle.hall_model.specs.Recall.{AreModelAnswers, Made, recalled, state_after}
use Rattle.hall_model.specs.State.{State}
use Rattle.hall_model.specs.Step.{Found, Verdict, Refuses, caller_refusal, call_verdict, down_refusal, is_full as has_no_room, leaves, or_else, own_verdict}
use Rattle.hall_model.specs.Step.{server_refusal, unavailable, unless_refused}
use Rattle.hall_model.specs.declared.command.Command.{Command}
use Rattle.hall_model.specs.declared.command.Reply.{Reply}
use Rattle.hall_model.specs.declared.command.Reply.TheVariants as reply
use Rattle.script_actors.specs.Actors.{is_full}
use Rattle.past_laws.proofs.FullAnswers.{step_other}

abbrev long : Served → ℕ
long r = length r.state.past

served_long : (o : DeviceOutcome) (s : State) (c : Command) → long (served o s c) ≡ length s.past
served_long o s c = ap length (served-past o s c)

entered_long : (o : DeviceOutcome) (s : State) (line : ℕ) (c : Command)
    → length (with_entry line c (takes_flight o) (served o s c)).past ≡ length s.past + 1
entered_long o s line c =
    let done = served o s c in
    length-append done.state.past (past_entry line c (takes_flight o) done ∷ []) ∙ ap (λ n. n + 1) (served_long o s c)

-- a call leaves the history, or is put last into it
step_grows : (o : DeviceOutcome) (s : State) (line : ℕ) (c : Command) → length s.past ≤ long (step o s line c)
step_grows o s line c =
    by_noting (λ r. length s.past ≤ long r) line c (takes_flight o) (served o s c)
    (subst (λ n. length s.past ≤ n) (sym (served_long o s c)) (omega arith))
    (subst (λ n. length s.past ≤ n) (sym (entered_long o s line c)) (omega arith))

step_bounded : (o : DeviceOutcome) (s : State) (line : ℕ) (c : Command) → long (step o s line c) ≤ length s.past + 1
step_bounded o s line c =
    by_noting (λ r. long r ≤ length s.past + 1) line c (takes_flight o) (served o s c)
    (subst (λ n. n ≤ length s.past + 1) (sym (served_long o s c)) (omega arith))
    (subst (λ n. n ≤ length s.past + 1) (sym (entered_long o s line c)) (omega arith))

-- ---- a call that is refused for a full history

full_told : (o : DeviceOutcome) (s : State) (line : ℕ) (c : Command) → is_full (step o s line c).reply ≡ true → 262144 ≤ long (step o s line c)
full_told o s line c told =
    full_or (262144 ≤ long (step o s line c)) (has_no_room s)
    (λ full. le_trans (leb-true 262144 (length s.past) full) (step_grows o s line c))
    (λ room. absurd (true≢false (sym told ∙ step_other o s line c room)))

pub full_step : (s t : State) (line : ℕ) (c : Command) (r : Reply) → IsStep s t line c r → is_full r ≡ true → 262144 ≤ length t.past
full_step s t line c r h told =
    subst (λ (x : Served). is_full x.reply ≡ true → 262144 ≤ long x) (sym h.same) (full_told h.outcome s line c) told

-- ---- a full history

barred_full : (s : State) (call : Call) → has_no_room s ≡ true → unavailable s call ≡ Some refusal.LogFull
barred_full s call full =
    ap (λ b. or_else (if b then Some refusal.LogFull else down_refusal s.condition call)
    (or_else (caller_refusal s.sessions call) (server_refusal s.condition call))) full

full_verdict : (found : Found) (s : State) (call : Call) → has_no_room s ≡ true → call_verdict found s call ≡ Refuses refusal.LogFull
unfolding call_verdict
full_verdict found s call full = ap (λ o. unless_refused o (own_verdict found s call)) (barred_full s call full)

not_served : ◌≡◌ {A = Option Refusal} (Some refusal.LogFull) None → ⊥
not_served e = cc

not_left : (v : Verdict) → v ≡ Refuses refusal.LogFull → IsTrue (leaves v) → ⊥
not_left v is h = true≢false (sym h ∙ ap leaves is)

-- no device does anything in a call that isn't served
ended_full : (o : DeviceOutcome) (s : State) (call : Call) → has_no_room s ≡ true
    → MayHappen o.event s call (call_verdict (found_by o.reading s) s call)
    → (ends_in o.event o.reading s call (call_verdict (found_by o.reading s) s call)).reply ≡ reply.Refused refusal.LogFull
ended_full o s call full may =
    let v = call_verdict (found_by o.reading s) s call in
    let is : v ≡ Refuses refusal.LogFull = full_verdict (found_by o.reading s) s call full in
    elim o.event as (λ e. MayHappen e s call v → (ends_in e o.reading s call v).reply ≡ reply.Refused refusal.LogFull) [
      | AllWell ↦ λ h. ap (λ w. (judged s w).reply) is
      | Wanting ↦ λ h. absurd (not_served (sym (barred_full s call full) ∙ h.0))
      | StoreFails ↦ λ h. absurd (not_left v is h.0)
      | BackupFails ↦ λ h. absurd (not_left v is h.0)
      | LinkFails ↦ λ h. absurd (not_left v is h.0)
      | NotRemade f ↦ λ h. absurd (not_left v is h.0)
    ] may

-- so none is put into it
full_stays : (o : DeviceOutcome) (s : State) (line : ℕ) (c : Command) → has_no_room s ≡ true → IsPossible o s c
    → long (step o s line c) ≡ length s.past
full_stays o s line c full possible =
    let done = served o s c in
    let told : done.reply ≡ reply.Refused refusal.LogFull = ended_full o s (call_of c) full possible.event in
    ap (λ b. long (if b then done else record done { state = with_entry line c (takes_flight o) done })) (ap is_unrecorded told)
    ∙ served_long o s c

below_limit : (n : ℕ) → nat_le 262144 n ≡ false → n + 1 ≤ 262144
below_limit n room = let below : n < 262144 = leb-false 262144 n room in omega (arith, below)

step_most : (o : DeviceOutcome) (s : State) (line : ℕ) (c : Command) → IsPossible o s c → length s.past ≤ 262144 → long (step o s line c) ≤ 262144
step_most o s line c possible few =
    full_or (long (step o s line c) ≤ 262144) (has_no_room s)
    (λ full. subst (λ n. n ≤ 262144) (sym (full_stays o s line c full possible)) few)
    (λ room. le_trans (step_bounded o s line c) (below_limit (length s.past) room))

most_from : (s : State) (made : List Made) → length s.past ≤ 262144 → AnswersFrom s made → length (state_after s made).past ≤ 262144
most_from s [] few answers = few
most_from s (m ∷ ms) few answers =
    most_from (recalled s m) ms (step_most m.outcome s m.call.line m.call.command answers.0.allowed.possible few) answers.1

-- no history grows longer
pub most_calls : (first : State) (made : List Made) → length first.past ≤ 262144 → AreModelAnswers first made
    → length (state_after first made).past ≤ 262144
most_calls first made few answers = most_from first made few (answers_before first made made [] answers (sym (append-nil made)))
