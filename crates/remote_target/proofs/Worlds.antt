-- What every event keeps.
use Rattle.std.proofs.Common.{◌≡◌, ℕ, ◌≤◌, ⊎_elim, Bool, true, false, cond, is_none, count_by, map, List, [], ◌∷◌, ◌++◌, Option, Some, None, slice_get, Contains, refl, sym, ap, subst, ◌∙◌, arith}
use Rattle.std.specs.FinMap.{empty}
use Rattle.std.proofs.lemmas.List.Elements.{Contains-push_cases}
use Rattle.remote_target.specs.declared.call.CallAnswer.{CallAnswer}
use Rattle.remote_target.specs.declared.call.CallOutcome.{CallOutcome}
use Rattle.remote_target.specs.Calls.{outcome_of, tables_with}
use Rattle.remote_target.specs.Runs.{Call, Execution, executed_as, execution, ran_if}
use Rattle.remote_target.specs.Once.{Entry, World, Event, Collect, Send, Deliver, Answer, Commit, Whole, StopBefore, StopAfter, AreOnce, AreRight, Stands}
use Rattle.remote_target.specs.Once.{answered, collected, committed, delivered, executed, given_if, happens, is_collected, is_of, no_calls, run, sent_if_open}
use Rattle.remote_target.specs.Once.{settled, stored, tables_after, world_after}
use Rattle.remote_target.proofs.Lists.{contains_none, contains_got}
use Rattle.remote_target.proofs.Executions.{as_contained, as_more, once_more, right_more, tables_more}
use Rattle.remote_target.proofs.Outboxes.{HasOneText, entry, one_text_more, one_text_settled, outcome_cases, stands_more, stands_settled}

record Holds (w : World) : Type 0 where
  pub once : (tid : List ℕ) → count_by (is_of tid) w.target.executed ≤ 1
  pub sent : (c : Call) → Contains w.sent c → Stands w.outbox c.tid c.text
  pub made : (x : Execution) → Contains w.target.executed x → Stands w.outbox x.tid x.text
  pub given : (g : CallAnswer) → Contains w.given g → executed_as g.tid w.target.executed ≡ Some g.outcome
  pub texts : HasOneText w.outbox
  pub settled : (tid text : List ℕ) (o : CallOutcome) → Contains w.outbox (entry tid text (Some o)) → executed_as tid w.target.executed ≡ Some o
  pub tables : w.target.tables ≡ tables_after empty w.target.executed
  pub right : AreRight empty w.target.executed

at_first : Holds no_calls
at_first = record {
  once = λ tid. omega arith;
  sent = λ c h. absurd (contains_none c h);
  made = λ x h. absurd (contains_none x h);
  given = λ g h. absurd (contains_none g h);
  texts = λ tid text other a b. absurd (contains_none _ a.1);
  settled = λ tid text o h. absurd (contains_none _ h);
  tables = refl;
  right = tt;
}

-- ---- collecting

no_outcome : (e : Entry) (tid text : List ℕ) (o : CallOutcome) → e.outcome ≡ None → e ≡ entry tid text (Some o) → ⊥
no_outcome e tid text o none is = let same = ap (λ (z : Entry). z.outcome) is in cc

more_collected : (w : World) (call : Call) → is_collected call.tid w.outbox ≡ false → Holds w
    → Holds (record w { outbox = w.outbox ++ entry call.tid call.text None ∷ [] })
more_collected w call fresh h =
    let e = entry call.tid call.text None in
    record {
      once = h.once;
      sent = λ c at. stands_more w.outbox e c.tid c.text (h.sent c at);
      made = λ x at. stands_more w.outbox e x.tid x.text (h.made x at);
      given = h.given;
      texts = one_text_more w.outbox e fresh h.texts;
      settled = λ tid text o at. ⊎_elim (λ old. h.settled tid text o old) (λ is. absurd (no_outcome e tid text o refl is))
          (Contains-push_cases w.outbox e (entry tid text (Some o)) at);
      tables = h.tables;
      right = h.right;
    }

if_collected : (b : Bool) (w after : World) → Holds w → (b ≡ false → Holds after) → Holds (cond b w after)
if_collected true w after h more = h
if_collected false w after h more = more refl

keeps_collected : (w : World) (call : Call) → Holds w → Holds (collected call w)
keeps_collected w call h = if_collected (is_collected call.tid w.outbox) w _ h (λ fresh. more_collected w call fresh h)

-- ---- sending

more_sent : (w : World) (e : Entry) → Contains w.outbox e → Holds w → Holds (record w { sent = w.sent ++ record { tid = e.tid; text = e.text } ∷ [] })
more_sent w e at h =
    record {
      once = h.once;
      sent = λ c there. ⊎_elim (λ old. h.sent c old) (λ is. subst (λ (z : Call). Stands w.outbox z.tid z.text) is (e.outcome, at))
          (Contains-push_cases w.sent (record { tid = e.tid; text = e.text }) c there);
      made = h.made;
      given = h.given;
      texts = h.texts;
      settled = h.settled;
      tables = h.tables;
      right = h.right;
    }

if_open : (b : Bool) (w after : World) → Holds w → Holds after → Holds (cond b after w)
if_open true w after h more = more
if_open false w after h more = h

keeps_sent : (w : World) (found : Option Entry) → ((e : Entry) → found ≡ Some e → Contains w.outbox e) → Holds w → Holds (sent_if_open w found)
keeps_sent w None at h = h
keeps_sent w (Some e) at h = if_open (is_none e.outcome) w _ h (more_sent w e (at e refl) h)

-- ---- executing

more_executed : (w : World) (call : Call) → executed_as call.tid w.target.executed ≡ None → Stands w.outbox call.tid call.text → Holds w
    → Holds (record w { target = ran_if None call w.target })
more_executed w call fresh stands h =
    let x = execution call w.target in
    record {
      once = once_more x w.target.executed fresh h.once;
      sent = h.sent;
      made = λ y at. ⊎_elim (λ old. h.made y old) (λ is. subst (λ (z : Execution). Stands w.outbox z.tid z.text) is stands)
          (Contains-push_cases w.target.executed x y at);
      given = λ g at. as_more g.tid g.outcome w.target.executed (x ∷ []) (h.given g at);
      texts = h.texts;
      settled = λ tid text o at. as_more tid o w.target.executed (x ∷ []) (h.settled tid text o at);
      tables = ap (tables_with call.text) h.tables ∙ sym (tables_more empty w.target.executed x);
      right = right_more empty w.target.executed x h.right (ap (outcome_of call.text) h.tables);
    }

keeps_executed_if : (w : World) (call : Call) (known : Option CallOutcome) → executed_as call.tid w.target.executed ≡ known → Stands w.outbox call.tid call.text
    → Holds w → Holds (record w { target = ran_if known call w.target })
keeps_executed_if w call None is stands h = more_executed w call is stands h
keeps_executed_if w call (Some o) is stands h = h

keeps_executed : (w : World) (call : Call) → Stands w.outbox call.tid call.text → Holds w → Holds (executed call w)
keeps_executed w call stands h = keeps_executed_if w call (executed_as call.tid w.target.executed) refl stands h

more_given : (w : World) (tid : List ℕ) (o : CallOutcome) → executed_as tid w.target.executed ≡ Some o → Holds w → Holds (given_if tid (Some o) w)
more_given w tid o is h =
    let g : CallAnswer = record { tid = tid; outcome = o } in
    record {
      once = h.once;
      sent = h.sent;
      made = h.made;
      given = λ a at. ⊎_elim (λ old. h.given a old) (λ same. subst (λ (z : CallAnswer). executed_as z.tid w.target.executed ≡ Some z.outcome) same is)
          (Contains-push_cases w.given g a at);
      texts = h.texts;
      settled = h.settled;
      tables = h.tables;
      right = h.right;
    }

keeps_given : (w : World) (tid : List ℕ) (known : Option CallOutcome) → executed_as tid w.target.executed ≡ known → Holds w → Holds (given_if tid known w)
keeps_given w tid None is h = h
keeps_given w tid (Some o) is h = more_given w tid o is h

keeps_answered : (w : World) (call : Call) → Holds w → Holds (answered call w)
keeps_answered w call h = keeps_given w call.tid (executed_as call.tid w.target.executed) refl h

keeps_delivered : (how : Commit) (w : World) (found : Option Call) → ((c : Call) → found ≡ Some c → Contains w.sent c) → Holds w → Holds (delivered how w found)
keeps_delivered how w None at h = h
keeps_delivered Whole w (Some call) at h = keeps_answered (executed call w) call (keeps_executed w call (h.sent call (at call refl)) h)
keeps_delivered StopBefore w (Some call) at h = h
keeps_delivered StopAfter w (Some call) at h = keeps_executed w call (h.sent call (at call refl)) h

-- ---- storing an answer

more_stored : (w : World) (g : CallAnswer) → Contains w.given g → Holds w → Holds (record w { outbox = map (settled g) w.outbox })
more_stored w g at h =
    record {
      once = h.once;
      sent = λ c there. stands_settled w.outbox g c.tid c.text (h.sent c there);
      made = λ x there. stands_settled w.outbox g x.tid x.text (h.made x there);
      given = h.given;
      texts = one_text_settled w.outbox g h.texts;
      settled = λ tid text o there.
          ⊎_elim (λ old. h.settled tid text o old)
          (λ is. subst (λ t. executed_as t w.target.executed ≡ Some o) is.0 (h.given g at ∙ ap Some is.1))
          (outcome_cases w.outbox g tid text o there);
      tables = h.tables;
      right = h.right;
    }

keeps_stored : (w : World) (found : Option CallAnswer) → ((g : CallAnswer) → found ≡ Some g → Contains w.given g) → Holds w → Holds (stored w found)
keeps_stored w None at h = h
keeps_stored w (Some g) at h = more_stored w g (at g refl) h

keeps_committed : (how : Commit) (before after : World) → Holds before → Holds after → Holds (committed how before after)
keeps_committed Whole before after h more = more
keeps_committed StopBefore before after h more = h
keeps_committed StopAfter before after h more = more

-- ---- every event

keeps_event : (w : World) (e : Event) → Holds w → Holds (happens w e)
keeps_event w (Collect how call) h = keeps_committed how w (collected call w) h (keeps_collected w call h)
keeps_event w (Send n) h = keeps_sent w (slice_get w.outbox n) (contains_got w.outbox n) h
keeps_event w (Deliver how n) h = keeps_delivered how w (slice_get w.sent n) (contains_got w.sent n) h
keeps_event w (Answer how n) h = keeps_committed how w (stored w (slice_get w.given n)) h (keeps_stored w (slice_get w.given n) (contains_got w.given n) h)

keeps_run : (events : List Event) (w : World) → Holds w → Holds (run events w)
keeps_run [] w h = h
keeps_run (e ∷ es) w h = keeps_run es (happens w e) (keeps_event w e h)

are_once : (w : World) → Holds w → AreOnce w
are_once w h = record {
  once = h.once;
  collected = h.made;
  settled = λ tid text o at.
      let found = as_contained tid o w.target.executed (h.settled tid text o at) in
      let same = h.texts tid found.0 text (h.made (record { tid = tid; text = found.0; outcome = o }) found.1) (Some o, at) in
      subst (λ t. Contains w.target.executed (record { tid = tid; text = t; outcome = o })) same found.1;
  tables = h.tables;
  right = h.right;
}

pub executed_once : (events : List Event) → AreOnce (world_after events)
executed_once events = are_once (world_after events) (keeps_run events no_calls at_first)
