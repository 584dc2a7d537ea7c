-- Calls that are refused where there is no lock server, and what a restart finds there.
use Rattle.std.proofs.Common.{◌≡◌, Bool, true, false, refl, sym, ap, ◌∙◌}
use Rattle.std.specs.Prelude.{if◌then◌else◌, Option, Some, None}
use Rattle.enq_base.specs.declared.condition.Condition.{Condition}
use Rattle.enq_base.specs.declared.condition.Condition.TheVariants as condition
use Rattle.enq_base.specs.declared.refusal.Refusal.{Refusal}
use Rattle.enq_base.specs.declared.refusal.Refusal.TheVariants as refusal
use Rattle.hall_model.specs.Calls.{Call, wants_server}
use Rattle.hall_model.specs.State.{State}
use Rattle.hall_model.specs.Step.{Found, Verdict, Refuses, barred, call_verdict, caller_refusal, or_else, own_verdict, server_refusal, stored_anew, unavailable, unless_refused}

-- ---- a call that wants a server, where there is none

none_later : (o later : Option Refusal) → or_else o later ≡ None → later ≡ None
none_later None later e = e
none_later (Some r) later e = cc

not_alone : (k : Condition) (call : Call) → k ≡ condition.NoServer → wants_server call ≡ true → server_refusal k call ≡ None → ⊥
not_alone condition.Up call is wants e = cc
not_alone condition.NoServer call is wants e = let shut : Some refusal.SystemFailure ≡ None =
    sym (ap (λ b. if b then Some refusal.SystemFailure else None) wants) ∙ e in cc
not_alone (condition.Doubt n) call is wants e = cc

some_refusal : (Q : Verdict → Type 0) (o : Option Refusal) (v : Verdict) → (o ≡ None → ⊥) → ((r : Refusal) → Q (Refuses r)) → Q (unless_refused o v)
some_refusal Q None v not refuse = absurd (not refl)
some_refusal Q (Some r) v not refuse = refuse r

-- it is refused
pub unserved : (Q : Verdict → Type 0) (found : Found) (s : State) (call : Call) → s.condition ≡ condition.NoServer → wants_server call ≡ true
    → ((r : Refusal) → Q (Refuses r)) → Q (call_verdict found s call)
unfolding call_verdict
unserved Q found s call none wants refuse =
    some_refusal Q (unavailable s call) (own_verdict found s call)
    (λ e. not_alone s.condition call none wants (none_later (caller_refusal s.sessions call) _ (none_later (barred s call) _ e))) refuse

-- where nothing is in flight a restart finds what was stored before
pub anew_as_before : (taken : Bool) (s : State) → s.in_flight ≡ None → stored_anew taken s.stored s.in_flight ≡ s.stored
anew_as_before true s none = ap (stored_anew true s.stored) none
anew_as_before false s none = refl
