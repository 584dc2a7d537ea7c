-- What bars a call bars it whatever it asks for.
use Rattle.std.proofs.Common.{◌≡◌, ap}
use Rattle.std.specs.Prelude.{Some}
use Rattle.enq_base.specs.declared.refusal.Refusal.{Refusal}
use Rattle.hall_model.specs.Calls.{Call}
use Rattle.hall_model.specs.State.{State}
use Rattle.hall_model.specs.Step.{Found, Refuses, call_verdict, own_verdict, unavailable, unless_refused}

-- what bars a call bars it whatever it asks for
pub refused_verdict : (found : Found) (s : State) (call : Call) (r : Refusal) → unavailable s call ≡ Some r → call_verdict found s call ≡ Refuses r
unfolding call_verdict
refused_verdict found s call r shut = ap (λ o. unless_refused o (own_verdict found s call)) shut
