-- A call that nothing bars has room in the history.
use Rattle.std.proofs.Common.{◌≡◌, false}
use Rattle.std.specs.Prelude.{Some, None}
use Rattle.enq_base.specs.declared.refusal.Refusal.TheVariants as refusal
use Rattle.hall_model.specs.Calls.{Call}
use Rattle.hall_model.specs.State.{State}
use Rattle.hall_model.specs.Step.{barred, is_full}
use Rattle.hall_calls.proofs.verdicts.FoundChange.{shut_by_history}
use Rattle.model_laws.proofs.NotedCalls.{full_or}

-- a call is served only where the history has room
pub has_room : (s : State) (call : Call) → barred s call ≡ None → is_full s ≡ false
has_room s call room =
    full_or _ (is_full s)
    (λ full.
    let shut : barred s call ≡ Some refusal.LogFull = shut_by_history s call full in
    cc)
    (λ e. e)
