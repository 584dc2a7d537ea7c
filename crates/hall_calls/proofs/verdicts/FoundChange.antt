-- Only a restart tells that it has found the change in flight.
use Rattle.std.proofs.Common.{◌≡◌, true, false, refl, ap}
use Rattle.std.specs.Prelude.{if◌then◌else◌, Some}
use Rattle.enq_base.specs.declared.refusal.Refusal.TheVariants as refusal
use Rattle.hall_model.specs.Acts.{IsAct, IsTelling}
use Rattle.hall_model.specs.Calls.{Call, call_of, restarts}
use Rattle.hall_model.specs.Devices.{AllWell, Wanting, StoreFails, BackupFails, LinkFails, NotRemade}
use Rattle.hall_model.specs.History.{takes_flight}
use Rattle.hall_model.specs.State.{State}
use Rattle.hall_model.specs.Step.{barred, down_refusal, is_full}
use Rattle.hall_model.specs.declared.command.Command.{Command}
use Rattle.hall_model.specs.declared.command.Reply.{Reply}
use Rattle.model_laws.proofs.NotedCalls.{finds_none}

-- a full history
pub shut_by_history : (s : State) (call : Call) → is_full s ≡ true → barred s call ≡ Some refusal.LogFull
shut_by_history s call full = ap (λ b. if b then Some refusal.LogFull else down_refusal s.condition call) full

-- no other call takes the change in flight
pub never_takes : (s : State) (c : Command) (after : State) (r : Reply) (act : IsAct s c after r) → restarts (call_of c) ≡ false
    → takes_flight act.outcome ≡ false
never_takes s c after r act off =
    let o = act.outcome in
    elim o.event as (λ e. takes_flight (record { event = e; reading = o.reading; lost = o.lost }) ≡ false) [
      | AllWell ↦ finds_none o.reading s (call_of c) off act.possible.reading
      | Wanting ↦ refl
      | StoreFails ↦ refl
      | BackupFails ↦ refl
      | LinkFails ↦ refl
      | NotRemade fault ↦ refl
    ]

pub tells_none : (s : State) (c : Command) (after : State) (r : Reply) → IsAct s c after r → restarts (call_of c) ≡ false → IsTelling s c false after r
tells_none s c after r act off = record { act = act; taken = never_takes s c after r act off }
