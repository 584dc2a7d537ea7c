-- A call apart from its place in the history.
use Rattle.std.specs.Prelude.{◌≡◌, Bool, None}
use Rattle.hall_model.specs.declared.command.Command.{Command}
use Rattle.hall_model.specs.declared.command.Reply.{Reply}
use Rattle.hall_model.specs.Calls.{call_of}
use Rattle.hall_model.specs.Devices.{DeviceOutcome, IsPossible}
use Rattle.hall_model.specs.History.{served, takes_flight}
use Rattle.hall_model.specs.State.{State}
use Rattle.hall_model.specs.Step.{unavailable}

-- the call leaves this state, and is answered so; it isn't in the history yet
pub record IsAct (s : State) (c : Command) (after : State) (r : Reply) : Type 0 where
  pub outcome : DeviceOutcome
  pub possible : IsPossible outcome s c
  pub same : served outcome s c ≡ record { state = after; reply = r }

-- and as a restart that was done it has found the change in flight in the store, or not
pub record IsTelling (s : State) (c : Command) (found : Bool) (after : State) (r : Reply) : Type 0 where
  pub act : IsAct s c after r
  pub taken : takes_flight act.outcome ≡ found

-- nothing bars the call
pub record Admits (s : State) (c : Command) : Type 0 where
  pub served : unavailable s (call_of c) ≡ None
