-- A worker that goes on alone.
use Rattle.std.specs.Prelude.{ℕ, Option}
use Rattle.hall_model.specs.History.{IsStep}
use Rattle.hall_model.specs.State.{State}
use Rattle.order_workers.specs.Orders.{Made}
use Rattle.caller_laws.specs.Doing.{LeadsAlone, Looked}

-- a state, and the line of the worker's last call that found the history full
pub record Stood : Type 0 where
  pub state : State
  pub full_at : Option ℕ

abbrev pub looked : Stood → Looked
looked k = record { past = k.state.past; full_at = k.full_at }

-- a call of the worker, served by the hall
pub record LeadsServed (k : Stood) (m : Made) (l : Stood) : Type 0 where
  pub step : IsStep k.state l.state 0 m.command m.reply
  pub alone : LeadsAlone (looked k) m (looked l)
