-- What is known of the workers of a history that is at its end.
use Rattle.std.specs.Prelude.{◌≡◌, ◌⊎◌, ℕ, true, false, List, [], None}
use Rattle.std.specs.List.{list_any}
use Rattle.hall_model.specs.History.{IsStep}
use Rattle.hall_model.specs.Recall.{AreModelAnswers, Made, calls_of, state_after}
use Rattle.hall_model.specs.State.{State}
use Rattle.hall_model.specs.declared.command.PastEntry.{PastEntry}
use Rattle.hall_model.specs.declared.command.Who.TheVariants as caller
use Rattle.order_laws.specs.Behind.{HasNoTrouble, IsFresh, wants}
use Rattle.order_workers.specs.Orders.{Leads, Rests}
use Rattle.order_workers.specs.Orders.{Made as MadeByWorker}
use Rattle.caller_laws.specs.Callers.{entries_by}
use Rattle.caller_laws.specs.Doing.{WorkerDid}

-- Calls from a first state in order, in which nothing went wrong: memory was wanting in none, no device failed, the
-- lock server wasn't ended, and the store had room.
pub record WentWell (first : State) (made : List Made) : Type 0 where
  pub fresh : IsFresh first
  pub none : first.past ≡ []
  pub answers : AreModelAnswers first made
  pub calm : HasNoTrouble (calls_of made)
  pub memory : list_any wants (calls_of made) ≡ false

-- one call of a worker
abbrev pub LeadsState : State → MadeByWorker → State → Type 0
LeadsState s m t = IsStep s t 0 m.command m.reply

-- A worker went on alone behind these calls, from one state to another, until it rested.
pub record RestedAlone (w : ℕ) (s t : State) : Type 0 where
  pub calls : List MadeByWorker
  pub leads : Leads LeadsState s calls t
  pub rests : Rests w calls

-- calls led to this state
abbrev pub BeganAt : State → State → Type 0
BeganAt first s = (before : List Made) × AreModelAnswers first before × (s ≡ state_after first before)

-- the worker makes no calls, or its calls are those of its loop, none of which found the history full, and it rested
abbrev pub IsIdle : List PastEntry → ℕ → Type 0
IsIdle past w = (entries_by (caller.Worker w) past ≡ []) ⊎ WorkerDid past w true None
