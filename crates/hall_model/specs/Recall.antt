-- What a history tells: the states that its calls lead through, and how each was answered.
use Rattle.std.specs.Prelude.{◌≡◌, List, ◌∷◌, ◌++◌, fold, map}
use Rattle.lock_entry.specs.Sound.{IsSound}
use Rattle.hall_model.specs.declared.command.PastEntry.{PastEntry}
use Rattle.hall_model.specs.Calls.{who_of}
use Rattle.hall_model.specs.Devices.{DeviceOutcome, IsAllowed}
use Rattle.hall_model.specs.History.{Served, after_of, step, takes_flight}
use Rattle.hall_model.specs.State.{State}

-- the one history begins the other
abbrev pub HasBegun : List PastEntry → List PastEntry → Type 0
HasBegun before after = (added : List PastEntry) × (after ≡ before ++ added)

-- a call of the history, with what the devices did in it
pub record Made : Type 0 where
  pub call : PastEntry
  pub outcome : DeviceOutcome

-- the calls as the history has them
abbrev pub calls_of : List Made → List PastEntry
calls_of made = map (λ (m : Made). m.call) made

abbrev pub again : State → Made → Served
again s m = step m.outcome s m.call.line m.call.command

-- the state after a call
abbrev pub recalled : State → Made → State
recalled s m = (again s m).state

-- the state to which these calls lead
abbrev pub state_after : State → List Made → State
state_after s made = fold recalled s made

-- in this state the model answers the call so and leaves what the entry says, and its devices may have done this
pub record IsModelAnswer (s : State) (m : Made) : Type 0 where
  pub who : m.call.who ≡ who_of m.call.command
  pub reply : (again s m).reply ≡ m.call.reply
  pub after : m.call.after ≡ after_of (takes_flight m.outcome) (recalled s m)
  pub allowed : IsAllowed m.outcome s m.call.command

-- each call is answered as the model answers it, in the state to which the calls before it lead
abbrev pub AreModelAnswers : State → List Made → Type 0
AreModelAnswers first made =
    (earlier later : List Made) (m : Made) → made ≡ earlier ++ m ∷ later → IsModelAnswer (state_after first earlier) m

-- in each state on the way no two locks of unrelated owners meet and clash
abbrev pub StaysSound : State → List Made → Type 0
StaysSound first made =
    (earlier later : List Made) → made ≡ earlier ++ later → IsSound (state_after first earlier).locks
