-- What becomes of sessions that lost locks with a lock server.
use Rattle.std.specs.Prelude.{◌≡◌, ℕ, true, false, List, [], ◌∷◌, ◌++◌, map, Some, None}
use Rattle.enq_base.specs.declared.refusal.Refusal.TheVariants as refusal
use Rattle.hall_model.specs.declared.command.PastEntry.{PastEntry}
use Rattle.hall_model.specs.declared.command.Reply.TheVariants as reply
use Rattle.hall_model.specs.declared.command.Session.{Session}
use Rattle.hall_model.specs.Calls.{OfSession, OfAdmin, Restarts, SessionCall, call_of, ends_unit}
use Rattle.hall_model.specs.Recall.{Made, state_after}
use Rattle.hall_model.specs.Sessions.{bereft_if, session_at}
use Rattle.hall_model.specs.State.{State}
use Rattle.hall_model.specs.Step.{barred}

-- the call is of a session that lost a lock and neither rolled back since nor logs off or rolls back now
pub record IsOfLoser (s : State) (call : PastEntry) : Type 0 where
  pub name : List ℕ
  pub asked : SessionCall
  pub made : call_of call.command ≡ OfSession name asked
  pub session : Session
  pub stands : session_at s.sessions name ≡ Some session
  pub lost : session.lost ≡ true
  pub goes_on : ends_unit asked ≡ false

-- Where calls are served at all such a call is told so: nothing is done for a unit of which a lock was lost.
abbrev pub LosersAreTold : State → List Made → Type 0
LosersAreTold first made =
    (earlier later : List Made) (m : Made) → made ≡ earlier ++ m ∷ later
    → barred (state_after first earlier) (call_of m.call.command) ≡ None → IsOfLoser (state_after first earlier) m.call
    → m.call.reply ≡ reply.Refused refusal.LocksLost

-- a restart that is done flags each session that loses, and leaves the others as they are
abbrev pub FlagsJustLosers : State → List Made → Type 0
FlagsJustLosers first made =
    (earlier later : List Made) (m : Made) → made ≡ earlier ++ m ∷ later
    → call_of m.call.command ≡ OfAdmin Restarts → m.call.reply ≡ reply.Done
    → let before = state_after first earlier in
    (state_after first (earlier ++ m ∷ [])).sessions ≡ map (bereft_if before.failed_caller) before.sessions
