-- What is needed of the locks of a session: each call leaves its open unit those that its lines asked for, or it has lost one.
use Rattle.std.specs.Prelude.{◌≡◌, ℕ, ◌≤◌, true, false, nat_lt, if◌then◌else◌, List, [], ◌++◌, Some, None}
use Rattle.enq_base.specs.declared.condition.Condition.TheVariants.{Up, NoServer}
use Rattle.enq_base.specs.declared.owner.Owner.{Owner}
use Rattle.enq_base.specs.declared.owner.Owner.TheVariants.{Upd}
use Rattle.lock_entry.specs.declared.entry.Asked.{Asked}
use Rattle.hall_model.specs.Calls.{Call, LogsOn, OfSession, OfWorker, OfAdmin, LogsOff, Asks, Frees, FreesAll, Commits, RollsBack, call_of}
use Rattle.hall_model.specs.Recall.{Made, recalled}
use Rattle.hall_model.specs.Sessions.{session_at, unit_key}
use Rattle.hall_model.specs.State.{State}
use Rattle.hall_model.specs.Step.{effects_in}
use Rattle.hall_model.specs.declared.command.Session.{Session}
use Rattle.coverage.specs.Lacks.{without}
use Rattle.cover_laws.proofs.needed.HallNeeded.{IsQuiet}
use Rattle.cover_laws.specs.Histories.{is_by}
use Rattle.cover_laws.proofs.needed.LocksNeeded.{AreExclusive, Holds, often, update_asked}

-- the owner of a session's open unit
abbrev pub unit_owner : State → Session → Owner
unit_owner s x = Upd (unit_key s.stored.start x)

-- in these places the open unit of the session has its locks
pub record HoldsIn (s : State) (x : Session) (held : List Asked) : Type 0 where
  -- while there is a lock server, in its table
  pub up : s.condition ≡ Up → Holds s.locks (unit_owner s x) held
  -- where there is none, in the list of a replica that followed it, so that the table may go on
  pub copied : s.condition ≡ NoServer → s.attached ≡ true → Holds s.locks (unit_owner s x) held
  -- and the session is marked where it had any, so that it loses with a table that is made anew
  pub lost : s.condition ≡ NoServer → (a : Asked) → 1 ≤ often held a → x.marked ≡ true

-- the open unit of the session has these locks, or the session has lost one
pub record StandsAt (s : State) (name : List ℕ) (held : List Asked) : Type 0 where
  pub off : session_at s.sessions name ≡ None → held ≡ []
  pub on : (x : Session) → session_at s.sessions name ≡ Some x → x.lost ≡ false → HoldsIn s x held

-- what a call of the session makes of the locks that its lines have asked for
abbrev pub MovesHeld : Call → (held now : List Asked) → Type 0
MovesHeld (OfSession s (Asks requests)) held now =
    (added : List Asked) × ((now ≡ held ++ added) × ((a : Asked) → often added a ≤ often (update_asked requests) a))
MovesHeld (OfSession s (Frees requests)) held now = now ≡ without held (update_asked requests)
MovesHeld (OfSession s FreesAll) held now = now ≡ []
MovesHeld (OfSession s LogsOff) held now = now ≡ []
MovesHeld (OfSession s RollsBack) held now = now ≡ []
MovesHeld (OfSession s (Commits parts stock)) held now = now ≡ (if nat_lt 0 (effects_in parts) then [] else held)
MovesHeld (OfSession s call) held now = now ≡ held
MovesHeld (LogsOn s user) held now = now ≡ held
MovesHeld (OfWorker worker call) held now = ⊥
MovesHeld (OfAdmin call) held now = ⊥

-- a call of the session
abbrev pub OwnCallsHold : Type 0
OwnCallsHold =
    (s : State) (m : Made) (name : List ℕ) (held now : List Asked) → IsQuiet s m → is_by name m.call ≡ true
    → AreExclusive held → MovesHeld (call_of m.call.command) held now → StandsAt s name held → StandsAt (recalled s m) name now

-- any other call
abbrev pub OtherCallsHold : Type 0
OtherCallsHold =
    (s : State) (m : Made) (name : List ℕ) (held : List Asked) → IsQuiet s m → is_by name m.call ≡ false
    → AreExclusive held → StandsAt s name held → StandsAt (recalled s m) name held
