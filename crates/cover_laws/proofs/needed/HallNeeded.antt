-- What is needed of the calls of a history: what they do to rows, to units and to the open units of sessions.
use Rattle.std.specs.Prelude.{◌≡◌, ◌≢◌, ◌⊎◌, ℕ, Bool, true, false, ◌&&◌, nat_lt, List, [], ◌∷◌, ◌++◌, Option, Some, Contains, IsTrue, is_some}
use Rattle.std.specs.List.{list_any}
use Rattle.std.specs.Option.{option_map_or}
use Rattle.std.specs.Str.{bytes_eq}
use Rattle.enq_base.specs.declared.condition.Condition.TheVariants.{Up, Doubt}
use Rattle.enq_base.specs.declared.owner.Owner.TheVariants.{Upd}
use Rattle.enq_base.specs.declared.owner.UnitKey.{UnitKey}
use Rattle.enq_base.specs.declared.unit.Effect.{Effect}
use Rattle.enq_base.specs.declared.unit.Num.{Num}
use Rattle.enq_base.specs.declared.unit.Status.{Status}
use Rattle.enq_base.specs.declared.unit.Status.TheVariants.{Open}
use Rattle.lock_entry.specs.Names.{asked_of}
use Rattle.lock_objects.specs.Objects.{Object}
use Rattle.ledger_steps.specs.Posts.{entries_of}
use Rattle.ledger_steps.specs.Steps.{IsOpenUnit, IsPostedUnit}
use Rattle.update_records.specs.Ledger.{Ledger}
use Rattle.update_records.specs.Marks.{status_of, v1_of, v2_of}
use Rattle.update_records.specs.declared.records.Unit.{Unit as UnitOfWork}
use Rattle.hall_model.specs.Kept.{HasFew, HasStateInFlight, HasSoundLocks, IsSteady, HasOpenUnits}
use Rattle.hall_model.specs.OpenUnits.{OfInFlight}
use Rattle.hall_model.specs.Recall.{IsModelAnswer, Made, recalled, state_after}
use Rattle.hall_model.specs.Sessions.{session_at, unit_key}
use Rattle.hall_model.specs.State.{State}
use Rattle.hall_model.specs.Step.{effects_in, handed_locks, row_in, unit_of}
use Rattle.hall_model.specs.declared.command.Command.{Command}
use Rattle.hall_model.specs.declared.command.Command.TheVariants as command
use Rattle.hall_model.specs.declared.command.Reply.{Reply}
use Rattle.hall_model.specs.declared.command.Reply.TheVariants as reply
use Rattle.hall_model.specs.declared.command.Session.{Session}
use Rattle.cover_laws.proofs.needed.CoverageNeeded.{IsGiven}
use Rattle.cover_laws.specs.Histories.{IsCommitBy, IsDone, fails_a_session, is_by, is_refused, open_unit, settles, tries_again}
use Rattle.cover_laws.proofs.needed.LocksNeeded.{IsCoveredIn}

-- ---- states of a history

-- a state to which calls lead, over a link that tells its list
pub record IsReached (s : State) : Type 0 where
  pub calls : ℕ
  pub few : HasFew calls s
  pub steady : IsSteady s
  pub sound : HasSoundLocks s
  pub open_units : HasOpenUnits s
  pub state_in_flight : OfInFlight s.in_flight (HasStateInFlight s)
  pub link_told : s.link_told ≡ true

abbrev pub IsSure : State → Type 0
IsSure s = (k : ℕ) → s.condition ≢ Doubt k

-- One call of the histories that are meant: it is answered as the model answers it, the server is in doubt neither before nor behind
-- it, it tries no unit again, and it is no refused one of a session. The store tells its rows.
pub record IsQuiet (s : State) (m : Made) : Type 0 where
  pub reached : IsReached s
  pub answer : IsModelAnswer s m
  pub sure : IsSure s
  pub sure_behind : IsSure (recalled s m)
  pub once : tries_again m.call ≡ false
  pub served : fails_a_session m.call ≡ false
  pub told : s.told ≡ true

-- each of these calls is one
abbrev pub AreQuiet : State → List Made → Type 0
AreQuiet s [] = Unit {0}
AreQuiet s (m ∷ ms) = IsQuiet s m × AreQuiet (recalled s m) ms

-- ---- rows

abbrev pub names_row : (table key : List ℕ) → Effect → Bool
names_row table key e = bytes_eq e.table table && bytes_eq e.key key

-- the effects that a call posts, by its answer
abbrev pub effects_posted : Ledger → Reply → List Effect
effects_posted ledger (reply.Posted unit) = v1_of ledger.units unit
effects_posted ledger (reply.Closed unit) = v2_of ledger.units unit
effects_posted ledger r = []

-- a row that no posted effect names stands as it was
abbrev pub RowsStay : Type 0
RowsStay =
    (s : State) (m : Made) (table key : List ℕ) → IsQuiet s m
    → list_any (names_row table key) (effects_posted s.stored m.call.reply) ≡ false
    → row_in (recalled s m).stored table key ≡ row_in s.stored table key

-- a row has the text that a reading is answered with
abbrev pub ReadsTell : Type 0
ReadsTell =
    (s : State) (m : Made) (name table key : List ℕ) (text : Option (List ℕ)) → IsQuiet s m
    → m.call.command ≡ command.Read name table key → m.call.reply ≡ reply.Row text → row_in s.stored table key ≡ text

-- ---- units

-- the unit waits for its V1 part, while there is a lock server
pub record WaitsUp (s : State) (unit : UnitKey) : Type 0 where
  pub up : s.condition ≡ Up
  pub waits : IsOpenUnit s.stored unit

-- a V1 part that is posted or refused is that of such a unit
abbrev pub FirstPartsWait : Type 0
FirstPartsWait = (s : State) (m : Made) (unit : UnitKey) → IsQuiet s m → IsTrue (settles unit m.call.reply) → WaitsUp s unit

-- a V2 part that is posted is that of a unit whose V1 part is posted
abbrev pub SecondPartsFollow : Type 0
SecondPartsFollow =
    (s : State) (m : Made) (unit : UnitKey) → IsQuiet s m → m.call.reply ≡ reply.Closed unit → IsPostedUnit s.stored unit

-- the unit is recorded, and doesn't wait for its V1 part
pub record IsPast (s : State) (unit : UnitKey) : Type 0 where
  pub status : Status
  pub given : status_of s.stored.units s.stored.marks unit ≡ Some status
  pub other : status ≢ Open

-- and never does again
abbrev pub PastStays : Type 0
PastStays = (s : State) (m : Made) (unit : UnitKey) → IsQuiet s m → IsPast s unit → IsPast (recalled s m) unit

-- the unit still waits, with the locks that were stored with it
pub record WaitsOn (s t : State) (unit : UnitKey) : Type 0 where
  pub waits : IsOpenUnit t.stored unit
  pub entries : entries_of t.stored.units unit ≡ entries_of s.stored.units unit

abbrev pub OpenStays : Type 0
OpenStays =
    (s : State) (m : Made) (unit : UnitKey) → IsQuiet s m → IsOpenUnit s.stored unit
    → WaitsOn s (recalled s m) unit ⊎ IsPast (recalled s m) unit

-- a unit that is committed was the session's open one, and waits with the locks that are handed over to it
pub record Records (s t : State) (name : List ℕ) (unit : UnitKey) : Type 0 where
  pub up : s.condition ≡ Up
  pub session : Session
  pub at : session_at s.sessions name ≡ Some session
  pub key : unit_key s.stored.start session ≡ unit
  pub kept : session.lost ≡ false
  pub waits : IsOpenUnit t.stored unit
  pub entries : entries_of t.stored.units unit ≡ handed_locks session.user s.locks unit

abbrev pub CommitsRecord : Type 0
CommitsRecord =
    (s : State) (m : Made) (name : List ℕ) (unit : UnitKey) → IsQuiet s m → IsCommitBy name unit m.call
    → Records s (recalled s m) name unit

-- A unit's V1 part changes rows of guarded tables only where a lock that was stored with it covers them, one that may be asked for, and
-- its V2 part changes none.
pub record IsWell (objects : List Object) (guarded : List ℕ → Bool) (u : UnitOfWork) : Type 0 where
  pub first : (e : Effect) → Contains u.parts.v1 e → guarded e.table ≡ true
      → (c : IsCoveredIn u.entries (Upd u.key) e.table e.key) × IsGiven objects (asked_of c.lock)
  pub second : (e : Effect) → Contains u.parts.v2 e → guarded e.table ≡ false

-- that holds of each unit that isn't done with
abbrev pub AreWell : List Object → (List ℕ → Bool) → Ledger → Type 0
AreWell objects guarded ledger = (u : UnitOfWork) → Contains ledger.units u → IsDone ledger u.key ⊎ IsWell objects guarded u

-- it goes on where it holds of each unit that is recorded
abbrev pub WellStays : Type 0
WellStays =
    (objects : List Object) (guarded : List ℕ → Bool) (s : State) (m : Made) → IsQuiet s m → AreWell objects guarded s.stored
    → ((name : List ℕ) (unit : UnitKey) (x : Session) (numbers : List Num) (c : IsCommitBy name unit m.call)
    → session_at s.sessions name ≡ Some x → IsWell objects guarded (unit_of s.stored.start s.locks x c.parts numbers))
    → AreWell objects guarded (recalled s m).stored

-- the effects of a unit that is there are those of one of the units
abbrev pub FirstPartsStand : Type 0
FirstPartsStand =
    (ledger : Ledger) (unit : UnitKey) (e : Effect) → Contains (v1_of ledger.units unit) e
    → (u : UnitOfWork) × (Contains ledger.units u × ((u.key ≡ unit) × (Contains u.parts.v1 e × (entries_of ledger.units unit ≡ u.entries))))

abbrev pub SecondPartsStand : Type 0
SecondPartsStand =
    (ledger : Ledger) (unit : UnitKey) (e : Effect) → Contains (v2_of ledger.units unit) e
    → (u : UnitOfWork) × (Contains ledger.units u × ((u.key ≡ unit) × Contains u.parts.v2 e))

-- ---- sessions

abbrev pub has_lost : State → List ℕ → Bool
has_lost s name = option_map_or (λ (x : Session). x.lost) (session_at s.sessions name) false

-- the session has the unit open, and has lost a lock just where it has in the later state
pub record StaysOpen (s t : State) (name : List ℕ) (unit : UnitKey) : Type 0 where
  pub open_now : open_unit s name ≡ Some unit
  pub lost : has_lost s name ≡ has_lost t name

-- a unit that a session has open in two states it has open in each between
abbrev pub UnitsStayOpen : Type 0
UnitsStayOpen =
    (s : State) (before after : List Made) (name : List ℕ) (unit : UnitKey) → AreQuiet s (before ++ after)
    → open_unit s name ≡ Some unit → open_unit (state_after s (before ++ after)) name ≡ Some unit
    → StaysOpen (state_after s before) (state_after s (before ++ after)) name unit

-- the calls by which a session's unit ends
abbrev pub ends_unit_by : Command → Bool
ends_unit_by (command.Commit s parts stock) = nat_lt 0 (effects_in parts)
ends_unit_by (command.Rollback s) = true
ends_unit_by (command.Logoff s) = true
ends_unit_by c = false

abbrev pub EndsAreSeen : Type 0
EndsAreSeen =
    (s : State) (m : Made) (name : List ℕ) (unit : UnitKey) → IsQuiet s m → is_by name m.call ≡ true
    → ends_unit_by m.call.command ≡ true → open_unit s name ≡ Some unit → open_unit (recalled s m) name ≢ Some unit

-- how a call of a session is answered that isn't refused
abbrev pub FitsReply : Command → Reply → Type 0
FitsReply (command.Number s object nr) r = is_refused r ≡ false
FitsReply (command.Reserve s object nr upto) r = is_refused r ≡ false
FitsReply (command.Read s table key) r = (text : Option (List ℕ)) × (r ≡ reply.Row text)
FitsReply (command.Commit s parts stock) r =
    ((nat_lt 0 (effects_in parts) ≡ true) × ((unit : UnitKey) × (r ≡ reply.Unit unit)))
    ⊎ ((nat_lt 0 (effects_in parts) ≡ false) × (r ≡ reply.Done))
FitsReply c r = r ≡ reply.Done

abbrev pub RepliesFit : Type 0
RepliesFit =
    (s : State) (m : Made) (name : List ℕ) → IsQuiet s m → is_by name m.call ≡ true → FitsReply m.call.command m.call.reply

-- whether a session is logged on behind a call of its own
abbrev pub on_after : Command → Bool → Bool
on_after (command.Logon s user) before = true
on_after (command.Logoff s) before = false
on_after c before = before

abbrev pub is_on : State → List ℕ → Bool
is_on s name = is_some (session_at s.sessions name)

abbrev pub LogsAreSeen : Type 0
LogsAreSeen =
    (s : State) (m : Made) (name : List ℕ) → IsQuiet s m → is_by name m.call ≡ true
    → is_on (recalled s m) name ≡ on_after m.call.command (is_on s name)

abbrev pub OthersLeaveOn : Type 0
OthersLeaveOn =
    (s : State) (m : Made) (name : List ℕ) → IsQuiet s m → is_by name m.call ≡ false
    → is_on (recalled s m) name ≡ is_on s name

-- a session that logs on wasn't
abbrev pub LogonsBegin : Type 0
LogonsBegin =
    (s : State) (m : Made) (name other user : List ℕ) → IsQuiet s m → is_by name m.call ≡ true
    → m.call.command ≡ command.Logon other user → is_on s name ≡ false
