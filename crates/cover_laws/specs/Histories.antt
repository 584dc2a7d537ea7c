-- What is told of the calls of a history: who makes them, which are refused, and what becomes of a unit.
use Rattle.std.specs.Prelude.{◌≡◌, ◌⊎◌, ℕ, Bool, true, false, ◌&&◌, List, Option, Some}
use Rattle.std.specs.List.{list_any}
use Rattle.std.specs.Option.{option_map}
use Rattle.std.specs.Str.{bytes_eq}
use Rattle.enq_base.specs.Owners.{same_unit}
use Rattle.enq_base.specs.declared.owner.UnitKey.{UnitKey}
use Rattle.enq_base.specs.declared.unit.Num.{Num}
use Rattle.enq_base.specs.declared.unit.Parts.{Parts}
use Rattle.enq_base.specs.declared.unit.Status.TheVariants.{Closed, Cancelled}
use Rattle.update_records.specs.Marks.{status_of}
use Rattle.update_records.specs.Ledger.{Ledger}
use Rattle.hall_model.specs.Calls.{Call, OfAdmin, Resubmits, call_of}
use Rattle.hall_model.specs.Recall.{Made}
use Rattle.hall_model.specs.Sessions.{session_at, unit_key}
use Rattle.hall_model.specs.State.{State}
use Rattle.hall_model.specs.declared.command.Command.TheVariants as command
use Rattle.hall_model.specs.declared.command.PastEntry.{PastEntry}
use Rattle.hall_model.specs.declared.command.Reply.{Reply}
use Rattle.hall_model.specs.declared.command.Reply.TheVariants as reply
use Rattle.hall_model.specs.declared.command.Who.{Who}
use Rattle.hall_model.specs.declared.command.Who.TheVariants as who

-- the unit was posted wholly, or cancelled
abbrev pub IsDone : Ledger → UnitKey → Type 0
IsDone ledger unit = (status_of ledger.units ledger.marks unit ≡ Some Closed)
    ⊎ (status_of ledger.units ledger.marks unit ≡ Some Cancelled)

abbrev pub is_by : List ℕ → PastEntry → Bool
is_by s e = by e.who
  where
    by : Who → Bool
    by (who.Session t) = bytes_eq t s
    by _ = false

abbrev pub is_refused : Reply → Bool
is_refused (reply.Refused r) = true
is_refused _ = false

abbrev pub is_session : Who → Bool
is_session (who.Session s) = true
is_session _ = false

-- a call of a session that is refused
abbrev pub fails_a_session : PastEntry → Bool
fails_a_session e = is_session e.who && is_refused e.reply

abbrev pub resubmits : Call → Bool
resubmits (OfAdmin (Resubmits unit)) = true
resubmits _ = false

abbrev pub is_unit : Reply → Bool
is_unit (reply.Unit unit) = true
is_unit _ = false

-- a refused part of a unit is tried again
abbrev pub tries_again : PastEntry → Bool
tries_again e = resubmits (call_of e.command) && is_unit e.reply

-- the unit that a session has open in this state
abbrev pub open_unit : State → List ℕ → Option UnitKey
open_unit s name = option_map (unit_key s.stored.start) (session_at s.sessions name)

-- the session reads a row of this text while it has the unit open
pub record IsReadOf (s : State) (name : List ℕ) (unit : UnitKey) (table key : List ℕ) (text : Option (List ℕ))
    (e : PastEntry) : Type 0 where
  pub open_then : open_unit s name ≡ Some unit
  pub asks : e.command ≡ command.Read name table key
  pub answered : e.reply ≡ reply.Row text

-- the session commits this unit
pub record IsCommitBy (name : List ℕ) (unit : UnitKey) (e : PastEntry) : Type 0 where
  pub parts : Parts
  pub stock : List Num
  pub commits : e.command ≡ command.Commit name parts stock
  pub answered : e.reply ≡ reply.Unit unit

-- the answer that the unit's V1 part was posted or refused
abbrev pub settles : UnitKey → Reply → Bool
settles unit (reply.Posted other) = same_unit other unit
settles unit (reply.Bad other index reason) = same_unit other unit
settles unit _ = false

abbrev pub NoneSettles : UnitKey → List Made → Type 0
NoneSettles unit made = list_any (λ (m : Made). settles unit m.call.reply) made ≡ false
