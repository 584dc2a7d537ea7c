-- A sending system with its outbox, a network, and a target; what may happen, and what holds whatever happens.
use Rattle.std.specs.Prelude.{◌≡◌, ℕ, ◌≤◌, Bool, ◌&&◌, is_none, List, [], ◌∷◌, ◌++◌, map, count_by, if◌then◌else◌}
use Rattle.std.specs.Prelude.{Option, Some, None, Contains, slice_get}
use Rattle.std.specs.List.{list_any}
use Rattle.std.specs.Str.{bytes_eq}
use Rattle.std.specs.FinMap.{empty}
use Rattle.module_effects.specs.Rows.{Tables}
use Rattle.remote_target.specs.declared.call.CallAnswer.{CallAnswer}
use Rattle.remote_target.specs.declared.call.CallOutcome.{CallOutcome}
use Rattle.remote_target.specs.Calls.{outcome_of, tables_with}
use Rattle.remote_target.specs.Runs.{Call, Execution, Ran, executed_as, nothing_ran, ran}

-- ---- the world

-- a call in the outbox; one without an outcome is open
pub record Entry : Type 0 where
  pub tid : List ℕ
  pub text : List ℕ
  pub outcome : Option CallOutcome

-- the outbox; all calls that were ever sent and all answers that were ever given, any of which may arrive at any time
-- and again; and the target. In each list the earliest stand first
pub record World : Type 0 where
  pub outbox : List Entry
  pub sent : List Call
  pub given : List CallAnswer
  pub target : Ran

abbrev pub no_calls : World
no_calls = record { outbox = []; sent = []; given = []; target = nothing_ran }

-- ---- what may happen

-- how a side's commit goes: whole, or the side stops in it, before or after the change
pub data Commit : Type 0 where
  Whole : Commit
  StopBefore : Commit
  StopAfter : Commit

-- A call of the sending system is copied into its outbox, the n-th call of the outbox is sent if it is open, the n-th
-- call that was sent comes to the target, the n-th answer that was given comes to the outbox. A loss is what never
-- comes.
pub data Event : Type 0 where
  Collect : (how : Commit) → (call : Call) → Event
  Send : (n : ℕ) → Event
  Deliver : (how : Commit) → (n : ℕ) → Event
  Answer : (how : Commit) → (n : ℕ) → Event

-- an outbox has a call of this identifier
abbrev pub is_collected : List ℕ → List Entry → Bool
is_collected tid outbox = list_any (λ (e : Entry). bytes_eq e.tid tid) outbox

abbrev pub collected : Call → World → World
collected call w =
    if is_collected call.tid w.outbox then w
    else record w { outbox = w.outbox ++ record { tid = call.tid; text = call.text; outcome = None } ∷ [] }

abbrev pub sent_if_open : World → Option Entry → World
sent_if_open w None = w
sent_if_open w (Some e) = if is_none e.outcome then record w
    { sent = w.sent ++ record { tid = e.tid; text = e.text } ∷ [] } else w

-- a call comes to the target
abbrev pub executed : Call → World → World
executed call w = record w { target = ran call w.target }

abbrev pub given_if : List ℕ → Option CallOutcome → World → World
given_if tid None w = w
given_if tid (Some outcome) w = record w { given = w.given ++ record { tid = tid; outcome = outcome } ∷ [] }

-- the stored outcome is the answer
abbrev pub answered : Call → World → World
answered call w = given_if call.tid (executed_as call.tid w.target.executed) w

-- a call comes to the target; where that stops there is no answer
abbrev pub delivered : Commit → World → Option Call → World
delivered how w None = w
delivered Whole w (Some call) = answered call (executed call w)
delivered StopBefore w (Some call) = w
delivered StopAfter w (Some call) = executed call w

-- an open call of the answer's identifier has its outcome
abbrev pub settled : CallAnswer → Entry → Entry
settled answer e = if bytes_eq e.tid answer.tid && is_none
    e.outcome then record { tid = e.tid; text = e.text; outcome = Some answer.outcome } else e

abbrev pub stored : World → Option CallAnswer → World
stored w None = w
stored w (Some answer) = record w { outbox = map (settled answer) w.outbox }

-- a change of the outbox that may be stopped
abbrev pub committed : Commit → World → World → World
committed Whole before after = after
committed StopBefore before after = before
committed StopAfter before after = after

abbrev pub happens : World → Event → World
happens w (Collect how call) = committed how w (collected call w)
happens w (Send n) = sent_if_open w (slice_get w.outbox n)
happens w (Deliver how n) = delivered how w (slice_get w.sent n)
happens w (Answer how n) = committed how w (stored w (slice_get w.given n))

abbrev pub run : List Event → World → World
run [] w = w
run (e ∷ es) w = run es (happens w e)

-- the world after these events
abbrev pub world_after : List Event → World
world_after events = run events no_calls

-- ---- what holds

-- the tables after executed calls, of which those that were refused changed none
abbrev pub tables_after : Tables → List Execution → Tables
tables_after tables [] = tables
tables_after tables (x ∷ xs) = tables_after (tables_with x.text tables) xs

-- each outcome is that of its text in the tables of the calls before it
abbrev pub AreRight : Tables → List Execution → Type 0
AreRight tables [] = Unit {0}
AreRight tables (x ∷ xs) = (x.outcome ≡ outcome_of x.text tables) × AreRight (tables_with x.text tables) xs

abbrev pub is_of : List ℕ → Execution → Bool
is_of tid x = bytes_eq x.tid tid

-- the call stands in the outbox, with or without an outcome
abbrev pub Stands : List Entry → List ℕ → List ℕ → Type 0
Stands outbox tid text = (outcome : Option CallOutcome)
    × Contains outbox (record { tid = tid; text = text; outcome = outcome })

pub record AreOnce (w : World) : Type 0 where
  -- no identifier is executed twice
  pub once : (tid : List ℕ) → count_by (is_of tid) w.target.executed ≤ 1
  -- each executed call stands in the outbox with that text
  pub collected : (x : Execution) → Contains w.target.executed x → Stands w.outbox x.tid x.text
  -- each call with an outcome in the outbox is executed with that outcome
  pub settled : (tid text : List ℕ) (outcome : CallOutcome)
      → Contains w.outbox (record { tid = tid; text = text; outcome = Some outcome })
      → Contains w.target.executed (record { tid = tid; text = text; outcome = outcome })
  -- the target's rows are what the executed calls make of none, and each outcome is right
  pub tables : w.target.tables ≡ tables_after empty w.target.executed
  pub right : AreRight empty w.target.executed
