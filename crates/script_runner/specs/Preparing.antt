-- What a line comes to before any call, and how the private sides follow the answer of a call.
use Rattle.std.specs.Prelude.{◌≡◌, ◌≤◌, ℕ, Bool, true, false, ◌||◌, nat_eq, List, Result, Ok, Err, Some, is_some}
use Rattle.enq_base.specs.declared.refusal.Refusal.{Refusal}
use Rattle.enq_base.specs.declared.refusal.Refusal.TheVariants as refusal
use Rattle.dialogue_session.specs.Private.{Private}
use Rattle.hall_model.specs.declared.command.Reply.{Reply}
use Rattle.hall_model.specs.declared.command.Reply.TheVariants as reply
use Rattle.script_lang.specs.declared.script_line.ScriptLine.{ScriptLine}
use Rattle.script_lang.specs.declared.script_line.ScriptLine.TheVariants as line
use Rattle.script_runner.specs.Lines.{Meaning, Calls, Declines, Changes}
use Rattle.script_runner.specs.Sides.{SidesView, side_of, variable_room}
use Rattle.script_runner.specs.declared.preparing.Prepared.{Prepared}
use Rattle.script_runner.specs.declared.preparing.Prepared.TheVariants.{Call, Changed}

-- part 1, V1, or part 2, V2
abbrev pub is_part : ℕ → Bool
is_part part = nat_eq part 1 || nat_eq part 2

-- the part of a line of an effect is one of these
abbrev pub has_part : ScriptLine → Bool
has_part (line.Put s part table key text) = is_part part
has_part (line.Ins s part table key text) = is_part part
has_part (line.Del s part table key) = is_part part
has_part (line.Add s part table key number) = is_part part
has_part _ = true

-- A line of this meaning is prepared so, or refused, or memory is wanting where it may. Of the private sides only those
-- of a line that comes to no call are changed.
abbrev pub IsPrepared : Meaning → Bool → List Private → List Private → Result Prepared Refusal → Type 0
IsPrepared m grows before after (Ok (Call c)) = (m ≡ Calls c) × (after ≡ before)
IsPrepared m grows before after (Ok Changed) = m ≡ Changes after
IsPrepared m grows before after (Err refusal.NoMemory) = (grows ≡ true) × (after ≡ before)
IsPrepared m grows before after (Err r) = (m ≡ Declines r) × (after ≡ before)

-- where a session is to be logged on there is room for its private side, and where a number is to be drawn or a row to
-- be read for the variable
abbrev pub HasRoomFor : ScriptLine → Result Prepared Refusal → SidesView → Type 0
HasRoomFor (line.Logon s user) (Ok made) sides = 1 ≤ sides.room
HasRoomFor (line.Num s object nr variable) (Ok made) sides = 1 ≤ variable_room sides s
HasRoomFor (line.Read s table key variable) (Ok made) sides = 1 ≤ variable_room sides s
HasRoomFor _ _ sides = Unit {0}

-- a session that was logged on has no private side yet, and there is room for it; there is room for a number that was
-- drawn, and for a text that was read
abbrev pub MayEnter : ScriptLine → Reply → SidesView → Type 0
MayEnter (line.Logon s user) reply.Done sides = (1 ≤ sides.room) × (is_some (side_of sides.items s) ≡ false)
MayEnter (line.Num s object nr variable) (reply.Number number code) sides = 1 ≤ variable_room sides s
MayEnter (line.Read s table key variable) (reply.Row (Some text)) sides = 1 ≤ variable_room sides s
MayEnter _ _ sides = Unit {0}

-- the lines with a reply that name no session: those of a worker and of the administrator
abbrev pub is_sessionless_line : ScriptLine → Bool
is_sessionless_line (line.Take1 worker) = true
is_sessionless_line (line.Do1 worker) = true
is_sessionless_line (line.Take2 worker) = true
is_sessionless_line (line.Do2 worker) = true
is_sessionless_line (line.DropOrder worker) = true
is_sessionless_line line.Kill = true
is_sessionless_line line.FailOver = true
is_sessionless_line line.Restart = true
is_sessionless_line line.Attach = true
is_sessionless_line (line.Cancel unit) = true
is_sessionless_line (line.Resubmit unit) = true
is_sessionless_line _ = false

-- the lines that ask for locks of an object, or give some back
abbrev pub is_request_line : ScriptLine → Bool
is_request_line (line.Enq s object m scope values) = true
is_request_line (line.Deq s object m scope values) = true
is_request_line _ = false

-- the other lines with values of an object
abbrev pub is_other_lock_line : ScriptLine → Bool
is_other_lock_line (line.Collect s object m scope values) = true
is_other_lock_line (line.Convert s object values) = true
is_other_lock_line _ = false

-- the lines that put a text into a row, in part 1 or part 2
abbrev pub is_text_line : ScriptLine → Bool
is_text_line (line.Put s part table key text) = is_part part
is_text_line (line.Ins s part table key text) = is_part part
is_text_line _ = false

-- the other lines of effects, for part 1 or part 2
abbrev pub is_other_effect_line : ScriptLine → Bool
is_other_effect_line (line.Del s part table key) = is_part part
is_other_effect_line (line.Add s part table key number) = is_part part
is_other_effect_line _ = false
