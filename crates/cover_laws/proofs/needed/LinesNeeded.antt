-- What is needed of the lines of a session: how far it has come in them, and what its calls make of what it holds.
use Rattle.std.specs.Prelude.{◌≡◌, ℕ, ◌≤◌, Bool, true, false, nat_eq, nat_lt, List, [], ◌∷◌, ◌++◌, Some, None, Contains, IsTrue, is_some}
use Rattle.std.specs.List.{list_all}
use Rattle.enq_base.specs.declared.owner.Scope.{Scope}
use Rattle.enq_base.specs.declared.unit.Effect.{Effect}
use Rattle.enq_base.specs.declared.unit.Num.{Num}
use Rattle.enq_base.specs.declared.unit.Parts.{Parts}
use Rattle.mode_rules.specs.declared.Mode.{Mode}
use Rattle.lock_entry.specs.declared.entry.Asked.{Asked}
use Rattle.lock_objects.specs.Objects.{Object}
use Rattle.dialogue_session.specs.Private.{Private}
use Rattle.hall_model.specs.Calls.{call_of}
use Rattle.hall_model.specs.Step.{effects_in}
use Rattle.hall_model.specs.declared.command.Command.TheVariants as command
use Rattle.hall_model.specs.declared.command.PastEntry.{PastEntry}
use Rattle.script_lang.specs.declared.script_line.RawValue.{RawValue}
use Rattle.script_lang.specs.declared.script_line.ScriptLine.{ScriptLine}
use Rattle.script_lang.specs.declared.script_line.ScriptLine.TheVariants as line
use Rattle.script_runner.specs.Lines.{Calls, meaning}
use Rattle.script_runner.specs.Sides.{container_of, parts_of, side_of}
use Rattle.script_runner.specs.World.{setting}
use Rattle.coverage.specs.Lacks.{fresh, is_of}
use Rattle.coverage.specs.Locks.{any_dollar, holds_dollar}
use Rattle.cover_laws.proofs.needed.CoverageNeeded.{RowEffect, Unended, effect_at, ends_unit_at, stand}
use Rattle.cover_laws.proofs.needed.HallNeeded.{FitsReply, ends_unit_by, on_after}
use Rattle.cover_laws.proofs.needed.HoldingNeeded.{MovesHeld}
use Rattle.cover_laws.proofs.needed.LocksNeeded.{often, update_asked}
use Rattle.cover_laws.specs.Safe.{AreCallsOf}

-- an effect that is registered comes from a line of the open unit: of the V1 part, or else of the V2 part
pub record IsRegistered (objects : List Object) (done : List ScriptLine) (first : Bool) (e : Effect) : Type 0 where
  pub before : List ScriptLine
  pub after : List ScriptLine
  pub made_by : ScriptLine
  pub row : RowEffect
  pub where_ : done ≡ before ++ made_by ∷ after
  pub names : effect_at made_by ≡ Some row
  pub part : nat_eq row.part 1 ≡ first
  pub table : row.table ≡ e.table
  pub key : holds_dollar row.key ≡ false → row.key ≡ e.key
  pub unended : Unended objects (before ++ made_by ∷ []) after

-- what the session keeps to itself goes with what its lines have asked for
pub record Matches (objects : List Object) (name : List ℕ) (done : List ScriptLine) (sides : List Private) : Type 0 where
  pub none : side_of sides name ≡ None → stand objects done ≡ fresh
  pub container : (a : Asked) → often (stand objects done).container a ≤ often (update_asked (container_of sides name)) a
  pub effects : (stand objects done).effects ≡ nat_lt 0 (effects_in (parts_of sides name))
  pub first : (e : Effect) → Contains (parts_of sides name).v1 e → IsRegistered objects done true e
  pub second : (e : Effect) → Contains (parts_of sides name).v2 e → IsRegistered objects done false e

-- how far a session has come in its lines: those done, those left, and its private side
pub record Place : Type 0 where
  pub done : List ScriptLine
  pub left : List ScriptLine
  pub sides : List Private

-- it is there, and the lines that are left make these calls
pub record IsPlace (objects : List Object) (name : List ℕ) (p : Place) (calls : List PastEntry) : Type 0 where
  pub own : IsTrue (list_all (is_of name) (p.done ++ p.left))
  pub plain : (s object : List ℕ) (m : Mode) (scope : Scope) (values : List RawValue)
      → Contains p.left (line.Deq s object m scope values) → any_dollar values ≡ false
  pub rest : AreCallsOf objects p.sides p.left calls
  pub matches : Matches objects name p.done p.sides

-- the place behind the next call of a session, and the line that makes it
pub record NextCall (objects : List Object) (name : List ℕ) (p : Place) (e : PastEntry) (calls : List PastEntry) : Type 0 where
  pub next : Place
  -- lines that come to no call
  pub quiet : List ScriptLine
  -- and the one that does
  pub made_by : ScriptLine
  pub left : p.left ≡ quiet ++ made_by ∷ next.left
  pub done : next.done ≡ p.done ++ (quiet ++ made_by ∷ [])
  -- the private side before this line
  pub sides : List Private
  pub before : Matches objects name (p.done ++ quiet) sides
  pub means : meaning (setting objects sides) made_by ≡ Calls e.command
  pub place : IsPlace objects name next calls
  pub on : is_some (side_of next.sides name) ≡ on_after e.command (is_some (side_of p.sides name))
  pub still : Unended objects p.done quiet
  pub ends : ends_unit_at (stand objects (p.done ++ quiet)) made_by ≡ ends_unit_by e.command
  pub same : (stand objects (p.done ++ quiet)).held ≡ (stand objects p.done).held
  pub moves : MovesHeld (call_of e.command) (stand objects p.done).held (stand objects next.done).held

abbrev pub PlacesGoOn : Type 0
PlacesGoOn =
    (objects : List Object) (name : List ℕ) (p : Place) (e : PastEntry) (calls : List PastEntry)
    → IsPlace objects name p (e ∷ calls) → FitsReply e.command e.reply
    → ((s user : List ℕ) → e.command ≡ command.Logon s user → is_some (side_of p.sides name) ≡ false)
    → NextCall objects name p e calls

-- the first place of a session
abbrev pub start_of : List ScriptLine → Place
start_of lines = record { done = []; left = lines; sides = [] }

abbrev pub FirstPlaces : Type 0
FirstPlaces = (objects : List Object) (name : List ℕ) → Matches objects name [] []

-- a reading is made by a READ of the table, and of the key where it has no variable
pub record IsReadLine (l : ScriptLine) (name table key : List ℕ) : Type 0 where
  pub written : List ℕ
  pub variable : List ℕ
  pub is : l ≡ line.Read name table written variable
  pub plainly : holds_dollar written ≡ false → written ≡ key

abbrev pub ReadsAreLines : Type 0
ReadsAreLines =
    (objects : List Object) (sides : List Private) (l : ScriptLine) (name table key : List ℕ)
    → meaning (setting objects sides) l ≡ Calls (command.Read name table key) → IsReadLine l name table key

-- a commit is made by a COMMIT, with the effects of the private side
pub record IsCommitLine (l : ScriptLine) (sides : List Private) (name : List ℕ) (parts : Parts) : Type 0 where
  pub is : l ≡ line.Commit name
  pub parts_are : parts ≡ parts_of sides name

abbrev pub CommitsAreLines : Type 0
CommitsAreLines =
    (objects : List Object) (sides : List Private) (l : ScriptLine) (name : List ℕ) (parts : Parts) (stock : List Num)
    → meaning (setting objects sides) l ≡ Calls (command.Commit name parts stock) → IsCommitLine l sides name parts
