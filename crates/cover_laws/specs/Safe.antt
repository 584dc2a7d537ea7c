-- What it means that a script is safe: no row that a unit has read changes before the unit is posted or refused.
use Rattle.std.specs.Prelude.{◌≡◌, ◌≢◌, ◌⊎◌, ℕ, true, false, List, [], ◌∷◌, ◌++◌, Option, IsTrue, All}
use Rattle.std.specs.List.{filter, list_any}
use Rattle.enq_base.specs.declared.condition.Condition.TheVariants.{Doubt}
use Rattle.enq_base.specs.declared.owner.UnitKey.{UnitKey}
use Rattle.lock_objects.specs.Objects.{Object}
use Rattle.dialogue_session.specs.Private.{Private}
use Rattle.number_ranges.specs.declared.interval.Interval.{Interval}
use Rattle.script_lang.specs.declared.script_line.ScriptLine.{ScriptLine}
use Rattle.update_records.specs.Ledger.{Ledger}
use Rattle.update_records.specs.declared.records.Unit.{Unit as UnitOfWork}
use Rattle.hall_model.specs.Kept.{IsKept}
use Rattle.hall_model.specs.Recall.{AreModelAnswers, Made, calls_of, state_after}
use Rattle.hall_model.specs.State.{State, opened}
use Rattle.hall_model.specs.Step.{row_in}
use Rattle.hall_model.specs.declared.command.PastEntry.{PastEntry}
use Rattle.script_runner.specs.Lines.{Silent, Shows, Calls, Declines, Changes, meaning, settled}
use Rattle.script_runner.specs.World.{setting}
use Rattle.coverage.specs.Lacks.{Numbered}
use Rattle.cover_laws.specs.Histories.{IsCommitBy, IsDone, IsReadOf, NoneSettles, fails_a_session, is_by, settles}
use Rattle.cover_laws.specs.Histories.{tries_again}
use Rattle.cover_laws.specs.Own.{own_lines}

-- ---- which histories are meant

-- A start over a store in order, before any call. The store tells its rows, and the link its list; each unit of the
-- store is done with.
pub record IsBegun (first : State) : Type 0 where
  pub max_locks : ℕ
  pub mark_limit : ℕ
  pub intervals : List Interval
  pub ledger : Ledger
  pub start : first ≡ opened max_locks mark_limit intervals true true ledger
  pub order : IsKept first
  pub done : All (λ (u : UnitOfWork). IsDone ledger u.key) ledger.units

-- The calls of a session are those that its lines make, one after another, as far as they were done; no line is refused
-- before its call.
abbrev pub AreCallsOf : List Object → List Private → List ScriptLine → List PastEntry → Type 0
AreCallsOf objects sides [] calls = calls ≡ []
AreCallsOf objects sides (l ∷ ls) calls =
    (calls ≡ []) ⊎ elim (meaning (setting objects sides) l) [
      | Silent ↦ AreCallsOf objects sides ls calls
      | Shows m ↦ AreCallsOf objects sides ls calls
      | Calls c ↦ elim calls [
        | [] ↦ ⊥
        | e ∷ es ↦ (e.command ≡ c) × AreCallsOf objects (settled l e.reply sides) ls es
      ]
      | Declines r ↦ ⊥
      | Changes more ↦ AreCallsOf objects more ls calls
    ]

abbrev pub calls_by : List ℕ → List Made → List PastEntry
calls_by s made = filter (is_by s) (calls_of made)

-- in no state on the way is the server in doubt
abbrev pub StaysSure : State → List Made → Type 0
StaysSure first made =
    (earlier later : List Made) (k : ℕ) → made ≡ earlier ++ later → (state_after first earlier).condition ≢ Doubt k

-- A history of the script: it goes on from a start as the model does, each session makes the calls of its own lines, in
-- whichever turns, none of these is refused, no part of a unit is tried again, and no device fails so that the server
-- is in doubt. Lock servers may be ended and made anew, and calls of workers and of the administrator may be refused.
pub record IsWithin (objects : List Object) (lines : List Numbered) (first : State) (made : List Made) : Type 0 where
  pub begun : IsBegun first
  pub answers : AreModelAnswers first made
  pub own : (s : List ℕ) → AreCallsOf objects [] (own_lines s lines) (calls_by s made)
  pub served : list_any fails_a_session (calls_of made) ≡ false
  pub once : list_any tries_again (calls_of made) ≡ false
  pub sure : StaysSure first made

-- ---- what they keep

-- What a unit has read of a row stands there until its V1 part is posted or refused.
abbrev pub KeepsReads : State → List Made → Type 0
KeepsReads first made =
    (earlier between waiting later : List Made) (r c d : Made) (name : List ℕ) (unit : UnitKey) (table key : List ℕ)
    (text : Option (List ℕ))
    → made ≡ earlier ++ r ∷ (between ++ c ∷ (waiting ++ d ∷ later))
    → IsReadOf (state_after first earlier) name unit table key text r.call
    → IsCommitBy name unit c.call → NoneSettles unit (between ++ c ∷ waiting) → IsTrue (settles unit d.call.reply)
    → row_in (state_after first (earlier ++ r ∷ (between ++ c ∷ waiting))).stored table key ≡ text

-- each history of these lines keeps what its units have read
abbrev pub Safe : List Object → List Numbered → Type 0
Safe objects lines = (first : State) (made : List Made) → IsWithin objects lines first made → KeepsReads first made
