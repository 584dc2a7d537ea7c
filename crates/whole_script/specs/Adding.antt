-- What one line adds to a script.
use Rattle.std.specs.Prelude.{◌≡◌, ℕ, Bool, false, List, [], ◌++◌, Option, Result, Ok, Err, IsTrue}
use Rattle.script_actors.specs.declared.line.Doer.{Doer}
use Rattle.script_lang.specs.declared.script_line.ScriptLine.{ScriptLine}
use Rattle.script_runner.specs.declared.runner.Why.{Why}
use Rattle.script_runner.specs.declared.runner.Why.TheVariants.{BadLine, NoMemory}
use Rattle.whole_script.specs.Lines.{HaveParts, before_lines, is_runnable, may_come, names_in, with_name}
use Rattle.whole_script.specs.declared.script.Script.{Script}

-- a line of this number can't be done, or memory was wanting for it
abbrev pub Refuses : ℕ → Bool → Why → Type 0
Refuses n can (BadLine m) = (m ≡ n) × (can ≡ false)
Refuses n can NoMemory = Unit {0}
Refuses n can why = ⊥

-- who does a line may stand behind these sessions, and its session is among them then
abbrev pub Notes : ℕ → Doer → List (List ℕ) → List (List ℕ) → Result Unit Why → Type 0
Notes n d old new (Ok u) = IsTrue (may_come old d) × (new ≡ with_name old d)
Notes n d old new (Err why) = Refuses n (may_come old d) why

-- a line was put behind those of a script
pub record IsAdded (n : ℕ) (line : Option ScriptLine) (old new : Script) : Type 0 where
  pub runnable : IsTrue (is_runnable old.names.items line)
  pub lines : new.lines.items ≡ old.lines.items ++ before_lines n line []
  pub names : old.names.items ≡ names_in old.lines.items → new.names.items ≡ names_in new.lines.items
  pub parts : HaveParts old.lines.items → HaveParts new.lines.items

abbrev pub Adds : ℕ → Option ScriptLine → Script → Script → Result Unit Why → Type 0
Adds n line old new (Ok u) = IsAdded n line old new
Adds n line old new (Err why) = Refuses n (is_runnable old.names.items line) why
