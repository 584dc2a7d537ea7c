-- The lines of a script with their numbers, and what one line adds.
use Rattle.std.specs.Prelude.{◌≡◌, ℕ, ◌+◌, List, [], ◌∷◌, ◌++◌, Option, Some, None, is_some, Result, Ok, Err, IsTrue}
use Rattle.coverage.specs.Lacks.{Numbered}
use Rattle.coverage.specs.Walked.{CoverView, HasWalked}
use Rattle.lock_objects.specs.Objects.{Object}
use Rattle.script_lang.specs.declared.script_line.ScriptLine.{ScriptLine}
use Rattle.script_runner.specs.Lines.{line_in}
use Rattle.script_runner.specs.declared.runner.Why.{Why}
use Rattle.script_runner.specs.declared.runner.Why.TheVariants.{BadLine, NoMemory}

abbrev pub before_lines : ℕ → Option ScriptLine → List Numbered → List Numbered
before_lines n None rest = rest
before_lines n (Some l) rest = (n, l) ∷ rest

-- the lines with their numbers, blank ones too, where so many stand before
abbrev pub numbered : ℕ → List (List ℕ) → List Numbered
numbered n [] = []
numbered n (bytes ∷ rest) = before_lines (n + 1) (line_in bytes) (numbered (n + 1) rest)

-- there is no line of this number, or memory was wanting for it
abbrev pub Refuses : ℕ → Option ScriptLine → Why → Type 0
Refuses n line (BadLine m) = (m ≡ n) × (line ≡ None)
Refuses n line NoMemory = Unit {0}
Refuses n line why = ⊥

-- behind these lines one of this number was walked over
abbrev pub Adds : List Object → List Numbered → ℕ → Option ScriptLine → CoverView → Result Unit Why → Type 0
Adds objects lines n line new (Ok u) = IsTrue (is_some line) × HasWalked objects (lines ++ before_lines n line []) new
Adds objects lines n line new (Err why) = Refuses n line why
