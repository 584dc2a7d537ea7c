-- The lines of a script whose sessions and workers go their own way.
use Rattle.std.specs.Prelude.{◌≡◌, ℕ, ◌+◌, ◌<◌, Bool, true, false, nat_lt, ◌||◌, List, [], ◌∷◌, ◌++◌, length, fold}
use Rattle.std.specs.Prelude.{if◌then◌else◌, Option, Some, None, IsTrue}
use Rattle.std.specs.List.{AllByRecursion, list_any}
use Rattle.std.specs.Str.{bytes_eq}
use Rattle.hall_model.specs.declared.command.Who.TheVariants as who
use Rattle.io_edge.specs.Lines.{IsLine}
use Rattle.script_actors.specs.Doers.{doer_of}
use Rattle.script_actors.specs.declared.line.Doer.{Doer}
use Rattle.script_actors.specs.declared.line.Doer.TheVariants as doer
use Rattle.script_actors.specs.declared.line.NumberedLine.{NumberedLine}
use Rattle.script_lang.specs.declared.script_line.ScriptLine.{ScriptLine}
use Rattle.script_runner.specs.LineFaults.{IsLineAt}
use Rattle.script_runner.specs.Lines.{line_in}
use Rattle.script_runner.specs.Preparing.{has_part}

abbrev pub is_blank : Doer → Bool
is_blank doer.Nobody = true
is_blank d = false

abbrev pub before_lines : ℕ → Option ScriptLine → List NumberedLine → List NumberedLine
before_lines n None rest = rest
before_lines n (Some l) rest = if is_blank (doer_of l) then rest else record { number = n; line = l } ∷ rest

-- the lines with their numbers, where so many stand before; blank ones are counted and left out
abbrev pub numbered : ℕ → List (List ℕ) → List NumberedLine
numbered n [] = []
numbered n (bytes ∷ rest) = before_lines (n + 1) (line_in bytes) (numbered (n + 1) rest)

abbrev pub is_among : List ℕ → List (List ℕ) → Bool
is_among s names = list_any (λ known. bytes_eq known s) names

-- the sessions that are known, with that of one line more
abbrev pub with_name : List (List ℕ) → Doer → List (List ℕ)
with_name names (doer.Actor (who.Session s)) = if is_among s names then names else names ++ s ∷ []
with_name names d = names

abbrev pub naming : List (List ℕ) → NumberedLine → List (List ℕ)
naming names l = with_name names (doer_of l.line)

-- the sessions that lines name, each once, in the order of their first lines
abbrev pub names_in : List NumberedLine → List (List ℕ)
names_in lines = fold naming [] lines

-- a line of this doer may stand behind lines that name these sessions: it isn't a worker's, and names no 65th session
abbrev pub may_come : List (List ℕ) → Doer → Bool
may_come names doer.Worker = false
may_come names (doer.Actor (who.Worker w)) = false
may_come names (doer.Actor (who.Session s)) = is_among s names || nat_lt (length names) 64
may_come names d = true

abbrev pub is_runnable : List (List ℕ) → Option ScriptLine → Bool
is_runnable names None = false
is_runnable names (Some l) = may_come names (doer_of l)

-- the bytes are a line that may stand behind these lines
abbrev pub runs_behind : List (List ℕ) → List ℕ → Bool
runs_behind earlier line = is_runnable (names_in (numbered 0 earlier)) (line_in line)

-- each of these lines fits, and may stand behind those before it
abbrev pub AreRunnable : List (List ℕ) → Type 0
AreRunnable lines = (earlier later : List (List ℕ)) (line : List ℕ) → lines ≡ earlier ++ line ∷ later
    → IsLine line × IsTrue (runs_behind earlier line)

-- there is a line n, and all lines before it are runnable
pub record ComesTo (n : ℕ) (bytes : List ℕ) : Type 0 where
  pub earlier : List (List ℕ)
  pub line : List ℕ
  pub at : IsLineAt n bytes earlier line
  pub runnable : AreRunnable earlier

-- line n is the first that can't be done, for what it says
abbrev pub IsFirstUnrunnable : ℕ → List ℕ → Type 0
IsFirstUnrunnable n bytes = (c : ComesTo n bytes) × IsLine c.line × (runs_behind c.earlier c.line ≡ false)

-- line n is the first that can't be done, for it is too long
abbrev pub IsFirstTooLong : ℕ → List ℕ → Type 0
IsFirstTooLong n bytes = (c : ComesTo n bytes) × (1024 < length c.line)

-- an effect's part in a line is one of the two
abbrev pub HaveParts : List NumberedLine → Type 0
HaveParts lines = AllByRecursion (λ (l : NumberedLine). has_part l.line ≡ true) lines
