-- The lines of one session.
use Rattle.std.specs.Prelude.{ℕ, List, map}
use Rattle.std.specs.List.{filter}
use Rattle.script_lang.specs.declared.script_line.ScriptLine.{ScriptLine}
use Rattle.coverage.specs.Lacks.{Numbered, is_of}

-- in their order
abbrev pub own_lines : List ℕ → List Numbered → List ScriptLine
own_lines s lines = map (λ (x : Numbered). x.1) (filter (λ (x : Numbered). is_of s x.1) lines)
