-- The text that tells what a script lacks.
use Rattle.std.specs.Prelude.{ℕ, List, [], ◌∷◌, ◌++◌, codes, decimal}
use Rattle.std.specs.List.{flat_map}
use Rattle.coverage.specs.declared.lack.Lack.{Lack}
use Rattle.coverage.specs.declared.lack.Lack.TheVariants as lack

-- a line of two words
abbrev pub row : List ℕ → List ℕ → List ℕ
row first second = first ++ 32 ∷ (second ++ 10 ∷ [])

abbrev pub lack_line : Lack → List ℕ
lack_line (lack.Lengths table) = row (codes "LENGTHS") table
lack_line (lack.Line n) = row (decimal n) (codes "LINE")
lack_line (lack.Variable n) = row (decimal n) (codes "VARIABLE")
lack_line (lack.Read n) = row (decimal n) (codes "READ")
lack_line (lack.Write n) = row (decimal n) (codes "WRITE")
lack_line (lack.SecondPart n) = row (decimal n) (codes "V2")

abbrev pub verdict : List Lack → List ℕ
verdict [] = codes "COVERED\n"
verdict (l ∷ ls) = codes "NOT COVERED\n"

-- a line for each lack, in order, and then whether there are none
abbrev pub cover_text : List Lack → List ℕ
cover_text lacks = flat_map lack_line lacks ++ verdict lacks
