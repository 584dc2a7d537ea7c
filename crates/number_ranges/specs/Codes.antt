-- How a code is printed.
use Rattle.std.specs.Prelude.{ℕ, List, codes}
use Rattle.number_ranges.specs.declared.interval.Code.{Code}
use Rattle.number_ranges.specs.declared.interval.Code.TheVariants.{Blank, Critical, Last}

abbrev pub code_text : Code → List ℕ
code_text Blank = codes "-"
code_text Critical = codes "1"
code_text Last = codes "2"
