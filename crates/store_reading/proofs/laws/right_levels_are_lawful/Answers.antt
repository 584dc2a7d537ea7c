use Rattle.std.proofs.Common.{[]}
use Rattle.store_reading.specs.Intervals.{committed, is_right_level}
use Rattle.store_reading.proofs.lemmas.Legal.{all_right, first_none}
use Rattle.store_reading.proofs.Levels.{right_rows}
use Rattle.store_reading.proofs.laws.right_levels_are_lawful.Goals as goal

pub returns : goal.returns
returns c = λ headers marks levels each h.
    right_rows (committed headers marks) [] levels each (all_right (λ before. is_right_level (committed headers marks)) 5 [] levels (first_none _ _ h))
