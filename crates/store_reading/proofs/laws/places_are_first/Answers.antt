use Rattle.std.proofs.Common.{[]}
use Rattle.store_reading.proofs.lemmas.Legal.{all_right, is_first, none_wrong}
use Rattle.store_reading.proofs.laws.places_are_first.Goals as goal

pub returns-clause-none : goal.returns-clause-none
returns-clause-none c = λ is_right table records. (all_right is_right table [] records, none_wrong is_right table [] records)

pub returns-clause-first : goal.returns-clause-first
returns-clause-first c = λ is_right table records place h. is_first is_right table [] records place tt h
