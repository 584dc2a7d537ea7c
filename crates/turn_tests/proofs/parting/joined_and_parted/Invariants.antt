use Rattle.number_stock.specs.Seats.{hand}
use Rattle.turn_tests.proofs.parting.joined_and_parted.Given as goal

abbrev pub ghosts-join_and_part : goal.ghosts-join_and_part
ghosts-join_and_part a = record { first = hand a.one; second = hand a.other }
