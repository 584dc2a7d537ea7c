use Rattle.std.proofs.Common.{◌≡◌, false, map, take}
use Rattle.turn_desks.specs.Stocks.{fact_of, is_of_stock}
use Rattle.turn_desks.proofs.drawing.place_of.Given as goal

abbrev pub invariant-loop-place : goal.invariant-loop-place
invariant-loop-place l = record { none : is_of_stock (take l.place (map fact_of l.stocks)) l.object l.nr ≡ false }
