use Rattle.std.proofs.Common.{◌≡◌}
use Rattle.number_stock.specs.Seats.{hand, IsSeatOf}
use Rattle.turn_tests.proofs.parting.draw_some.Given as goal

abbrev pub invariant-loop : goal.invariant-loop
invariant-loop l = record {
  own : IsSeatOf l.stock l.now;
  right : (hand l.now).raises ≡ (hand l.fn.seat).raises;
}
