use Rattle.std.proofs.Common.{◌≡◌, ◌+◌, ◌≤◌, length}
use Rattle.number_stock.specs.Seats.{hand, IsSeatOf}
use Rattle.turn_load.proofs.drawing.draw_alone.Given as goal

abbrev pub invariant-loop : goal.invariant-loop
invariant-loop l = record {
  own : IsSeatOf l.stock l.seat;
  left : l.fn.draws ≤ (hand l.seat).draws + l.counter;
  answered : length (hand l.seat).answered ≡ length (hand l.fn.seat).answered + l.count;
  few : l.count ≤ l.counter;
}
