use Rattle.std.proofs.Common.{◌≡◌, ◌+◌, ◌≤◌, ◌++◌}
use Rattle.number_stock.specs.Seats.{hand}
use Rattle.gauges.specs.Boards.{seen, IsReaderOf}
use Rattle.turn_tests.specs.Drawing.{Drew}
use Rattle.turn_tests.proofs.drawing.draw_and_look.Given as goal

abbrev pub invariant-loop : goal.invariant-loop
invariant-loop l = record {
  drew : Drew l.stock l.fn.tokens.0 l.seat l.numbers.items;
  pass : IsReaderOf l.gauges l.pass;
  left : l.fn.count ≤ (hand l.seat).draws + l.counter;
  seen : seen l.pass ≡ seen l.fn.tokens.1 ++ l.readings.items;
}
