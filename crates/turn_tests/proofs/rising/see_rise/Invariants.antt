use Rattle.gauges.specs.Boards.{IsReaderOf}
use Rattle.turn_tests.proofs.rising.see_rise.Given as goal

abbrev pub invariant-loop : goal.invariant-loop
invariant-loop l = IsReaderOf l.gauges l.pass
