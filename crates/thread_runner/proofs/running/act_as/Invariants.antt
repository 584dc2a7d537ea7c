use Rattle.std.proofs.Common.{map}
use Rattle.ledger_steps.specs.Levels.{intervals_of}
use Rattle.turn_desks.specs.Stocks.{fact_of}
use Rattle.turn_desks.specs.Watching.{board_of}
use Rattle.thread_runner.proofs.running.act_as.Given as goal

abbrev pub ghosts-act_shown : goal.ghosts-act_shown
ghosts-act_shown g a = record {
  table = board_of a.scene.now.gauges.now;
  board = board_of a.scene.now.gauges.now;
  intervals = intervals_of a.served.hall.state.ranges;
  stocks = map fact_of a.scene.now.stocks.now;
}
