use Rattle.turn_desks.specs.Asking.{table_of}
use Rattle.turn_desks.specs.Watching.{board_of}
use Rattle.thread_runner.proofs.running.act_shown.Given as goal

abbrev pub ghosts-act_in_turn : goal.ghosts-act_in_turn
ghosts-act_in_turn g a = record {
  table = table_of a.lock.now;
  board = board_of a.gauges.now;
  intervals = g.M.LockName.intervals;
  stocks = g.M.LockName.stocks;
}
