use Rattle.std.proofs.Common.{◌≡◌, map, take}
use Rattle.ledger_steps.specs.Levels.{intervals_of}
use Rattle.turn_desks.specs.Stocks.{fact_of}
use Rattle.thread_runner.specs.Stocking.{AreBegun, Cover}
use Rattle.thread_runner.proofs.stocking.open_stocks.Given as goal

abbrev pub invariant-loop-numbered : goal.invariant-loop-numbered
invariant-loop-numbered g l = record {
  ranges : intervals_of l.stocks.ranges ≡ intervals_of l.hall.state.ranges;
  begun : AreBegun l.hall.state (intervals_of l.hall.state.ranges) (map fact_of l.stocks.list.items) l.stocks.rights.items;
  cover : Cover (intervals_of l.hall.state.ranges) (map fact_of l.stocks.list.items) (take l.numbered-index l.lines);
}
