use Rattle.std.proofs.Common.{◌≡◌, map}
use Rattle.turn_desks.specs.Stocks.{fact_of}
use Rattle.thread_runner.proofs.Counted.{bumped_to}
use Rattle.thread_runner.proofs.equipping.bump.Given as goal

abbrev pub invariant-loop-place : goal.invariant-loop-place
invariant-loop-place l = l.counts.items ≡ bumped_to l.place (map fact_of l.stocks) l.object l.nr l.fn.counts.items
