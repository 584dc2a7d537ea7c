use Rattle.std.proofs.Common.{◌≡◌}
use Rattle.draw_laws.proofs.StartedRanges.{started_to}
use Rattle.range_list.proofs.starting.start_all.Given as goal

abbrev pub invariant-loop-range : goal.invariant-loop-range
invariant-loop-range g l = l.ranges ≡ started_to l.fn.books.ledger.levels l.range-index l.initial.ranges
