use Rattle.std.proofs.Common.{◌≡◌, map, take}
use Rattle.hall_model.specs.Numbers.{range_shown}
use Rattle.hall_calls.proofs.shown.shown_ranges.Given as goal

abbrev pub invariant-loop-range : goal.invariant-loop-range
invariant-loop-range g l = l.shown.items ≡ map (range_shown l.fn.sessions l.fn.books.ledger.levels) (take l.range-index l.ranges)
