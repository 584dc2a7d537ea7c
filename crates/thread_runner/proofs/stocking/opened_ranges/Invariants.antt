use Rattle.std.proofs.Common.{◌≡◌, ◌≤◌, length, map, take, vec_capacity}
use Rattle.hall_model.specs.Views.{ranges_shown}
use Rattle.thread_runner.specs.Stocking.{opened_by}
use Rattle.thread_runner.proofs.stocking.opened_ranges.Given as goal

abbrev pub invariant-loop-range : goal.invariant-loop-range
invariant-loop-range g l = record {
  given : l.range-items ≡ ranges_shown l.hall.state;
  items : l.found.items ≡ map opened_by (take l.range-index l.range-items);
  long : length l.found.items ≡ l.range-index;
  room : length l.range-items ≤ vec_capacity l.found;
}
