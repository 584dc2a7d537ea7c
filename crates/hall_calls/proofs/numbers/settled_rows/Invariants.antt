use Rattle.std.proofs.Common.{◌≡◌, ◌≤◌, ◌-◌, length, take}
use Rattle.ledger_steps.specs.Drawn.{settled_rows}
use Rattle.hall_calls.proofs.numbers.settled_rows.Given as goal

abbrev pub invariant-loop-place : goal.invariant-loop-place
invariant-loop-place g l = record {
  rows : l.rows.items ≡ settled_rows l.fn.books.ledger.levels (take l.place l.list) l.numbers;
  within : l.place ≤ length l.list;
}

abbrev pub decreases-loop-place : goal.decreases-loop-place
decreases-loop-place g l = length l.list - l.place
