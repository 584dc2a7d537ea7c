use Rattle.std.proofs.Common.{◌≡◌, ◌≤◌, ℕ, length, map, take, vec_capacity}
use Rattle.turn_desks.specs.Stocks.{fact_of}
use Rattle.thread_runner.specs.Stocking.{asked_of}
use Rattle.thread_runner.proofs.equipping.counts_for.Given as goal

abbrev pub invariant-loop-stock : goal.invariant-loop-stock
invariant-loop-stock l = record {
  zeros : l.counts.items ≡ map {B = ℕ} (λ f. 0) (take l.stock-index (map fact_of l.stocks));
  long : length l.counts.items ≡ l.stock-index;
  room : length l.stocks ≤ vec_capacity l.counts;
}

abbrev pub invariant-loop-numbered : goal.invariant-loop-numbered
invariant-loop-numbered l = l.counts.items ≡ asked_of (map fact_of l.stocks) l.who (take l.numbered-index l.lines)
