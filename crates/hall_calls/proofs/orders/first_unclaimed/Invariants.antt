use Rattle.hall_calls.proofs.verdicts.UnitCalls.{FindsFrom}
use Rattle.ledger_steps.specs.Steps.{waiting_for}
use Rattle.hall_calls.proofs.orders.first_unclaimed.Given as goal

abbrev pub invariant-loop-place : goal.invariant-loop-place
invariant-loop-place g l = record {
  from : FindsFrom l.orders (waiting_for l.part l.books.ledger) l.place;
}
