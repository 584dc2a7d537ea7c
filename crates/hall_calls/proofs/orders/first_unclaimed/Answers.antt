use Rattle.std.proofs.Common.{sym, ◌∙◌}
use Rattle.ledger_steps.specs.Steps.{waiting_for}
use Rattle.hall_calls.proofs.verdicts.UnitCalls.{at_next, claimed_here, found_here, none_here}
use Rattle.hall_calls.proofs.orders.first_unclaimed.Goals as goal

pub returns-then-not-is_claimed : goal.returns-then-not-is_claimed
returns-then-not-is_claimed g c =
    let units = waiting_for c.args.part c.args.books.now.ledger in
    found_here c.args.orders.now units c.loop-place.place c.in-Some.unit c.loop-place.invariant.from
    (sym (at_next units c.loop-place.place) ∙ sym c.waiting_at.ensures ∙ c.in-Some.is) (sym c.is_claimed.ensures ∙ c.if-not-is_claimed.true)

pub returns-in-None : goal.returns-in-None
returns-in-None g c =
    let units = waiting_for c.args.part c.args.books.now.ledger in
    none_here c.args.orders.now units c.loop-place.place c.loop-place.invariant.from
    (sym (at_next units c.loop-place.place) ∙ sym c.waiting_at.ensures ∙ c.in-None.is)

pub loop-place-preserved : goal.loop-place-preserved
loop-place-preserved g c =
    let units = waiting_for c.args.part c.args.books.now.ledger in
    record {
      from = claimed_here c.args.orders.now units c.loop-place.place c.in-Some.unit c.loop-place.invariant.from
          (sym (at_next units c.loop-place.place) ∙ sym c.waiting_at.ensures ∙ c.in-Some.is) (sym c.is_claimed.ensures ∙ c.if-not-is_claimed.false);
    }
