use Rattle.std.proofs.Common.{get_or, refl, ap, sym, ◌∙◌, arith}
use Rattle.store_reading.proofs.Draws.{run_differs, run_done, run_more}
use Rattle.store_reading.proofs.level_rule.run_from.Goals as goal

pub returns-then-number-from : goal.returns-then-number-from
returns-then-number-from c =
    run_differs c.args.numbers.now c.args.from c.args.count c.loop-number.done (get_or c.args.numbers.now c.loop-number.done 0) _
    (omega (arith, c.loop-number-test.true, c.loop-number.invariant.place)) refl (omega (arith, c.if-done-count.false))
    (λ e. c.if-number-from.true (ap (λ k. get_or c.args.numbers.now k 0) (sym c.loop-number.invariant.place) ∙ e)) c.loop-number.invariant.rest

pub loop-number-preserved : goal.loop-number-preserved
loop-number-preserved c = record {
  place = omega arith;
  few = omega arith;
  rest = run_more c.args.numbers.now c.args.from c.args.count c.loop-number.done (get_or c.args.numbers.now c.loop-number.done 0) _
      (omega (arith, c.loop-number-test.true, c.loop-number.invariant.place)) refl (omega (arith, c.if-done-count.false))
      (ap (λ k. get_or c.args.numbers.now k 0) c.loop-number.invariant.place ∙ c.if-number-from.false) c.loop-number.invariant.rest;
}

pub returns : goal.returns
returns c = run_done c.args.numbers.now c.args.from c.args.count c.loop-number.done _ _
    (omega (arith, c.loop-number-test.false, c.loop-number.invariant.place)) c.loop-number.invariant.few refl c.loop-number.invariant.rest
