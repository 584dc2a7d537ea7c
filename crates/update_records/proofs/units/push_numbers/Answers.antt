use Rattle.std.proofs.Common.{subst, arith}
use Rattle.std.specs.List.{All}
use Rattle.std.proofs.lemmas.List.{take_all}
use Rattle.update_records.specs.Grammar.{IsNumber}
use Rattle.update_records.proofs.Steps.{numbers_go_on, all_more}
use Rattle.update_records.proofs.units.push_numbers.Goals as goal

pub loop-number-preserved : goal.loop-number-preserved
loop-number-preserved c = record {
  whole = numbers_go_on c.loop-number.number-index c.args.numbers.now c.number-item.result c.loop-number.out.items _ _
      c.loop-number-test.true c.number-item.is c.in_ok-push_number.ensures.bytes c.loop-number.invariant.whole;
  spelt = all_more IsNumber c.args.numbers.now c.loop-number.number-index c.number-item.result c.loop-number-test.true c.number-item.is
      c.loop-number.invariant.spelt c.in_ok-push_number.ensures.grammar;
}

pub returns-clause-grammar : goal.returns-clause-grammar
returns-clause-grammar c = subst (All IsNumber) (take_all c.loop-number.number-index c.args.numbers.now (omega arith)) c.loop-number.invariant.spelt
