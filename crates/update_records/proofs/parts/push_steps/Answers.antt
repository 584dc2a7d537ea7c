use Rattle.std.proofs.Common.{arith}
use Rattle.update_records.specs.Grammar.{IsEffect}
use Rattle.update_records.proofs.Steps.{steps_go_on, all_more}
use Rattle.update_records.proofs.parts.push_steps.Goals as goal

pub loop-effect-preserved : goal.loop-effect-preserved
loop-effect-preserved c = record {
  place = omega arith;
  whole = steps_go_on c.args.key.now c.args.part c.loop-effect.index c.loop-effect.effect-index c.args.effects.now c.effect-item.result _
      c.loop-effect.batch.items _ _
      c.loop-effect-test.true c.effect-item.is c.in_ok-encode_step.ensures.row c.in_ok-push.ensures.items c.loop-effect.invariant.whole;
  spelt = all_more IsEffect c.args.effects.now c.loop-effect.effect-index c.effect-item.result c.loop-effect-test.true c.effect-item.is
      c.loop-effect.invariant.spelt c.in_ok-encode_step.ensures.grammar;
}
