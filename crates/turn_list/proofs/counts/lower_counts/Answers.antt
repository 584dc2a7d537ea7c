use Rattle.std.proofs.Common.{◌≡◌, arith, subst}
use Rattle.turn_list.specs.Counts.{IsLowered}
use Rattle.turn_list.proofs.Lowering.{all_lowered}
use Rattle.turn_list.proofs.counts.lower_counts.Goals as goal

pub returns : goal.returns
returns c =
    let all : c.loop-level.level ≡ 21 = omega arith in
    all_lowered c.args.slots.now c.loop-level.counts c.args.turn c.requires.few
    (subst (IsLowered c.args.slots.now c.args.turn c.loop-level.counts) all c.loop-level.invariant)
