use Rattle.std.proofs.Common.{◌≡◌, ◌<◌, ◌+◌, ◌^◌, drop}
use Rattle.std.specs.List.{AllByRecursion}
use Rattle.enq_base.specs.declared.unit.Num.{Num}
use Rattle.ledger_steps.specs.Drawn.{passed}
use Rattle.ledger_steps.specs.Levels.{intervals_of}
use Rattle.range_list.proofs.range_places.pass_all.Given as goal

abbrev pub invariant-loop-num : goal.invariant-loop-num
invariant-loop-num l = record {
  rest : passed (drop l.num-index l.numbers) l.ranges ≡ passed l.numbers l.initial.ranges;
  intervals : intervals_of l.ranges ≡ intervals_of l.initial.ranges;
  room : AllByRecursion (λ (num : Num). num.number + 1 < 2 ^ 64) (drop l.num-index l.numbers);
}
