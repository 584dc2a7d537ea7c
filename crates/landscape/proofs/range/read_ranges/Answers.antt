use Rattle.std.proofs.Common.{arith, rules, ap, map}
use Rattle.std.proofs.lemmas.List.{drop_all}
use Rattle.toml.specs.View.{view}
use Rattle.landscape.specs.Ranges.{range_of}
use Rattle.landscape.proofs.Turns.{turn-end, turn-step, turn-stop}
use Rattle.landscape.proofs.Views.{next}
use Rattle.landscape.proofs.range.read_ranges.Goals as goal

pub returns-in-Err : goal.returns-in-Err
returns-in-Err c =
    let q = next c.args.values.now c.loop-value.value-index c.value-item.result (omega arith) c.value-item.is in
    turn-stop range_of c.loop-value.intervals.items c.in-Err.rule _ _ _ _ c.bad_place.result q (search rules) c.loop-value.invariant (search rules)

pub loop-value-preserved : goal.loop-value-preserved
loop-value-preserved c =
    let q = next c.args.values.now c.loop-value.value-index c.value-item.result (omega arith) c.value-item.is in
    rw c.in_ok-push-in-Ok.ensures.items (turn-step range_of c.loop-value.intervals.items c.in-Ok.interval _ _ _ _ q (search rules) c.loop-value.invariant)

pub returns : goal.returns
returns c =
    let none = drop_all c.loop-value.value-index c.args.values.now (omega arith) in
    turn-end range_of c.loop-value.intervals.items _ _ (ap (map view) none) c.loop-value.invariant
