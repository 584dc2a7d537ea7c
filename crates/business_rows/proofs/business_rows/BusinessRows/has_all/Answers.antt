use Rattle.std.proofs.Common.{◌≤◌, length, refl, arith}
use Rattle.business_rows.proofs.TouchedRows.{agree_all, agree_next}
use Rattle.business_rows.proofs.business_rows.BusinessRows.has_all.Goals as goal

pub loop-spot-preserved : goal.loop-spot-preserved
loop-spot-preserved c =
    agree_next c.args.self.now.tables c.args.spots.now c.loop-spot.spot-index c.spot-item.result c.loop-spot-test.true c.spot-item.is
    (c.has.ensures.0 c.if-not-has.false) c.loop-spot.invariant

pub returns : goal.returns
returns c =
    let end : length c.args.spots.now ≤ c.loop-spot.spot-index = omega (arith, c.loop-spot-test.false) in
    (λ _. agree_all c.args.self.now.tables c.args.spots.now c.loop-spot.spot-index end c.loop-spot.invariant, λ _. refl)
