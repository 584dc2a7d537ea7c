use Rattle.std.proofs.Common.{arith, ◌+◌}
use Rattle.std.proofs.lemmas.Nat.{mul-le}
use Rattle.turn_desks.proofs.drawing.times.Goals as goal

pub overflow_mul-result : goal.overflow_mul-result
overflow_mul-result c =
    let p = c.from.ensures in
    let m = c.from-2.ensures in
    let few = c.ranges.percent.fits in
    let fits = c.ranges.more.fits in
    let h = mul-le c.from.result (c.from-2.result + 1) 255 18446744073709551616 (omega (arith, p, few)) (omega (arith, m, fits)) in
    omega (arith, h)
