use Rattle.std.proofs.Common.{arith}
use Rattle.thread_runner.proofs.Opening.{all_shown}
use Rattle.thread_runner.proofs.stocking.opened_ranges.Goals as goal

pub returns : goal.returns
returns g c =
    let inv = c.loop-range.invariant in
    let past = c.loop-range-test.false in
    all_shown c.args.hall.now.state _ c.loop-range.range-index c.loop-range.found.items c.requires.opened inv.given inv.items (omega (arith, past))
