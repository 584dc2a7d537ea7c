use Rattle.std.proofs.Common.{◌∙◌, ap}
use Rattle.coverage.specs.Tallies.{covering}
use Rattle.coverage.proofs.Tallied.{first_right}
use Rattle.coverage.proofs.tally.tally_of.Goals as goal

pub returns : goal.returns
returns c =
    let wish = c.args.watch.now.wish in
    first_right c.args.holding.now c.args.watch.now c.covering-held.result c.covering.result c.still_met.result
    (c.covering-held.ensures ∙ ap (covering wish) c.held.ensures)
    (c.covering.ensures ∙ ap (covering wish) c.container.ensures)
    c.still_met.ensures
