use Rattle.std.proofs.Common.{arith, ◌∙◌, ◌%◌, ne_eqb}
use Rattle.gauges.proofs.Keeps.{begins_allowed}
use Rattle.gauges.proofs.board.Gauges.begin.Goals as goal

pub fetch_add-requires : goal.fetch_add-requires
fetch_add-requires c =
    let even = c.if-sequence-eq1.false in
    let counted = c.requires.counted in
    let fits = c.ranges.sequence in (
      c.requires.own,
      omega (arith, c.args.self.now.six_words),
      begins_allowed _ _ _ c.requires.writes (c.requires.halfway ∙ ne_eqb (c.args.sequence % 2) 1 even)
          (omega arith),
    )
