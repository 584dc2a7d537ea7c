use Rattle.std.proofs.Common.{sym, subst}
use Rattle.std.proofs.Math.Logic.{∥∥₁_map}
use Rattle.std.specs.List.{AllByRecursion}
use Rattle.gauges.specs.Boards.{seen, told}
use Rattle.gauges.specs.declared.board.GaugePass.{GaugePass}
use Rattle.turn_desks.specs.Watching.{HasShown, IsReaderAt, StandIn}
use Rattle.turn_desks.proofs.lemmas.Places.{all_later}
use Rattle.turn_desks.proofs.lemmas.Watched.{shown_there}
use Rattle.turn_desks.proofs.shown_hall.ShownHall.into_served.Goals as goal

pub join_all-requires-clause-readers : goal.join_all-requires-clause-readers
join_all-requires-clause-readers g c =
    subst (λ b. AllByRecursion (IsReaderAt b) c.args.passes.items) (sym c.args.self.of_gauges) c.requires.own

pub returns-clause-seen : goal.returns-clause-seen
returns-clause-seen g c =
    let first = g.J.Origin.first in
    let s = c.args.self.served.hall.state in
    let all = told c.args.self.writer in
    ∥∥₁_map c.args.self.shown (λ h. all_later
    (λ (p : GaugePass). StandIn all (seen p)) (λ (p : GaugePass). HasShown first s (seen p))
    (λ p there. shown_there first s all (seen p) h there) c.args.passes.items c.join_all.ensures.seen)
