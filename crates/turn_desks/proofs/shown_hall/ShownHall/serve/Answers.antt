use Rattle.std.proofs.Common.{◌≡◌, ◌∷◌, ◌++◌, [], length, sym, ap, ◌∙◌, arith, subst}
use Rattle.std.proofs.Math.Logic.{∥∥₁_map}
use Rattle.enq_base.specs.declared.condition.Readings.{Readings}
use Rattle.gauges.specs.Boards.{latest, told}
use Rattle.hall_model.specs.State.{State}
use Rattle.hall_model.specs.Views.{readings_of}
use Rattle.turn_desks.specs.Watching.{HasShown}
use Rattle.turn_desks.proofs.lemmas.Watched.{grown, shown_turn}
use Rattle.turn_desks.proofs.shown_hall.ShownHall.serve.Goals as goal

pub publish-requires-clause-risen : goal.publish-requires-clause-risen
publish-requires-clause-risen g c =
    let was = c.args.self.now in
    let old : State = was.served.hall.state in
    let new : State = c.serve-look.new.self.hall.state in
    let before : (latest was.writer).past ≡ length old.past = ap (λ (r : Readings). r.past) was.shows in
    let behind : c.readings-now.result.past ≡ length new.past = ap (λ (r : Readings). r.past) c.readings-now.ensures in
    let more = grown old.past new.past c.serve-look.ensures.grows in
    omega (arith, before, behind, more)

pub invariant_of-self : goal.invariant_of-self
invariant_of-self g c =
    let was = c.args.self.now in
    let first = g.J.Origin.first in
    let old : State = was.served.hall.state in
    let new : State = c.serve-look.new.self.hall.state in
    let shown = told was.writer in
    let now : told c.publish.new.writer ≡ shown ++ readings_of new ∷ [] =
    c.publish.ensures.told ∙ ap (λ r. shown ++ r ∷ []) c.readings-now.ensures in
    record {
      of_gauges = was.of_gauges;
      own = c.publish.ensures.own;
      shows = c.publish.ensures.latest ∙ c.readings-now.ensures;
      shown = ∥∥₁_map was.shown (λ h. subst (HasShown first new) (sym now)
          (shown_turn first old new c.args.line c.args.command c.serve-look.result.reply shown c.serve-look.ensures.step h));
    }
