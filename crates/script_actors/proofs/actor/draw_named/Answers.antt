use Rattle.std.proofs.Common.{List, sym, ap, subst, ◌∙◌}
use Rattle.hall_model.specs.declared.command.Reply.{Reply}
use Rattle.script_actors.specs.Actors.{drawing, drawn_as, followed, full_after}
use Rattle.script_actors.specs.Carried.{Knows}
use Rattle.script_actors.specs.Drawings.{DeskEntry}
use Rattle.script_actors.proofs.Numbers.{found_nr, found_object, knows_drawing}
use Rattle.script_actors.proofs.actor.draw_named.Goals as goal

pub returns-clause-drawn : goal.returns-clause-drawn
returns-clause-drawn g c = λ i found.
    let told = c.draw-reply.ensures.told i found in
    let l = c.args.numbered.now in
    let sides = c.args.carried.now.sides.items in
    record {
      given = told.0;
      is = told.2;
      comes = c.drawn_as.ensures ∙ ap drawn_as (sym told.1);
      follows = c.follow.ensures ∙ ap (λ (r : Reply). followed l.line r sides) (sym told.1);
      told = λ k. record {
        entries = told.3 k;
        full_at = (c.draw-reply.ensures.full_at ∙ ap (full_after (g.K.Desk.full_at c.args.desk.now) l.number) (sym told.1)) k;
      };
    }

pub returns-clause-knows : goal.returns-clause-knows
returns-clause-knows g c =
    let object = c.args.object in
    let nr = c.args.nr in
    let one = c.requires.one in
    let told = c.draw-reply.ensures.told one.interval one.found in
    let was = c.args.carried.now.drawn in
    let now = c.follow_draw.new.self in
    subst (λ (es : List DeskEntry). Knows es now.stock.items now.count) (sym told.3)
    (knows_drawing (g.K.Desk.entries c.args.desk.now) (drawing c.args.numbered.now.number one.interval told.0) object nr c.draw-reply.result was.stock.items
    was.count now.stock.items now.count c.requires.knows (found_object _ object nr one.interval one.found) (found_nr _ object nr one.interval one.found)
    told.1 c.follow_draw.ensures.stock c.follow_draw.ensures.count)
