use Rattle.turn_desks.proofs.lemmas.Watched.{shown_at_first}
use Rattle.turn_desks.proofs.shown_hall.ShownHall.new.Goals as goal

pub invariant_of-result : goal.invariant_of-result
invariant_of-result g c = record {
  of_gauges = c.requires.gauges;
  own = c.requires.own;
  shows = c.requires.shows;
  shown = shown_at_first g.J.Origin.first c.args.served.hall.state _ c.requires.first c.requires.none c.requires.shown;
}
