use Rattle.turn_desks.proofs.Led.{led_fresh}
use Rattle.turn_desks.proofs.Ups.{up_first}
use Rattle.turn_desks.proofs.served.ServedHall.new.Goals as goal

pub invariant_of-result : goal.invariant_of-result
invariant_of-result g c = record {
  told = c.requires.told;
  linked = c.requires.linked;
  up = up_first c.args.hall.state c.requires.none c.requires.up;
  led =
      led_fresh g.J.Origin.told g.D.Disk.tells g.J.Origin.linked g.J.Origin.first g.J.Origin.counts
      c.args.hall.state _ c.requires.first c.requires.none c.requires.counts;
}
