use Rattle.std.proofs.Common.{◌≡◌, true, false, length}
use Rattle.std.specs.List.{AllByRecursion}
use Rattle.ledger_steps.specs.Levels.{intervals_of}
use Rattle.script_runner.specs.Preparing.{has_part}
use Rattle.script_actors.specs.Actors.{HasEnough, desk_view, deeds, land_of, lines_of_actor, no_deeds, session_of}
use Rattle.script_actors.specs.Carried.{Knows}
use Rattle.script_actors.specs.declared.line.NumberedLine.{NumberedLine}
use Rattle.script_actors.proofs.ActorLines.{GoesOn}
use Rattle.script_actors.proofs.actor.actor_lines.Given as goal

abbrev pub invariant-rest : goal.invariant-rest
invariant-rest g l = record {
  done : GoesOn (land_of l.objects (intervals_of l.ranges)) l.who (lines_of_actor l.who l.lines) (lines_of_actor l.who l.rest)
      (no_deeds (desk_view g.K.Desk.entries g.K.Desk.full_at l.fn.desk))
      (deeds l.carried.sides.items (desk_view g.K.Desk.entries g.K.Desk.full_at l.desk) l.said.items false);
  parts : AllByRecursion (λ (x : NumberedLine). has_part x.line ≡ true) l.rest;
  own : g.K.Desk.session l.desk ≡ session_of l.who;
  intervals : g.K.Desk.intervals l.desk ≡ intervals_of l.ranges;
  enough : HasEnough (intervals_of l.ranges) l.who l.rest (g.K.Desk.left l.desk);
  knows : Knows (g.K.Desk.entries l.desk) l.carried.drawn.stock.items l.carried.drawn.count;
}

abbrev pub decreases-rest : goal.decreases-rest
decreases-rest g l = length l.rest
