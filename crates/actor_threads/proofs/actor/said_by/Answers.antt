use Rattle.std.proofs.Common.{List, ap, subst, sym}
use Rattle.ledger_steps.specs.Levels.{intervals_of}
use Rattle.script_actors.specs.Actors.{AddsDone, DeskView, land_of, session_of}
use Rattle.script_actors.specs.declared.actor.Said.{Said}
use Rattle.caller_laws.specs.Doing.{desk_seen}
use Rattle.turn_desks.specs.Weaving.{desk_entries}
use Rattle.turn_lock.specs.Passes.{known}
use Rattle.actor_threads.proofs.actor.said_by.Goals as goal

pub actor_lines-requires : goal.actor_lines-requires
actor_lines-requires g c = record {
  parts = c.requires.parts;
  none = c.requires.fresh;
  own = ap session_of c.requires.own;
  intervals = c.requires.intervals;
  enough = c.requires.enough;
}

pub returns-in-Ok : goal.returns-in-Ok
returns-in-Ok g c =
    let was = c.args.desk.now in
    let now = c.actor_lines.new.desk in
    let before : DeskView = desk_seen (desk_entries was.drawn.items (known was.caller.pass)) was.caller.notes.full_at in
    let after : DeskView = desk_seen (desk_entries now.drawn.items (known now.caller.pass)) now.caller.notes.full_at in
    subst (λ (said : List Said). AddsDone (land_of c.args.objects.now (intervals_of c.args.ranges.now)) c.args.who.now c.args.lines.now before after said)
    (sym c.from_vec.ensures) c.in-Ok.ensures.done
