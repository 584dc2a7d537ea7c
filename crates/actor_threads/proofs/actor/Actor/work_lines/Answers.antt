use Rattle.std.proofs.Common.{map, ap, ◌∙◌}
use Rattle.script_actors.specs.Drawings.{Called, desk_call}
use Rattle.turn_desks.specs.Weaving.{desk_entries, noted}
use Rattle.turn_lock.specs.Passes.{known}
use Rattle.turn_lock.specs.Rule.{own_entries}
use Rattle.actor_threads.proofs.Told.{none_seen, told_desk}
use Rattle.actor_threads.proofs.actor.Actor.work_lines.Goals as goal

pub said_by-requires-clause-fresh : goal.said_by-requires-clause-fresh
said_by-requires-clause-fresh g c =
    let desk = c.args.self.now.desk in
    ap (λ notes. desk_entries notes (known desk.caller.pass)) c.requires.fresh.undrawn
    ∙ ap (λ es. map Called (map desk_call es)) (none_seen (known desk.caller.pass) c.requires.fresh.none)

pub returns-clause-did : goal.returns-clause-did
returns-clause-did g c =
    let desk = c.args.self.now.desk in
    let now = c.said_by.new.desk in
    record {
      fresh = ap (λ notes. desk_entries notes (known desk.caller.pass)) c.requires.fresh.undrawn
          ∙ ap (λ es. map Called (map desk_call es)) (none_seen (known desk.caller.pass) c.requires.fresh.none);
      did = c.said_by.ensures;
      calls = now.calls;
      drawn = told_desk (map noted now.drawn.items) (map desk_call (own_entries (known now.caller.pass)));
    }
