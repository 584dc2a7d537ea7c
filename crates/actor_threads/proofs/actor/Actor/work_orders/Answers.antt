use Rattle.caller_laws.specs.Doing.{Known, LeadsTurn}
use Rattle.actor_threads.proofs.Seen.{work_seen}
use Rattle.turn_desks.specs.declared.turn_desk.TurnDesk.{TurnDesk}
use Rattle.turn_desks.specs.Weaving.{desk_entries}
use Rattle.turn_lock.specs.Passes.{known}
use Rattle.actor_threads.proofs.actor.Actor.work_orders.Goals as goal

pub returns-clause-did : goal.returns-clause-did
returns-clause-did g c =
    let D : Type 0 = TurnDesk g.row.N.Denot g.row.S.Denot g.row.R.Denot g.row.G.Denot g.N.LockName g.S.Serving g.S.History in
    let knows : D → Known = λ d. record {
      view = known d.caller.pass;
      entries = desk_entries d.drawn.items (known d.caller.pass);
      full_at = d.caller.notes.full_at;
    } in
    work_seen knows _ (LeadsTurn g.S.History.past) (λ k m l h. record { asked = h.0; full_at = h.1 }) c.args.worker _ _ _ c.do_orders-self.ensures.works
