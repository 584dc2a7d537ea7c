use Rattle.std.proofs.Math.Logic.{∥∥₁_map}
use Rattle.hall_model.specs.Calls.{call_of}
use Rattle.turn_desks.proofs.Led.{no_stock_may}
use Rattle.turn_desks.proofs.Workers.{worker_no_stock}
use Rattle.turn_desks.specs.Stocks.{answered_of, limits_of}
use Rattle.actor_threads.proofs.Alone.{full_kept}
use Rattle.actor_threads.proofs.Lots.{worker_lots}
use Rattle.actor_threads.proofs.last_desk.LastDeskOrderDesk.order.Goals as goal

pub serve-look-requires : goal.serve-look-requires
serve-look-requires g c = record { may = no_stock_may c.args.self.now.served.hall.state (call_of c.args.command) (worker_no_stock c.args.worker c.args.command c.requires.own) }

pub invariant_of-self : goal.invariant_of-self
invariant_of-self g c =
    let was = c.args.self.now in
    let call = c.serve-look.ensures in
    record {
      full = full_kept _ _ 0 c.serve-look.result.reply was.full_at _ call.grows call.full c.note.ensures was.full;
      own = was.own;
      lots = ∥∥₁_map was.lots
          (worker_lots c.lots_stay.ensures.kept _ _ 0 c.args.worker c.args.command c.serve-look.result.reply c.read_invariant.ensures c.requires.own call.step
          g.N.LockName.stocks (limits_of was.rights.items) (answered_of was.rights.items));
    }

pub returns : goal.returns
returns g c =
    let call = c.serve-look.ensures in
    record {
      leads = record {
        step = call.step;
        alone = record { told = call.told; grew = call.grows; up = call.up; posts = call.posts; full_at = c.note.ensures };
      };
    }
