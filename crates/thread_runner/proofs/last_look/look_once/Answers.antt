use Rattle.std.proofs.Common.{refl}
use Rattle.actor_threads.specs.Last.{LeadsServed}
use Rattle.thread_runner.proofs.Stood.{work_stood}
use Rattle.thread_runner.proofs.last_look.look_once.Goals as goal

pub returns-clause-looked : goal.returns-clause-looked
returns-clause-looked g c = record {
  worker = c.in-Worker.worker;
  who = c.in-Worker.is;
  same = refl;
  said = refl;
  drawn = refl;
  glanced = refl;
  work =
      work_stood (λ d. record { state = d.served.hall.state; full_at = d.full_at }) _ LeadsServed (λ k m l h. h) c.in-Worker.worker c.do_orders-deed.result
      _ c.do_orders-deed.new.desk c.do_orders-deed.ensures.works;
  long = c.do_orders-deed.new.desk.full;
}
