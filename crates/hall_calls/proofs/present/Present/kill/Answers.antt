use Rattle.std.proofs.Common.{refl, sym, ap, ◌∙◌, subst, is_some}
use Rattle.enq_base.specs.declared.condition.Condition.TheVariants.{NoServer}
use Rattle.enq_server.proofs.lemmas.Replicas.{keeps_none}
use Rattle.enq_server.specs.Replica.{KeepsOn}
use Rattle.enq_server.specs.Server.{replicated}
use Rattle.hall_calls.proofs.ending.OverFields.{state_in, up}
use Rattle.hall_calls.proofs.ending.PresentCalls.{finds, finds_up, serves_apart}
use Rattle.hall_calls.proofs.lemmas.WithHistory.{due_serving, outside}
use Rattle.hall_calls.proofs.verdicts.EachCall.{at_state, is_done}
use Rattle.hall_calls.specs.Filing.{AllRecover, HasOpenLists}
use Rattle.hall_calls.specs.Remaking.{flight_over}
use Rattle.hall_calls.specs.Serving.{IsDue}
use Rattle.hall_model.specs.Acts.{Admits, IsAct}
use Rattle.hall_model.specs.Sessions.{has_one_of, with_marks}
use Rattle.hall_model.specs.State.{is_up, unhanded}
use Rattle.hall_model.specs.Step.{killed}
use Rattle.hall_model.specs.declared.command.Command.TheVariants as command
use Rattle.hall_model.specs.declared.command.Reply.TheVariants as reply
use Rattle.hall_calls.proofs.present.Present.kill.Goals as goal

pub end_table-requires : goal.end_table-requires
end_table-requires g c =
    c.self.invariant.stands ∙ ap is_up (finds_up g.K.Keeper.held g.L.Link.applied c.self.inside c.self.view_is c.requires refl)

pub invariant_of-self : goal.invariant_of-self
invariant_of-self g c =
    let old = c.self.inside in
    let found = finds g.L.Link.applied old c.self.invariant c.self.view_is c.requires refl in
    let serving = due_serving _ _ _ refl (subst (λ v. IsDue v.state c.args.past.now.items command.Kill) (sym c.self.view_is) c.requires) in
    let file = sym c.end_table.ensures.file in
    let ledger = old.books.ledger in
    record {
      usable = found.usable;
      left = c.self.invariant.left;
      filed = subst (HasOpenLists g.D.Disk.tells g.D.Disk.reads g.D.Disk.may_leave ledger) file found.filed;
      lists =
          subst (AllRecover g.D.Disk.tells g.D.Disk.may_leave NoServer ledger (flight_over ledger old.failure) old.failure.found) file
          (λ t image may. let h = c.self.invariant.lists t image may in record {
            lists = h.lists;
            stands = h.stands;
            agree = h.agree;
            flight_agrees = h.flight_agrees;
            only = outside old.condition _ serving h.only;
          });
      stands = c.end_table.ensures.stands;
    }

pub returns : goal.returns
returns g c =
    let old = c.self.inside in
    let past = c.args.past.now.items in
    let ended = c.end_table in
    let new = record old { condition = NoServer; sessions = ended.new.sessions; locks = ended.new.locks } in
    let s = state_in g.K.Keeper.held g.L.Link.applied (up old) past in
    let later = state_in g.K.Keeper.held g.L.Link.applied new past in
    let marks = ended.ensures.sessions ∙ ap (λ n. with_marks (has_one_of n (unhanded old.locks.table.entries)) old.sessions) c.start-start.ensures in
    let replica = sym ended.ensures.replica in
    let list = sym ended.ensures.told in
    serves_apart c.self.view_is c.requires refl refl refl refl ended.ensures.file
    (subst (KeepsOn g.L.Link.applied g.L.Link.faults g.L.Link.refusals old.locks.replica) replica
    (keeps_none g.L.Link.applied g.L.Link.faults g.L.Link.refusals old.locks.replica))
    refl
    (subst (λ k. Admits (state_in g.K.Keeper.held g.L.Link.applied (record old { condition = k }) past) command.Kill
    → IsAct (state_in g.K.Keeper.held g.L.Link.applied (record old { condition = k }) past) command.Kill later reply.Done)
    (sym (finds_up g.K.Keeper.held g.L.Link.applied old c.self.view_is c.requires refl))
    (λ room. at_state s command.Kill (killed s) later reply.Done
    (λ i. record later {
      sessions = sym marks i;
      locks = list i;
      limit = (replicated old.max_locks (list i)).limit;
      attached = (replica i).attached;
      link_told = is_some (g.L.Link.applied (replica i).link);
    })
    (is_done s command.Kill (killed s) tt room refl)))
