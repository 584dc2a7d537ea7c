use Rattle.std.proofs.Common.{◌≡◌, false, true, refl, sym, ap, ◌∙◌, subst}
use Rattle.enq_base.specs.declared.condition.Condition.TheVariants.{Up, NoServer}
use Rattle.enq_server.proofs.lemmas.Replicas.{keeps_none}
use Rattle.enq_server.specs.Server.{replicated}
use Rattle.lock_entry.specs.Table.{IsTable, Table}
use Rattle.hall_calls.proofs.ending.OverFields.{seen, state_in}
use Rattle.hall_calls.proofs.replica.EachCall.{any_link}
use Rattle.hall_calls.proofs.replica.Handovers.{bare_good, given, goes_on, not_over_so, over_cause, over_told, over_up, with_replica}
use Rattle.hall_calls.proofs.verdicts.EachCall.{at_state}
use Rattle.hall_calls.specs.Serving.{IsDue, Serves, with_calls}
use Rattle.hall_calls.specs.View.{View}
use Rattle.hall_model.specs.Acts.{IsAct}
use Rattle.hall_model.specs.State.{is_up}
use Rattle.hall_model.specs.Step.{followed_over}
use Rattle.hall_model.specs.declared.command.Command.TheVariants as command
use Rattle.hall_model.specs.declared.command.Reply.{Reply}
use Rattle.hall_model.specs.declared.command.Reply.TheVariants as reply
use Rattle.hall_calls.proofs.present.Present.fail_over.Goals as goal

pub fail_over-requires : goal.fail_over-requires
fail_over-requires g c = record { ended = c.self.invariant.stands ∙ ap is_up c.in-NoServer.is }

pub returns-in-Up : goal.returns-in-Up
returns-in-Up g c =
    let v = c.args.self.now in
    let up = ap (λ (x : View g.row.K.Denot g.row.D.Denot g.row.L.Denot). x.state.condition) (sym c.self.view_is) ∙ c.in-Up.is in
    record {
      call = over_up (with_calls v.state c.args.past.now.items) up c.requires.admits;
      store = refl;
      file = refl;
      replica =
          any_link g.L.Link.applied g.L.Link.faults g.L.Link.refusals v.replica v.replica false
          (keeps_none g.L.Link.applied g.L.Link.faults g.L.Link.refusals v.replica);
      over = tt;
      link = tt;
    }

pub returns-in-Ok : goal.returns-in-Ok
returns-in-Ok g c =
    let old = c.self.inside in
    let past = c.args.past.now.items in
    let called = c.fail_over in
    let new = called.new.self in
    let held = g.K.Keeper.held in
    let applied = g.L.Link.applied in
    let bare = record old { condition = NoServer } in
    let over = record old { condition = Up; taken_over = true; sessions = c.forgive.new.self; locks = new } in
    let list = g.L.Link.gives old.locks.replica.link in
    let is : seen held applied bare ≡ c.args.self.now =
    (λ i. seen held applied (record old { condition = sym c.in-NoServer.is i })) ∙ c.self.view_is in
    let due = subst (λ (v : View g.row.K.Denot g.row.D.Denot g.row.L.Denot). IsDue v.state past command.FailOver) (sym is) c.requires in
    let s = state_in held applied bare past in
    let later = state_in held applied over past in
    let on = c.in-Ok.ensures.followed in
    let told = given s refl due.admits g.L.Link.faults g.L.Link.gives applied old.locks.replica new.replica refl refl refl refl called.ensures.told on in
    let table = sym c.in-Ok.ensures.table in
    let good : IsTable (replicated old.max_locks list) = subst IsTable c.in-Ok.ensures.table called.ensures.good in
    let links = sym called.ensures.later.told in
    let marks = sym c.forgive.ensures in
    subst (λ v. Serves held g.K.Keeper.may_leave g.K.Keeper.faults g.D.Disk.faults g.L.Link.gives applied g.L.Link.faults g.L.Link.refusals v
    (seen held applied over) past command.FailOver reply.Done) is
    (record {
      call =
          at_state s command.FailOver (followed_over list s) later reply.Done
          (λ i. record later {
            sessions = marks i;
            locks = (table i).entries;
            limit = (table i).limit;
            attached = sym c.in-Ok.ensures.detached i;
            link_told = links i;
          })
          (goes_on s refl due.admits list told on good);
      store = refl;
      file = called.ensures.file;
      replica = called.ensures.later;
      over = ap (λ (t : Table). t.entries) c.in-Ok.ensures.table;
      link = tt;
    })

pub returns-in-Err : goal.returns-in-Err
returns-in-Err g c =
    let old = c.self.inside in
    let past = c.args.past.now.items in
    let called = c.fail_over in
    let new = called.new.self in
    let held = g.K.Keeper.held in
    let applied = g.L.Link.applied in
    let does : View g.row.K.Denot g.row.D.Denot g.row.L.Denot → View g.row.K.Denot g.row.D.Denot g.row.L.Denot → Reply → Type 0 = λ v w r.
    Serves held g.K.Keeper.may_leave g.K.Keeper.faults g.D.Disk.faults g.L.Link.gives applied g.L.Link.faults g.L.Link.refusals v w past command.FailOver r in
    let bare = record old { condition = NoServer } in
    let after = record old { locks = new } in
    let is : seen held applied bare ≡ c.args.self.now =
    (λ i. seen held applied (record old { condition = sym c.in-NoServer.is i })) ∙ c.self.view_is in
    let due = subst (λ (v : View g.row.K.Denot g.row.D.Denot g.row.L.Denot). IsDue v.state past command.FailOver) (sym is) c.requires in
    let s = state_in held applied bare past in
    let later = state_in held applied (record after { condition = NoServer }) past in
    let r = c.over_refusal.result in
    let links = sym called.ensures.later.told in
    let behind = with_replica s refl due.admits g.L.Link.faults g.L.Link.gives applied old.locks.replica new.replica refl refl refl refl called.ensures.told in
    subst (λ v. does v (seen held applied after) (reply.Refused r)) c.self.view_is
    (subst (λ k. does (seen held applied (record old { condition = k })) (seen held applied (record after { condition = k })) (reply.Refused r))
    (sym c.in-NoServer.is)
    (record {
      call =
          at_state s command.FailOver behind later (reply.Refused r) (λ i. record later { link_told = links i })
          (subst (λ x. IsAct s command.FailOver behind (reply.Refused x)) (sym c.over_refusal.ensures)
          (not_over_so s refl due.admits g.L.Link.faults g.L.Link.gives applied old.locks.replica new.replica refl refl refl refl called.ensures.told
          c.in-Err.fault
          (bare_good old.max_locks _ due.kept.sound.table) c.in-Err.ensures.fault));
      store = refl;
      file = called.ensures.file;
      replica = called.ensures.later;
      over = over_told g.L.Link.faults g.L.Link.gives applied old.locks.replica new.replica c.in-Err.fault r later.locks c.over_refusal.ensures
          c.in-Err.ensures.fault;
      link = over_cause g.L.Link.faults g.L.Link.gives applied old.locks.replica new.replica c.in-Err.fault r c.over_refusal.ensures c.in-Err.ensures.fault;
    }))
