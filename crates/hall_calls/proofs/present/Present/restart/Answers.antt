use Rattle.std.proofs.Common.{◌≡◌, true, false, refl, sym, ap, ◌∙◌, subst, is_some}
use Rattle.std.specs.Prelude.{IsTrue}
use Rattle.hall_calls.proofs.ending.OverFields.{remade_as, seen, state_in}
use Rattle.hall_calls.proofs.lemmas.WithHistory.{store_told}
use Rattle.hall_calls.proofs.replica.EachCall.{quiet_link}
use Rattle.hall_calls.proofs.restarting.OverRead.{in_flight_under}
use Rattle.lock_entry.specs.Sound.{IsSound}
use Rattle.hall_model.specs.OpenUnits.{open_entries}
use Rattle.hall_calls.proofs.ending.OverFile.{remade_filed, remade_recovers}
use Rattle.hall_calls.proofs.ending.AfterStop.{remade_leaves, remade_usable}
use Rattle.hall_model.specs.Acts.{IsAct, IsTelling}
use Rattle.hall_calls.specs.Filing.{HasFileCause, HasOpenLists}
use Rattle.hall_model.specs.Kept.{OutsideDoubt}
use Rattle.hall_model.specs.Devices.{is_doubt}
use Rattle.hall_calls.specs.Remaking.{remade_reply, remade_taken}
use Rattle.hall_calls.specs.Serving.{DoesStore, IsDue, Serves, with_calls}
use Rattle.hall_model.specs.State.{State, is_honest, is_up}
use Rattle.hall_calls.specs.View.{View}
use Rattle.hall_model.specs.Unsound.{is_unsound_file, is_unsound_store}
use Rattle.hall_model.specs.declared.command.Command.TheVariants as command
use Rattle.hall_calls.proofs.present.Present.restart.Goals as goal

pub invariant_of-self : goal.invariant_of-self
invariant_of-self g c =
    let old = c.self.inside in
    let called = c.remake-remade in
    let ended = c.settled in
    record {
      usable =
          remade_usable g.K.Keeper.held g.K.Keeper.is_open called.result old.condition ended.new.condition _ old.books called.new.books
          ended.ensures.condition called.ensures.usable called.ensures.apart c.self.invariant.usable;
      left =
          remade_leaves g.K.Keeper.held g.K.Keeper.may_leave called.result old.books.ledger called.new.books.ledger old.failure ended.new.failure
          called.new.books.keeper ended.ensures.failure called.ensures.ledger called.ensures.left;
      filed =
          subst (λ k. OutsideDoubt k (HasOpenLists g.D.Disk.tells g.D.Disk.reads g.D.Disk.may_leave called.new.books.ledger called.new.locks.file))
          (sym ended.ensures.condition)
          (remade_filed g.D.Disk.tells g.D.Disk.reads g.D.Disk.may_leave g.D.Disk.faults called.result old.condition _ old.books.ledger
          called.new.books.ledger old.failure old.locks.file called.new.locks.file called.ensures.file called.ensures.ledger c.self.invariant.filed);
      lists =
          remade_recovers g.D.Disk.tells g.D.Disk.reads g.D.Disk.may_leave g.D.Disk.faults called.result old.condition ended.new.condition _
          old.books.ledger called.new.books.ledger old.failure ended.new.failure old.locks.file called.new.locks.file
          ended.ensures.condition ended.ensures.failure called.ensures.file called.ensures.ledger c.self.invariant.lists;
      stands = called.ensures.stands _ ∙ ap is_up (sym ended.ensures.condition);
    }

-- what the call comes to, over the fields
told_so : goal.returns-clause-taken
told_so g c =
    let old = c.self.inside in
    let held = g.K.Keeper.held in
    let applied = g.L.Link.applied in
    let past = c.args.past.now.items in
    let called = c.remake-remade in
    let ended = c.settled in
    let now = record old {
      condition = ended.new.condition;
      taken_over = ended.new.taken_over;
      sessions = called.new.sessions;
      orders = called.new.orders;
      locks = called.new.locks;
      books = called.new.books;
      failure = ended.new.failure;
    } in
    let due = subst (λ v. IsDue v.state past command.Restart) (sym c.self.view_is) c.requires in
    let s : State = state_in held applied old past in
    let new : State = state_in held applied now past in
    let told = store_told held g.K.Keeper.may_leave g.K.Keeper.faults old.books.keeper called.new.books.keeper s command.Restart _ called.ensures.store in
    let is =
    remade_as held applied called.result old now past told called.ensures.replica.told called.ensures.detached called.ensures.untouched
    ended.ensures.condition ended.ensures.over ended.ensures.failure called.ensures.sessions called.ensures.orders called.ensures.ledger in
    subst (λ (v : View g.row.K.Denot g.row.D.Denot g.row.L.Denot). IsTelling
    (with_calls v.state past) command.Restart ended.result.taken new ended.result.reply) c.self.view_is
    (subst (λ b. IsTelling s command.Restart b new ended.result.reply) (sym ended.ensures.taken)
    (subst (IsTelling s command.Restart (remade_taken called.result) new) (sym ended.ensures.reply)
    (subst (λ t. IsTelling s command.Restart (remade_taken called.result) t (remade_reply called.result)) (sym is)
    (called.ensures.act s refl refl refl refl refl refl refl due.admits))))

pub returns-clause-taken : goal.returns-clause-taken
returns-clause-taken g c = told_so g c

pub returns-clause-serves : goal.returns-clause-serves
returns-clause-serves g c =
    let old = c.self.inside in
    let held = g.K.Keeper.held in
    let past = c.args.past.now.items in
    let called = c.remake-remade in
    let ended = c.settled in
    let after = seen held g.L.Link.applied (record old {
      condition = ended.new.condition;
      taken_over = ended.new.taken_over;
      sessions = called.new.sessions;
      orders = called.new.orders;
      locks = called.new.locks;
      books = called.new.books;
      failure = ended.new.failure;
    }) in
    let act = (told_so g c).act in
    subst (λ (v : View g.row.K.Denot g.row.D.Denot g.row.L.Denot). IsAct (with_calls v.state past) command.Restart (with_calls after.state past)
    ended.result.reply → Serves held g.K.Keeper.may_leave g.K.Keeper.faults g.D.Disk.faults g.L.Link.gives g.L.Link.applied g.L.Link.faults
    g.L.Link.refusals v after past
    command.Restart ended.result.reply) c.self.view_is
    (λ a. record {
      call = a;
      store = subst (λ r. DoesStore held g.K.Keeper.may_leave g.K.Keeper.faults true (is_doubt old.condition) old.books.keeper called.new.books.keeper r)
          (sym ended.ensures.reply) called.ensures.store;
      file = subst (HasFileCause (g.D.Disk.faults old.locks.file.disk) (g.D.Disk.faults called.new.locks.file.disk))
          (sym ended.ensures.reply) called.ensures.cause;
      replica = called.ensures.replica;
      over = tt;
      link = quiet_link _ command.Restart (with_calls after.state past) ended.result.reply (g.L.Link.faults old.locks.replica.link)
          (g.L.Link.faults called.new.locks.replica.link) refl a;
    }) act

pub returns-clause-good_file : goal.returns-clause-good_file
returns-clause-good_file g c = λ yes honest.
    let past = c.args.past.now.items in
    let due = subst (λ v. IsDue v.state past command.Restart) (sym c.self.view_is) c.requires in
    let told = subst (λ (v : View g.row.K.Denot g.row.D.Denot g.row.L.Denot). IsTrue (is_honest v.state)) (sym c.self.view_is) honest in
    subst (λ r. is_unsound_file r ≡ false) (sym c.settled.ensures.reply)
    (c.remake-remade.ensures.good_file yes (due.kept.open_units.stored told).together
    (in_flight_under _ _ (λ ledger. IsSound (open_entries ledger)) told due.kept.open_units.in_flight))

pub returns-clause-good_store : goal.returns-clause-good_store
returns-clause-good_store g c =
    subst (λ (v : View g.row.K.Denot g.row.D.Denot g.row.L.Denot). is_some (g.K.Keeper.held v.keeper) ≡ true → is_unsound_store c.settled.result.reply ≡ false)
    c.self.view_is
    (λ yes. subst (λ r. is_unsound_store r ≡ false) (sym c.settled.ensures.reply) (c.remake-remade.ensures.good_store yes))
