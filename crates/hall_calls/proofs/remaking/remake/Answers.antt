use Rattle.std.proofs.Common.{◌≡◌, ◌+◌, true, false, map, replicate, None, refl, sym, ap, ◌∙◌, subst}
use Rattle.enq_base.specs.declared.condition.Condition.TheVariants as condition
use Rattle.enq_base.specs.declared.refusal.Refusal.TheVariants as refusal
use Rattle.enq_server.proofs.lemmas.Replicas.{keeps_none}
use Rattle.enq_server.specs.Faults.{IsOpenFault}
use Rattle.enq_server.specs.Server.{recovered}
use Rattle.lock_entry.specs.Sound.{IsSound}
use Rattle.posting.specs.BooksView.{BooksView}
use Rattle.ledger_steps.specs.Views.{open_locks}
use Rattle.hall_model.specs.Acts.{IsTelling}
use Rattle.hall_model.specs.Calls.{OfAdmin, Restarts}
use Rattle.hall_calls.specs.Filing.{AllRecover}
use Rattle.hall_model.specs.History.{doubted, known_behind}
use Rattle.hall_model.specs.OpenUnits.{open_entries}
use Rattle.hall_calls.specs.Remaking.{LeavesKnown, flight_over, ledger_read, remade_state, taken_in}
use Rattle.hall_calls.specs.Serving.{DoesStore, MayReread}
use Rattle.hall_model.specs.Devices.{is_doubt}
use Rattle.hall_model.specs.Sessions.{bereft_if}
use Rattle.hall_model.specs.Step.{is_taken, stored_anew}
use Rattle.hall_model.specs.declared.command.Command.TheVariants as command
use Rattle.hall_model.specs.declared.command.Reply.TheVariants as reply
use Rattle.hall_calls.specs.declared.remaking.Remade.TheVariants.{Done}
use Rattle.hall_calls.proofs.replica.EachCall.{any_link}
use Rattle.hall_calls.proofs.lemmas.GoodFiles.{ready_sound}
use Rattle.hall_calls.proofs.restarting.MadeAnew.{found_stands, left_recovers, not_remade, remade_lists, remake_counts, remake_quiet, remakes, restarts_up, sessions_kept}
use Rattle.hall_calls.proofs.restarting.OverRead.{found_sound, made_leaves, may_have_read, read_ledger, read_right, read_store, taken_same, usable_made}
use Rattle.hall_calls.proofs.restarting.NotMade.{IsOf, all_not_remade, all_refused_first, not_up, unread_acts, unread_apart, unread_cause, unread_file}
use Rattle.hall_calls.proofs.restarting.NotMade.{unread_left, unread_sound, unread_stands, unread_store, unread_usable}
use Rattle.hall_calls.proofs.remaking.remake.Goals as goal

pub returns-in-Up : goal.returns-in-Up
returns-in-Up g c =
    let keeper = c.args.books.now.keeper in
    let replica = c.args.locks.now.replica in
    record {
      act = λ s is own stored flight found caller limit free. restarts_up s c.args.basis.now.condition is c.in-Up.is free;
      sessions = refl;
      orders = refl;
      stands = λ calls. c.requires.ended;
      ledger = refl;
      usable = tt;
      apart = refl;
      store = subst (λ k. DoesStore g.K.Keeper.held g.K.Keeper.may_leave g.K.Keeper.faults true (is_doubt k) keeper keeper (reply.Refused refusal.ServerUp))
          (sym c.in-Up.is) refl;
      left = c.requires.left;
      file = refl;
      cause = refl;
      replica = any_link g.L.Link.applied g.L.Link.faults g.L.Link.refusals replica replica false
          (keeps_none g.L.Link.applied g.L.Link.faults g.L.Link.refusals replica);
      detached = tt;
      untouched = refl;
      good_file = λ t sound flight. refl;
      good_store = λ told. refl;
    }

pub restart-requires : goal.restart-requires
restart-requires g c = record { ended = c.requires.ended ∙ not_up c.args.basis.now.condition c.in_default.not-Up }

-- ---- where the store isn't read

pub returns-in-Err-clause-act : goal.returns-in-Err-clause-act
returns-in-Err-clause-act g c = λ s is own stored flight found caller limit free.
    unread_acts g.K.Keeper.held g.K.Keeper.may_leave g.K.Keeper.faults c.args.basis.now.condition c.args.basis.now.failure.now c.args.books.now
    c.read_waiting.new.books
    c.in-Err.remade c.in-Err.ensures.unread c.in_default.not-Up s is (record { stored = stored; in_flight = flight; found = found }) free
    c.args.sessions.now c.args.orders.now.items c.args.locks.now.table c.read_waiting.new.books.ledger (sym own)

pub returns-in-Err-clause-sessions : goal.returns-in-Err-clause-sessions
returns-in-Err-clause-sessions g c = all_not_remade c.in-Err.remade _ refl

pub returns-in-Err-clause-orders : goal.returns-in-Err-clause-orders
returns-in-Err-clause-orders g c = all_not_remade c.in-Err.remade _ refl

pub returns-in-Err-clause-stands : goal.returns-in-Err-clause-stands
returns-in-Err-clause-stands g c = λ calls.
    unread_stands g.K.Keeper.held g.K.Keeper.may_leave g.K.Keeper.faults c.args.basis.now.condition c.args.basis.now.failure.now c.args.books.now
    c.read_waiting.new.books
    c.in-Err.remade c.args.locks.now.stands calls c.in-Err.ensures.unread c.requires.ended

pub returns-in-Err-clause-untouched : goal.returns-in-Err-clause-untouched
returns-in-Err-clause-untouched g c = all_refused_first c.in-Err.remade _ refl

pub returns-in-Err-clause-ledger : goal.returns-in-Err-clause-ledger
returns-in-Err-clause-ledger g c = all_not_remade c.in-Err.remade _ c.read_waiting.ensures.ledger

pub returns-in-Err-clause-usable : goal.returns-in-Err-clause-usable
returns-in-Err-clause-usable g c =
    unread_usable g.K.Keeper.held g.K.Keeper.may_leave g.K.Keeper.faults c.args.basis.now.condition c.args.basis.now.failure.now c.args.books.now
    c.read_waiting.new.books
    c.in-Err.remade _ c.in-Err.ensures.unread

pub returns-in-Err-clause-apart : goal.returns-in-Err-clause-apart
returns-in-Err-clause-apart g c =
    unread_apart g.K.Keeper.held g.K.Keeper.may_leave g.K.Keeper.faults c.args.basis.now.condition c.args.basis.now.failure.now c.args.books.now
    c.read_waiting.new.books
    c.in-Err.remade c.in-Err.ensures.unread c.read_waiting.ensures.apart

pub returns-in-Err-clause-store : goal.returns-in-Err-clause-store
returns-in-Err-clause-store g c =
    unread_store g.K.Keeper.held g.K.Keeper.may_leave g.K.Keeper.faults c.args.basis.now.condition c.args.basis.now.failure.now c.args.books.now
    c.read_waiting.new.books
    c.in-Err.remade c.in-Err.ensures.unread c.read_waiting.ensures.apart c.read_waiting.ensures.told c.read_waiting.ensures.within

pub returns-in-Err-clause-left : goal.returns-in-Err-clause-left
returns-in-Err-clause-left g c =
    unread_left g.K.Keeper.held g.K.Keeper.may_leave g.K.Keeper.faults c.args.basis.now.condition c.args.basis.now.failure.now c.args.books.now
    c.read_waiting.new.books
    c.in-Err.remade c.in-Err.ensures.unread c.read_waiting.ensures.told c.read_waiting.ensures.within c.requires.left

pub returns-in-Err-clause-file : goal.returns-in-Err-clause-file
returns-in-Err-clause-file g c =
    unread_file g.K.Keeper.held g.K.Keeper.may_leave g.K.Keeper.faults c.args.basis.now.condition c.args.basis.now.failure.now c.args.books.now
    c.read_waiting.new.books
    g.D.Disk.tells g.D.Disk.reads g.D.Disk.may_leave g.D.Disk.faults c.in-Err.remade c.args.locks.now.file c.in-Err.ensures.unread c.requires.lists

pub returns-in-Err-clause-cause : goal.returns-in-Err-clause-cause
returns-in-Err-clause-cause g c =
    unread_cause g.K.Keeper.held g.K.Keeper.may_leave g.K.Keeper.faults c.args.basis.now.condition c.args.basis.now.failure.now c.args.books.now
    c.read_waiting.new.books
    c.in-Err.remade (g.D.Disk.faults c.args.locks.now.file.disk) c.in-Err.ensures.unread

pub returns-in-Err-clause-good_file : goal.returns-in-Err-clause-good_file
returns-in-Err-clause-good_file g c = λ t sound flight.
    unread_sound g.K.Keeper.held g.K.Keeper.may_leave g.K.Keeper.faults c.args.basis.now.condition c.args.basis.now.failure.now c.args.books.now
    c.read_waiting.new.books
    c.in-Err.remade c.in-Err.ensures.unread

-- ---- where the lock server is made

pub returns-in-Ok-restart-clause-act : goal.returns-in-Ok-restart-clause-act
returns-in-Ok-restart-clause-act g c = λ s is own stored flight found caller limit free.
    let failure = c.args.basis.now.failure.now in
    let old = c.args.books.now.ledger in
    let reread = c.in-Ok.waiting.reread in
    let read = taken_in reread in
    let was = c.in-Ok.ensures.read in
    let of_s : IsOf s old failure = record { stored = stored; in_flight = flight; found = found } in
    let right = read_right c.args.basis.now.condition old failure reread c.in_default.not-Up was c.requires.settled c.requires.unknown in
    let ledger : c.adopt.new.books.ledger ≡ ledger_read old reread = c.adopt.ensures.ledger ∙ ap (λ l. ledger_read l reread) c.read_waiting.ensures.ledger in
    let bereaved : c.bereave.new.self ≡ map (bereft_if s.failed_caller) s.sessions =
    c.bereave.ensures ∙ (λ i. map (bereft_if (sym caller i)) (sym own i)) in
    subst (λ b. IsTelling s command.Restart b
    (remade_state s c.bereave.new.self c.drop_orders.new.orders.items c.restart.new.self.table c.adopt.new.books.ledger (Done b)) reply.Done)
    (taken_same reread ∙ sym c.adopt.ensures.taken)
    (remakes s c.args.basis.now.condition is c.in_default.not-Up free read c.bereave.new.self c.drop_orders.new.orders.items c.restart.new.self.table
    c.adopt.new.books.ledger
    (may_have_read s old failure read of_s right)
    (record {
      stored = ledger ∙ read_ledger c.args.basis.now.condition old failure reread was ∙ (λ i. stored_anew (is_taken read) (sym stored i) (sym flight i));
      bereaved = bereaved;
      idle = c.drop_orders.ensures ∙ ap (λ n. replicate n None) c.requires.places;
      made = c.in-Ok-restart.ensures.table
          ∙ (λ i. recovered (sym limit i) ((c.as_slice.ensures.value ∙ c.in-Ok.ensures.units ∙ ap open_locks (sym ledger)) i));
      good = c.restart.ensures.good;
    }))

made_usable : goal.returns-in-Ok-restart-clause-usable
made_usable g c =
    usable_made g.K.Keeper.held g.K.Keeper.is_open g.K.Keeper.may_leave g.K.Keeper.faults c.args.basis.now.condition c.args.basis.now.failure.now
    c.args.books.now
    c.read_waiting.new.books c.adopt.new.books
    c.in-Ok.waiting.reread c.in_default.not-Up c.in-Ok.ensures.read c.requires.usable c.read_waiting.ensures.apart
    c.in-Ok.ensures.usable c.adopt.ensures.apart c.adopt.ensures.ledger c.adopt.ensures.keeper

pub returns-in-Ok-restart-clause-usable : goal.returns-in-Ok-restart-clause-usable
returns-in-Ok-restart-clause-usable g c = made_usable g c

pub returns-in-Ok-restart-clause-store : goal.returns-in-Ok-restart-clause-store
returns-in-Ok-restart-clause-store g c =
    let mid = c.read_waiting.new.books in
    let kept = c.adopt.ensures.keeper in
    read_store g.K.Keeper.held g.K.Keeper.is_open g.K.Keeper.may_leave g.K.Keeper.faults c.args.basis.now.condition c.args.books.now.keeper
    c.adopt.new.books.keeper
    reply.Done
    (λ off. kept ∙ ap (λ (x : BooksView g.row.K.Denot). x.keeper) (c.read_waiting.ensures.apart off))
    (λ on. subst (λ k. MayReread g.K.Keeper.held g.K.Keeper.may_leave g.K.Keeper.faults c.args.books.now.keeper k reply.Done) (sym kept)
    (record { told = c.read_waiting.ensures.told; cause = c.in-Ok.ensures.counts; within = c.read_waiting.ensures.within }))

pub returns-in-Ok-restart-clause-left : goal.returns-in-Ok-restart-clause-left
returns-in-Ok-restart-clause-left g c =
    made_leaves g.K.Keeper.held g.K.Keeper.is_open g.K.Keeper.may_leave g.K.Keeper.faults c.adopt.new.books g.met.K.Keeper.settled (made_usable g c)

pub returns-in-Ok-restart-clause-file : goal.returns-in-Ok-restart-clause-file
returns-in-Ok-restart-clause-file g c =
    let reread = c.in-Ok.waiting.reread in
    remade_lists g.D.Disk.tells g.D.Disk.reads g.D.Disk.may_leave g.D.Disk.faults c.adopt.new.books.ledger c.as_slice.result.now
    (g.D.Disk.reads c.args.locks.now.file.disk) c.restart.new.self.file
    (c.as_slice.ensures.value ∙ c.in-Ok.ensures.units ∙ ap (λ l. open_locks (ledger_read l reread)) (sym c.read_waiting.ensures.ledger)
    ∙ ap open_locks (sym c.adopt.ensures.ledger))
    c.in-Ok-restart.ensures.usable c.in-Ok-restart.ensures.known c.in-Ok-restart.ensures.file

-- ---- where its backup file isn't read

pub returns-in-Err-restart-clause-act : goal.returns-in-Err-restart-clause-act
returns-in-Err-restart-clause-act g c = λ s is own stored flight found caller limit free.
    let failure = c.args.basis.now.failure.now in
    let old = c.args.books.now.ledger in
    let reread = c.in-Ok.waiting.reread in
    let right = read_right c.args.basis.now.condition old failure reread c.in_default.not-Up c.in-Ok.ensures.read c.requires.settled c.requires.unknown in
    subst (λ read. IsTelling s command.Restart false (record (doubted s (OfAdmin Restarts) read s.in_flight) { sessions = c.args.sessions.now })
    (reply.Refused c.remake_refusal.result))
    (sym c.taken_in.ensures)
    (sessions_kept s c.args.basis.now.condition is c.in_default.not-Up free (taken_in reread) c.args.sessions.now
    (reply.Refused c.remake_refusal.result) (sym own)
    (not_remade s c.args.basis.now.condition is c.in_default.not-Up free c.in-Err-restart.fault c.remake_refusal.result (taken_in reread)
    c.remake_refusal.ensures
    (may_have_read s old failure (taken_in reread) (record { stored = stored; in_flight = flight; found = found }) right)))

pub returns-in-Err-restart-clause-store : goal.returns-in-Err-restart-clause-store
returns-in-Err-restart-clause-store g c =
    read_store g.K.Keeper.held g.K.Keeper.is_open g.K.Keeper.may_leave g.K.Keeper.faults c.args.basis.now.condition c.args.books.now.keeper
    c.read_waiting.new.books.keeper _
    (λ off. ap (λ (x : BooksView g.row.K.Denot). x.keeper) (c.read_waiting.ensures.apart off))
    (λ on. record {
      told = c.read_waiting.ensures.told;
      cause = remake_quiet c.in-Err-restart.fault c.remake_refusal.result _ _ c.remake_refusal.ensures c.in-Ok.ensures.counts;
      within = c.read_waiting.ensures.within;
    })

pub returns-in-Err-restart-clause-left : goal.returns-in-Err-restart-clause-left
returns-in-Err-restart-clause-left g c =
    subst (λ read. LeavesKnown g.K.Keeper.held g.K.Keeper.may_leave c.read_waiting.new.books.keeper
    (known_behind c.args.basis.now.failure.now.found read) c.args.books.now.ledger (flight_over c.args.books.now.ledger c.args.basis.now.failure.now))
    (sym c.taken_in.ensures) c.in-Ok.ensures.left

pub returns-in-Err-restart-clause-file : goal.returns-in-Err-restart-clause-file
returns-in-Err-restart-clause-file g c = λ calls.
    let failure = c.args.basis.now.failure.now in
    let old = c.args.books.now.ledger in
    let reread = c.in-Ok.waiting.reread in
    let was = c.in-Ok.ensures.read in
    let right = read_right c.args.basis.now.condition old failure reread c.in_default.not-Up was c.requires.settled c.requires.unknown in
    subst (λ read. AllRecover g.D.Disk.tells g.D.Disk.may_leave (condition.Doubt (calls + 1)) old (flight_over old failure)
    (known_behind failure.found read) c.restart.new.self.file)
    (sym c.taken_in.ensures)
    (left_recovers g.D.Disk.tells g.D.Disk.reads g.D.Disk.may_leave g.D.Disk.faults c.args.basis.now.condition old (flight_over old failure) failure.found
    (taken_in reread) right
    c.args.locks.now.file c.requires.lists c.as_slice.result.now c.restart.new.self.file c.in-Err-restart.fault
    (c.as_slice.ensures.value ∙ c.in-Ok.ensures.units ∙ ap open_locks (read_ledger c.args.basis.now.condition old failure reread was))
    c.in-Err-restart.ensures.images calls)

pub returns-in-Err-restart-clause-cause : goal.returns-in-Err-restart-clause-cause
returns-in-Err-restart-clause-cause g c =
    remake_counts c.in-Err-restart.fault c.remake_refusal.result (g.D.Disk.faults c.args.locks.now.file.disk) (g.D.Disk.faults c.restart.new.self.file.disk)
    c.remake_refusal.ensures c.in-Err-restart.ensures.cause

pub returns-in-Err-restart-clause-good_file : goal.returns-in-Err-restart-clause-good_file
returns-in-Err-restart-clause-good_file g c = λ yes sound flight.
    let failure = c.args.basis.now.failure.now in
    let old = c.args.books.now.ledger in
    let reread = c.in-Ok.waiting.reread in
    let was = c.in-Ok.ensures.read in
    let read = taken_in reread in
    let right = read_right c.args.basis.now.condition old failure reread c.in_default.not-Up was c.requires.settled c.requires.unknown in
    let file = c.args.locks.now.file in
    let found = stored_anew (is_taken read) old (flight_over old failure) in
    let h = found_stands g.D.Disk.tells g.D.Disk.reads g.D.Disk.may_leave g.D.Disk.faults c.args.basis.now.condition old
    (flight_over old failure) failure.found read right
    file c.requires.lists yes (g.D.Disk.reads file.disk) (g.met.D.Disk.reads_left file.disk yes) in
    let units = c.as_slice.ensures.value ∙ c.in-Ok.ensures.units ∙ ap open_locks (read_ledger c.args.basis.now.condition old failure reread was) in
    ready_sound (g.D.Disk.reads file.disk) (open_locks found) h.0 c.in-Err-restart.fault c.remake_refusal.result c.remake_refusal.ensures h.1 h.2
    (found_sound (λ l. IsSound (open_entries l)) (is_taken read) old (flight_over old failure) sound flight)
    (subst (λ us. IsOpenFault (g.D.Disk.reads file.disk) us c.in-Err-restart.fault) units (c.in-Err-restart.ensures.fault yes))
