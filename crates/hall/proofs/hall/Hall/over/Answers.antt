use Rattle.std.proofs.Common.{rules, inl, inr, refl, sym, subst, ◌∙◌, is_some}
use Rattle.enq_server.specs.Recovery.{AreKnown, locking}
use Rattle.enq_server.specs.Server.{IsRecovered}
use Rattle.ledger_steps.specs.Levels.{FitRows, intervals_of}
use Rattle.hall_calls.proofs.lemmas.OfOpenUnits.{recovered_lists}
use Rattle.hall_calls.proofs.lemmas.WaitingLists.{known_waiting}
use Rattle.ledger_steps.specs.Views.{open_locks}
use Rattle.hall.specs.Faults.{IsFileFault}
use Rattle.hall.proofs.Refused.{others_stay, ranges_file_counts, ranges_left}
use Rattle.hall_model.specs.State.{opened}
use Rattle.hall.proofs.hall.Hall.over.Goals as goal

pub returns-in-Err-clause-fault : goal.returns-in-Err-clause-fault
returns-in-Err-clause-fault g c = inl (c.ranges_fault_of.ensures (intervals_of c.args.ranges) c.args.books.ledger.levels c.in-Err.ensures.fault)

pub returns-in-Err-clause-file_cause : goal.returns-in-Err-clause-file_cause
returns-in-Err-clause-file_cause g c =
    let count = g.D.Disk.faults c.args.disk in
    let levels = c.args.books.ledger.levels in
    ranges_file_counts (intervals_of c.args.ranges) levels c.ranges_fault_of.result count count
    (c.ranges_fault_of.ensures (intervals_of c.args.ranges) levels c.in-Err.ensures.fault) refl

pub returns-in-Err-clause-images : goal.returns-in-Err-clause-images
returns-in-Err-clause-images g c = λ t.
    let levels = c.args.books.ledger.levels in
    ranges_left (intervals_of c.args.ranges) levels (open_locks c.args.books.ledger) c.ranges_fault_of.result (g.D.Disk.may_leave c.args.disk)
    (c.ranges_fault_of.ensures (intervals_of c.args.ranges) levels c.in-Err.ensures.fault)

pub first-requires-clause-filed : goal.first-requires-clause-filed
first-requires-clause-filed g c =
    let reads = g.D.Disk.reads in
    let may_leave = g.D.Disk.may_leave in
    let bytes = reads c.args.disk in
    let ledger = c.args.books.ledger in
    let file = c.in-Ok-first_locks.locks.file in
    let are = c.as_slice.ensures.value ∙ c.in-Ok.ensures in
    record {
      usable = c.in-Ok-first_locks.ensures.usable;
      standing = known_waiting ledger file.units (subst (λ us. AreKnown file.units (locking us)) are c.in-Ok-first_locks.ensures.known);
      ready = λ t.
          let h = recovered_lists reads may_leave bytes ledger file
          (subst (λ us. IsRecovered reads may_leave bytes us file) are (c.in-Ok-first_locks.ensures.file t)) in
          record { lists = h.0; ready = h.1; just = h.2 };
    }

pub returns-in-Ok-first_locks-clause-state : goal.returns-in-Ok-first_locks-clause-state
returns-in-Ok-first_locks-clause-state g c =
    c.first.ensures.state
    ∙ (λ i. opened c.args.begins.limits.max_locks c.args.begins.limits.max_marks (c.take_levels.ensures.intervals i)
    (is_some (g.K.Keeper.held c.args.books.keeper))
    (is_some (g.L.Link.applied (c.in-Ok-first_locks.ensures.link i))) c.args.books.ledger)

pub returns-in-Ok-first_locks-clause-file : goal.returns-in-Ok-first_locks-clause-file
returns-in-Ok-first_locks-clause-file g c = λ t.
    let reads = g.D.Disk.reads in
    let may_leave = g.D.Disk.may_leave in
    let bytes = reads c.args.disk in
    let file = c.in-Ok-first_locks.locks.file in
    let are = c.as_slice.ensures.value ∙ c.in-Ok.ensures in
    subst (IsRecovered reads may_leave bytes (open_locks c.args.books.ledger)) (sym c.first.ensures.file)
    (subst (λ us. IsRecovered reads may_leave bytes us file) are (c.in-Ok-first_locks.ensures.file t))

pub returns-in-Err-first_locks-clause-fault : goal.returns-in-Err-first_locks-clause-fault
returns-in-Err-first_locks-clause-fault g c =
    let tells = g.D.Disk.tells in
    let bytes = g.D.Disk.reads c.args.disk in
    let are = c.as_slice.ensures.value ∙ c.in-Ok.ensures in
    let fit : FitRows (intervals_of c.args.ranges) c.args.books.ledger.levels = search rules in
    inr (fit, subst (λ us. IsFileFault tells bytes us c.in-Err-first_locks.fault) are c.in-Err-first_locks.ensures.fault)

pub returns-in_default-open_units-clause-images : goal.returns-in_default-open_units-clause-images
returns-in_default-open_units-clause-images g c = λ t. others_stay (open_locks c.args.books.ledger) (g.D.Disk.may_leave c.args.disk)
