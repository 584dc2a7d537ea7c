use Rattle.std.proofs.Common.{sym, subst, ◌∙◌}
use Rattle.std.specs.List.{All}
use Rattle.bk_disk.specs.Disk.{Follows}
use Rattle.backup_file.specs.Backup.{IsReady}
use Rattle.backup_file.specs.File.{Stands}
use Rattle.backup_file.specs.Lists.{AreUnits, HaveEntries}
use Rattle.enq_server.specs.Faults.{IsOpenFault, Leaves}
use Rattle.enq_server.specs.Recovery.{Agrees}
use Rattle.enq_server.proofs.Images.{keeps_leaves, opening_leaves, recovery_fault, some_left, unread_fault}
use Rattle.enq_server.proofs.lemmas.Known.{known_locking}
use Rattle.enq_server.proofs.recovery.read_freed.Goals as goal

pub returns-in-Err-clause-images : goal.returns-in-Err-clause-images
returns-in-Err-clause-images g c = λ t.
    subst (λ fault. Follows (Leaves c.args.units.now fault) (g.D.Disk.may_leave c.args.backup.now.disk) (g.D.Disk.may_leave c.reopen.new.self.disk))
    (sym c.from.ensures)
    (opening_leaves c.args.units.now c.in-Err.fault (g.D.Disk.may_leave c.args.backup.now.disk) (g.D.Disk.may_leave c.reopen.new.self.disk)
    (c.in-Err.ensures.images t))

pub returns-in-Ok-free_others-clause-file : goal.returns-in-Ok-free_others-clause-file
returns-in-Ok-free_others-clause-file g c = λ t. record {
  lists = c.as_slice-2.result.now;
  stood = subst (Stands (g.D.Disk.reads c.args.backup.now.disk)) (sym c.as_slice-2.ensures.value) (c.in-Ok.ensures.lists t);
  agree = subst (λ l. All (Agrees l) c.args.units.now) (c.as_slice.ensures.value ∙ sym c.as_slice-2.ensures.value) c.in-Ok-recover.ensures.agree;
  ready = c.in-Ok-free_others.ensures.freed t c.args.units.now c.in-Ok-recover.ensures.known
      (subst (IsReady g.D.Disk.reads g.D.Disk.may_leave c.reopen.new.self) (sym c.as_slice-2.ensures.value) (c.in-Ok.ensures.ready t));
}

pub returns-in-Ok-free_others-clause-images : goal.returns-in-Ok-free_others-clause-images
returns-in-Ok-free_others-clause-images g c = λ t.
    some_left c.args.units.now (g.D.Disk.reads c.args.backup.now.disk) c.as_slice-2.result.now (g.D.Disk.may_leave c.args.backup.now.disk) _
    (subst (Stands (g.D.Disk.reads c.args.backup.now.disk)) (sym c.as_slice-2.ensures.value) (c.in-Ok.ensures.lists t))
    (g.met.D.Disk.reads_left c.args.backup.now.disk t)
    (c.in-Ok-free_others.ensures.images t c.args.units.now c.in-Ok-recover.ensures.known
    (subst (IsReady g.D.Disk.reads g.D.Disk.may_leave c.reopen.new.self) (sym c.as_slice-2.ensures.value) (c.in-Ok.ensures.ready t)))

pub returns-clause-images : goal.returns-clause-images
returns-clause-images g c = λ t.
    some_left c.args.units.now (g.D.Disk.reads c.args.backup.now.disk) c.as_slice-2.result.now (g.D.Disk.may_leave c.args.backup.now.disk) _
    (subst (Stands (g.D.Disk.reads c.args.backup.now.disk)) (sym c.as_slice-2.ensures.value) (c.in-Ok.ensures.lists t))
    (g.met.D.Disk.reads_left c.args.backup.now.disk t)
    (c.in-Err-free_others.ensures.images t c.args.units.now c.in-Ok-recover.ensures.known
    (subst (IsReady g.D.Disk.reads g.D.Disk.may_leave c.reopen.new.self) (sym c.as_slice-2.ensures.value) (c.in-Ok.ensures.ready t)))

pub returns-in-Ok-free_others-clause-known : goal.returns-in-Ok-free_others-clause-known
returns-in-Ok-free_others-clause-known g c =
    let lists = c.as_slice-2.result.now in
    let read = sym c.as_slice-2.ensures.value in
    known_locking _ lists c.args.units.now
    (c.in-Ok-free_others.ensures.known c.args.units.now c.in-Ok-recover.ensures.known
    (subst (AreUnits c.reopen.new.self.units) read c.in-Ok.ensures.units))
    (subst HaveEntries read c.in-Ok.ensures.some)
    (subst (λ l. All (Agrees l) c.args.units.now) (c.as_slice.ensures.value ∙ sym c.as_slice-2.ensures.value) c.in-Ok-recover.ensures.agree)

pub returns-in-Err-clause-fault : goal.returns-in-Err-clause-fault
returns-in-Err-clause-fault g c = λ t.
    let was = g.D.Disk.reads c.args.backup.now.disk in
    subst (λ fault. IsOpenFault was c.args.units.now fault) (sym c.from.ensures)
    (unread_fault was c.args.units.now c.in-Err.fault _ (c.in-Err.ensures.bad t))

pub returns-in-Err-recover-clause-fault : goal.returns-in-Err-recover-clause-fault
returns-in-Err-recover-clause-fault g c = λ t.
    let was = g.D.Disk.reads c.args.backup.now.disk in
    recovery_fault was c.as_slice.result.now c.args.units.now c.in-Err-recover.fault
    (subst (Stands was) (sym c.as_slice.ensures.value) (c.in-Ok.ensures.lists t)) c.in-Err-recover.ensures.fault

pub returns-in-Err-recover-clause-images : goal.returns-in-Err-recover-clause-images
returns-in-Err-recover-clause-images g c = λ t image may.
    keeps_leaves c.args.units.now c.in-Err-recover.fault (g.D.Disk.may_leave c.args.backup.now.disk) (g.D.Disk.may_leave c.reopen.new.self.disk)
    (c.reopen.ensures.images t) image (subst (λ d. g.D.Disk.may_leave d image) c.shut.ensures.disk may)

pub returns-in-Ok-free_others-clause-worn : goal.returns-in-Ok-free_others-clause-worn
returns-in-Ok-free_others-clause-worn g c = λ t worn.
    c.in-Ok.ensures.worn t
    (c.in-Ok-free_others.ensures.worn t c.args.units.now c.in-Ok-recover.ensures.known
    (subst (IsReady g.D.Disk.reads g.D.Disk.may_leave c.reopen.new.self) (sym c.as_slice-2.ensures.value) (c.in-Ok.ensures.ready t)) worn)
