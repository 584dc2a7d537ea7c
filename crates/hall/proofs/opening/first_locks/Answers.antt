use Rattle.std.proofs.Common.{sym, subst}
use Rattle.hall.proofs.Refused.{file_counts, file_left, file_why}
use Rattle.hall.specs.Faults.{CountsFileFault, IsFileFault, LeavesFile}
use Rattle.hall.proofs.opening.first_locks.Goals as goal

pub returns-in-Err-clause-fault : goal.returns-in-Err-clause-fault
returns-in-Err-clause-fault g c =
    let bytes = g.D.Disk.reads c.args.disk in
    subst (IsFileFault g.D.Disk.tells bytes c.args.units.now) (sym c.file_fault_of.ensures)
    (file_why g.D.Disk.tells bytes c.args.units.now c.in-Err.fault c.in-Err.ensures.fault)

pub returns-in-Err-clause-cause : goal.returns-in-Err-clause-cause
returns-in-Err-clause-cause g c =
    let faults = g.D.Disk.faults in
    subst (λ f. CountsFileFault f (faults c.args.disk) (faults c.in-Err.disk)) (sym c.file_fault_of.ensures)
    (file_counts c.in-Err.fault (faults c.args.disk) (faults c.in-Err.disk) c.in-Err.ensures.cause)

pub returns-in-Err-clause-images : goal.returns-in-Err-clause-images
returns-in-Err-clause-images g c = λ t.
    let may_leave = g.D.Disk.may_leave in
    let units = c.args.units.now in
    subst (λ f. LeavesFile units f (may_leave c.args.disk) (may_leave c.in-Err.disk)) (sym c.file_fault_of.ensures)
    (file_left units c.in-Err.fault (may_leave c.args.disk) (may_leave c.in-Err.disk) (c.in-Err.ensures.images t))
