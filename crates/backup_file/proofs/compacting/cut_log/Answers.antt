use Rattle.backup_file.proofs.Laying.{cut_now, cutting_left}
use Rattle.backup_file.proofs.compacting.cut_log.Goals as goal

pub returns-in_err-cut_through-clause-images : goal.returns-in_err-cut_through-clause-images
returns-in_err-cut_through-clause-images g c = λ t p rest l offset laid force has starts ends.
    let disk = c.args.disk.now in
    cutting_left p rest l offset (g.D.Disk.reads disk) (g.D.Disk.may_leave disk) laid force has starts c.args.end ends
    (g.D.Disk.may_leave c.cut_through.new.disk) (c.cut_through.ensures.left t)

pub returns-clause-images : goal.returns-clause-images
returns-clause-images g c = λ t p rest l offset laid force has starts ends.
    let disk = c.args.disk.now in
    cutting_left p rest l offset (g.D.Disk.reads disk) (g.D.Disk.may_leave disk) laid force has starts c.args.end ends
    (g.D.Disk.may_leave c.cut_through.new.disk) (c.cut_through.ensures.left t)

pub returns-clause-cut : goal.returns-clause-cut
returns-clause-cut g c = λ t p rest l offset laid force has starts ends.
    let disk = c.args.disk.now in
    cut_now p rest l offset (g.D.Disk.reads disk) (g.D.Disk.may_leave disk) laid force has starts c.args.end ends
    (g.D.Disk.reads c.cut_through.new.disk) (g.D.Disk.may_leave c.cut_through.new.disk) (c.in_ok-cut_through.ensures.value t)
    (c.in_ok-cut_through.ensures.short t) (c.in_ok-cut_through.ensures.durable t)
