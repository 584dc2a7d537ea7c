use Rattle.std.proofs.Common.{length}
use Rattle.backup_file.proofs.Laying.{laid_both, laying_left}
use Rattle.backup_file.proofs.compacting.lay_log.Goals as goal

pub returns-in_err-write_through-clause-images : goal.returns-in_err-write_through-clause-images
returns-in_err-write_through-clause-images g c = λ t front l is rest.
    let disk = c.args.disk.now in
    laying_left c.args.place.now c.args.gate front l (g.D.Disk.reads disk) (g.D.Disk.may_leave disk) is rest c.args.at (length c.args.text.now) c.requires.free
    (g.D.Disk.may_leave c.write_through.new.disk) (c.write_through.ensures.left t)

pub returns-clause-images : goal.returns-clause-images
returns-clause-images g c = λ t front l is rest.
    let disk = c.args.disk.now in
    laying_left c.args.place.now c.args.gate front l (g.D.Disk.reads disk) (g.D.Disk.may_leave disk) is rest c.args.at (length c.args.text.now) c.requires.free
    (g.D.Disk.may_leave c.write_through.new.disk) (c.write_through.ensures.left t)

pub returns-clause-laid : goal.returns-clause-laid
returns-clause-laid g c = λ t front l is rest spelled leads.
    let disk = c.args.disk.now in
    laid_both c.args.place.now c.args.gate front l (g.D.Disk.reads disk) (g.D.Disk.may_leave disk) is rest c.args.at c.args.text.now
    (g.D.Disk.reads c.write_through.new.disk) (g.D.Disk.may_leave c.write_through.new.disk) c.requires.free spelled leads
    (c.in_ok-write_through.ensures.value t) (c.in_ok-write_through.ensures.durable t)
