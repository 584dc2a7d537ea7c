use Rattle.std.proofs.Common.{[], ◌∷◌, refl, ◌∙◌}
use Rattle.gate_log.proofs.Crash.{opened_crash, opened}
use Rattle.gate_log.proofs.Parts.{written_inside}
use Rattle.gate_log.proofs.adding.open.Goals as goal

pub returns-in_err-write_at-clause-images : goal.returns-in_err-write_at-clause-images
returns-in_err-write_at-clause-images g c = λ t front body synced is image left.
    let disk = c.args.disk.now in
    opened_crash (g.D.Disk.reads disk) (g.D.Disk.may_leave disk) c.args.gate front body synced c.args.open_gate.now (g.D.Disk.may_leave c.write_at.new.self) is
    (c.write_at.ensures.left t) image left

pub returns-in_err-sync-clause-images : goal.returns-in_err-sync-clause-images
returns-in_err-sync-clause-images g c = λ t front body synced is image left.
    let disk = c.args.disk.now in
    opened_crash (g.D.Disk.reads disk) (g.D.Disk.may_leave disk) c.args.gate front body synced c.args.open_gate.now (g.D.Disk.may_leave c.write_at.new.self) is
    (c.write_at.ensures.left t) image (c.sync.ensures.left t image left)

pub returns-clause-images : goal.returns-clause-images
returns-clause-images g c = λ t front body synced is image left.
    let disk = c.args.disk.now in
    opened_crash (g.D.Disk.reads disk) (g.D.Disk.may_leave disk) c.args.gate front body synced c.args.open_gate.now (g.D.Disk.may_leave c.write_at.new.self) is
    (c.write_at.ensures.left t) image (c.sync.ensures.left t image left)

pub returns-clause-opened : goal.returns-clause-opened
returns-clause-opened g c = λ t front body synced is.
    let disk = c.args.disk.now in
    opened (g.D.Disk.reads disk) (g.D.Disk.may_leave disk) c.args.gate front body synced c.args.open_gate.now (g.D.Disk.reads c.sync.new.self)
    (g.D.Disk.may_leave c.sync.new.self) is (c.in_ok-sync.ensures.same t ∙ c.in_ok-write_at.ensures.value t) (c.in_ok-sync.ensures.durable t)

pub returns-clause-grown : goal.returns-clause-grown
returns-clause-grown g c = λ t front behind byte whole place one.
    c.in_ok-sync.ensures.same t ∙ c.in_ok-write_at.ensures.value t
    ∙ written_inside front (byte ∷ []) behind (g.D.Disk.reads c.args.disk.now) whole c.args.gate 1 place refl c.args.open_gate.now one
