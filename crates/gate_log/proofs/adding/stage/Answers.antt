use Rattle.std.proofs.Common.{◌≡◌, ◌+◌, [], ◌∷◌, ◌++◌, length, ap, arith, ◌∙◌, append_assoc, length-append}
use Rattle.bk_disk.specs.Disk.{written}
use Rattle.gate_log.proofs.Crash.{staged_crash, staged}
use Rattle.gate_log.proofs.Parts.{written_last}
use Rattle.gate_log.proofs.adding.stage.Goals as goal

pub returns-in_err-write_at-clause-images : goal.returns-in_err-write_at-clause-images
returns-in_err-write_at-clause-images g c = λ t front rest image left.
    let disk = c.args.disk.now in
    let at : c.saturating_add.result ≡ c.args.gate + 1 = omega (arith, rest.fits) in
    staged_crash (g.D.Disk.reads disk) (g.D.Disk.may_leave disk) c.args.gate front rest c.saturating_add.result (length c.args.behind.now)
    (g.D.Disk.may_leave c.write_at.new.self) at (c.write_at.ensures.left t) image left

pub returns-in_err-sync-clause-images : goal.returns-in_err-sync-clause-images
returns-in_err-sync-clause-images g c = λ t front rest image left.
    let disk = c.args.disk.now in
    let at : c.saturating_add.result ≡ c.args.gate + 1 = omega (arith, rest.fits) in
    staged_crash (g.D.Disk.reads disk) (g.D.Disk.may_leave disk) c.args.gate front rest c.saturating_add.result (length c.args.behind.now)
    (g.D.Disk.may_leave c.write_at.new.self) at (c.write_at.ensures.left t) image (c.sync.ensures.left t image left)

pub returns-clause-images : goal.returns-clause-images
returns-clause-images g c = λ t front rest image left.
    let disk = c.args.disk.now in
    let at : c.saturating_add.result ≡ c.args.gate + 1 = omega (arith, rest.fits) in
    staged_crash (g.D.Disk.reads disk) (g.D.Disk.may_leave disk) c.args.gate front rest c.saturating_add.result (length c.args.behind.now)
    (g.D.Disk.may_leave c.write_at.new.self) at (c.write_at.ensures.left t) image (c.sync.ensures.left t image left)

pub returns-clause-staged : goal.returns-clause-staged
returns-clause-staged g c = λ t front rest.
    let disk = c.args.disk.now in
    let at : c.saturating_add.result ≡ c.args.gate + 1 = omega (arith, rest.fits) in
    staged (g.D.Disk.reads disk) (g.D.Disk.may_leave disk) c.args.gate front rest c.saturating_add.result c.args.behind.now (g.D.Disk.reads c.sync.new.self)
    (g.D.Disk.may_leave c.sync.new.self) at (c.in_ok-sync.ensures.same t ∙ c.in_ok-write_at.ensures.value t)
    (omega (arith, c.in_ok-write_at.ensures.fits t)) (c.in_ok-sync.ensures.durable t)

pub returns-clause-grown : goal.returns-clause-grown
returns-clause-grown g c = λ t front byte whole place.
    let was = g.D.Disk.reads c.args.disk.now in
    let at : c.saturating_add.result ≡ c.args.gate + 1 = omega (arith, c.in_ok-write_at.ensures.fits t) in
    let behind = c.args.behind.now in
    c.in_ok-sync.ensures.same t ∙ c.in_ok-write_at.ensures.value t ∙ ap (λ n. written was n behind) at
    ∙ written_last (front ++ byte ∷ []) was whole (c.args.gate + 1) (omega (arith, length-append front (byte ∷ []), place)) behind
    ∙ append_assoc front (byte ∷ []) behind
