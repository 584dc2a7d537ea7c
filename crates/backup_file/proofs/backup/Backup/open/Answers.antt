use Rattle.std.proofs.Common.{◌≡◌, subst, sym}
use Rattle.backup_file.specs.File.{IsBad, IsShort, IsVersion2, Stands}
use Rattle.backup_file.specs.Opening.{OnBad, StandsLater}
use Rattle.backup_file.proofs.backup.Backup.open.Goals as goal

pub returns-in-Ok-clause-lists : goal.returns-in-Ok-clause-lists
returns-in-Ok-clause-lists g c = λ t.
    subst (λ d. Stands (g.D.Disk.reads d) c.in-Ok.lists.items) c.unread-backup.ensures.disk (c.in-Ok.ensures.lists t)

pub returns-in-Ok-clause-stays : goal.returns-in-Ok-clause-stays
returns-in-Ok-clause-stays g c = λ t l second.
    let same = c.unread-backup.ensures.disk in
    subst (λ d. g.D.Disk.reads c.reopen.new.self.disk ≡ g.D.Disk.reads d) same
    (c.in-Ok.ensures.stays t l (subst (λ d. IsVersion2 (g.D.Disk.reads d) l) (sym same) second))

pub returns-in-Err-clause-bad : goal.returns-in-Err-clause-bad
returns-in-Err-clause-bad g c = λ t.
    let back = sym c.into_disk.ensures in
    subst (λ e. OnBad (λ at. IsBad (g.D.Disk.reads c.args.disk) at × (g.D.Disk.reads e ≡ g.D.Disk.reads c.args.disk)) c.in-Err.fault) back
    (subst (λ d. OnBad (λ at. IsBad (g.D.Disk.reads d) at × (g.D.Disk.reads c.reopen.new.self.disk ≡ g.D.Disk.reads d)) c.in-Err.fault)
    c.unread-backup.ensures.disk (c.in-Err.ensures.bad t))

pub returns-in-Ok-clause-anew : goal.returns-in-Ok-clause-anew
returns-in-Ok-clause-anew g c = λ t short.
    c.in-Ok.ensures.anew t (subst (λ d. IsShort (g.D.Disk.reads d)) (sym c.unread-backup.ensures.disk) short)

pub returns-in-Ok-clause-lasting : goal.returns-in-Ok-clause-lasting
returns-in-Ok-clause-lasting g c = λ t l stands.
    let same = c.unread-backup.ensures.disk in
    subst (λ d. StandsLater (g.D.Disk.may_leave d) (g.D.Disk.may_leave c.reopen.new.self.disk) l) same
    (c.reopen.ensures.lasting t l (subst (λ d. Stands (g.D.Disk.reads d) l) (sym same) stands))

pub returns-in-Err-clause-lasting : goal.returns-in-Err-clause-lasting
returns-in-Err-clause-lasting g c = λ t l stands.
    let same = c.unread-backup.ensures.disk in
    subst (λ e. StandsLater (g.D.Disk.may_leave c.args.disk) (g.D.Disk.may_leave e) l) (sym c.into_disk.ensures)
    (subst (λ d. StandsLater (g.D.Disk.may_leave d) (g.D.Disk.may_leave c.reopen.new.self.disk) l) same
    (c.reopen.ensures.lasting t l (subst (λ d. Stands (g.D.Disk.reads d) l) (sym same) stands)))
