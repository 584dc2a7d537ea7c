use Rattle.std.proofs.Common.{◌≡◌, ap, subst, sym, ◌∙◌}
use Rattle.bk_disk.specs.Disk.{Follows}
use Rattle.backup_file.specs.File.{IsBad, IsNoOlder, IsShort, IsVersion2, Keeps, Stands}
use Rattle.backup_file.specs.Opening.{OnBad, StandsLater}
use Rattle.backup_file.proofs.Compacts.{lists_have}
use Rattle.backup_file.proofs.lemmas.Adding.{rest_stands}
use Rattle.backup_file.proofs.backup.Backup.reopen.Goals as goal

pub returns-in-Ok-clause-ready : goal.returns-in-Ok-clause-ready
returns-in-Ok-clause-ready g c = λ t.
    let found = c.in-Ok.found in
    let opened = c.in-Ok.ensures.at_rest t in
    record {
      stands = rest_stands found.lists.items opened.front (g.D.Disk.reads c.open_file.new.disk) (g.D.Disk.may_leave c.open_file.new.disk) found.gate
          (opened.place, opened.is_front) opened.at_rest;
      front = opened.front;
      is_front = (opened.place, opened.is_front);
      at_rest = opened.at_rest;
      units = c.in-Ok.ensures.units;
      compact = opened.same;
    }

pub returns-in-Ok-clause-some : goal.returns-in-Ok-clause-some
returns-in-Ok-clause-some g c = lists_have c.in-Ok.found.lists.items c.in-Ok.ensures.good

pub returns-in-Ok-clause-images : goal.returns-in-Ok-clause-images
returns-in-Ok-clause-images g c = λ t.
    subst (λ d. Follows Keeps (g.D.Disk.may_leave d) (g.D.Disk.may_leave c.open_file.new.disk)) (ap (λ b. b.disk) c.self.view_is ∙ c.shut.ensures.disk)
    (c.open_file.ensures.images t)

pub returns-in-Err-clause-images : goal.returns-in-Err-clause-images
returns-in-Err-clause-images g c = λ t.
    subst (λ d. Follows Keeps (g.D.Disk.may_leave d) (g.D.Disk.may_leave c.open_file.new.disk)) (ap (λ b. b.disk) c.self.view_is ∙ c.shut.ensures.disk)
    (c.open_file.ensures.images t)

pub returns-in-Ok-clause-lists : goal.returns-in-Ok-clause-lists
returns-in-Ok-clause-lists g c = λ t.
    subst (λ d. Stands (g.D.Disk.reads d) c.in-Ok.found.lists.items) (ap (λ b. b.disk) c.self.view_is ∙ c.shut.ensures.disk) (c.in-Ok.ensures.lists t)

pub returns-in-Ok-clause-stays : goal.returns-in-Ok-clause-stays
returns-in-Ok-clause-stays g c = λ t l second.
    let same = ap (λ b. b.disk) c.self.view_is ∙ c.shut.ensures.disk in
    subst (λ d. g.D.Disk.reads c.open_file.new.disk ≡ g.D.Disk.reads d) same
    (c.in-Ok.ensures.stays t l (subst (λ d. IsVersion2 (g.D.Disk.reads d) l) (sym same) second))

pub returns-in-Err-clause-bad : goal.returns-in-Err-clause-bad
returns-in-Err-clause-bad g c = λ t.
    subst (λ d. OnBad (λ at. IsBad (g.D.Disk.reads d) at × (g.D.Disk.reads c.open_file.new.disk ≡ g.D.Disk.reads d)) c.in-Err.fault)
    (ap (λ b. b.disk) c.self.view_is ∙ c.shut.ensures.disk) (c.in-Err.ensures.bad t)

pub returns-in-Ok-clause-anew : goal.returns-in-Ok-clause-anew
returns-in-Ok-clause-anew g c = λ t short.
    c.in-Ok.ensures.anew t (subst (λ d. IsShort (g.D.Disk.reads d)) (sym (ap (λ b. b.disk) c.self.view_is ∙ c.shut.ensures.disk)) short)

pub returns-in-Ok-clause-worn : goal.returns-in-Ok-clause-worn
returns-in-Ok-clause-worn g c = λ t.
    subst (λ d. IsNoOlder (g.D.Disk.reads d) (g.D.Disk.reads c.open_file.new.disk)) (ap (λ b. b.disk) c.self.view_is ∙ c.shut.ensures.disk)
    (c.in-Ok.ensures.worn t)

pub returns-in-Ok-clause-lasting : goal.returns-in-Ok-clause-lasting
returns-in-Ok-clause-lasting g c = λ t l stands.
    let same = ap (λ b. b.disk) c.self.view_is ∙ c.shut.ensures.disk in
    subst (λ d. StandsLater (g.D.Disk.may_leave d) (g.D.Disk.may_leave c.open_file.new.disk) l) same
    (c.open_file.ensures.lasting t l (subst (λ d. Stands (g.D.Disk.reads d) l) (sym same) stands))

pub returns-in-Err-clause-lasting : goal.returns-in-Err-clause-lasting
returns-in-Err-clause-lasting g c = λ t l stands.
    let same = ap (λ b. b.disk) c.self.view_is ∙ c.shut.ensures.disk in
    subst (λ d. StandsLater (g.D.Disk.may_leave d) (g.D.Disk.may_leave c.open_file.new.disk) l) same
    (c.open_file.ensures.lasting t l (subst (λ d. Stands (g.D.Disk.reads d) l) (sym same) stands))
