use Rattle.std.proofs.Common.{◌≡◌, sym, subst, ◌∙◌}
use Rattle.std.proofs.lemmas.Result.{IfOk-weaker, on_ok_weaker}
use Rattle.bk_disk.specs.Disk.{FitsDisk}
use Rattle.backup_file.proofs.opening.read_file.Goals as goal

pub returns-clause-value : goal.returns-clause-value
returns-clause-value g c = λ t.
    IfOk-weaker c.read_all.result (λ b. b.items ≡ g.D.Disk.reads c.sync.new.self) (λ b. b.items ≡ g.D.Disk.reads c.args.disk.now)
    (λ b is. is ∙ c.in_ok-sync.ensures.same t) (c.read_all.ensures.value t)

pub returns-clause-same : goal.returns-clause-same
returns-clause-same g c = λ t. on_ok_weaker c.read_all.result (λ same. same ∙ c.in_ok-sync.ensures.same t) (c.read_all.ensures.same t)

pub returns-clause-fits : goal.returns-clause-fits
returns-clause-fits g c = λ t. on_ok_weaker c.read_all.result (λ same. subst FitsDisk (sym same) (c.in_ok-sync.ensures.short t)) (c.read_all.ensures.same t)

pub returns-clause-durable : goal.returns-clause-durable
returns-clause-durable g c = λ t.
    on_ok_weaker c.read_all.result (λ same image left. c.in_ok-sync.ensures.durable t image (c.read_all.ensures.left t image left) ∙ sym same)
    (c.read_all.ensures.same t)

pub returns-clause-left : goal.returns-clause-left
returns-clause-left g c = λ t image left. c.sync.ensures.left t image (c.read_all.ensures.left t image left)
