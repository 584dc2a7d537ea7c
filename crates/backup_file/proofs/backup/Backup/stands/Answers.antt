use Rattle.std.proofs.Common.{ap, ◌∙◌}
use Rattle.backup_file.specs.Lists.{is_known}
use Rattle.backup_file.proofs.backup.Backup.stands.Goals as goal

pub returns-clause-lists : goal.returns-clause-lists
returns-clause-lists g c = λ t l ready.
    c.holds.ensures ∙ ap (λ b. is_known c.args.unit.now b.units) c.self.view_is ∙ ready.units c.args.unit.now
