use Rattle.std.proofs.Common.{None, ap, ◌∙◌}
use Rattle.std.specs.FinMap.{remove}
use Rattle.module_effects.specs.Rows.{RowName}
use Rattle.business_rows.specs.Keys.{name_of}
use Rattle.business_rows.specs.Kept.{RowsView}
use Rattle.business_rows.proofs.KeptRows.{row_put}
use Rattle.business_rows.proofs.business_rows.BusinessRows.clear.Goals as goal

pub returns-clause-tables : goal.returns-clause-tables
returns-clause-tables c =
    let row : RowName = name_of c.args.key.now in
    row_put c.self.inside.texts c.remove.new.self row None (λ key. c.remove.ensures.updates.0 key)
    ∙ ap (λ (v : RowsView). remove v.tables row) c.self.view_is
