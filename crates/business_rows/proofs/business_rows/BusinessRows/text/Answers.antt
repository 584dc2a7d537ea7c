use Rattle.std.proofs.Common.{sym, ap, ◌∙◌}
use Rattle.std.specs.FinMap.{get}
use Rattle.std.specs.HashMap as hashed
use Rattle.module_effects.specs.Rows.{RowName}
use Rattle.business_rows.specs.Keys.{same_key}
use Rattle.business_rows.specs.Kept.{RowsView}
use Rattle.business_rows.proofs.KeptRows.{kept_row}
use Rattle.business_rows.proofs.business_rows.BusinessRows.text.Goals as goal

pub returns : goal.returns
returns c =
    let row : RowName = (c.args.table.now, c.args.key.now) in
    c.get.ensures.value
    ∙ ap (λ k. hashed.get same_key c.self.inside.texts k) c.key_of.ensures
    ∙ sym (kept_row c.self.inside.texts row)
    ∙ ap (λ (v : RowsView). get v.tables row) c.self.view_is
