use Rattle.std.proofs.Common.{cond, Some, ap, ◌∙◌}
use Rattle.std.specs.FinMap.{insert}
use Rattle.std.specs.HashMap as hashed
use Rattle.module_effects.specs.Rows.{RowName}
use Rattle.business_rows.specs.Keys.{same_key}
use Rattle.business_rows.specs.Kept.{RowsView}
use Rattle.business_rows.proofs.KeptRows.{row_put}
use Rattle.business_rows.proofs.business_rows.BusinessRows.insert.Goals as goal

pub returns-in-Ok : goal.returns-in-Ok
returns-in-Ok c =
    let row : RowName = (c.args.table.now, c.args.key.now) in
    row_put c.self.inside.texts c.insert.new.self row (Some c.args.text)
    (λ key. c.in-Ok.ensures.updates.0 key
    ∙ ap (λ k. cond (same_key k key) (Some c.args.text) (hashed.get same_key c.self.inside.texts key)) c.key_of.ensures)
    ∙ ap (λ (v : RowsView). insert v.tables row c.args.text) c.self.view_is
