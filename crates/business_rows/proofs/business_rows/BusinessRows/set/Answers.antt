use Rattle.std.proofs.Common.{◌≤◌, Some, sym, ap, subst, ◌∙◌, arith}
use Rattle.std.specs.FinMap.{insert}
use Rattle.module_effects.specs.Rows.{RowName}
use Rattle.business_rows.specs.Keys.{name_of}
use Rattle.business_rows.specs.Kept.{RowsView}
use Rattle.business_rows.proofs.KeptRows.{row_put, where_done}
use Rattle.business_rows.proofs.business_rows.BusinessRows.set.Goals as goal

pub returns-clause-tables : goal.returns-clause-tables
returns-clause-tables c =
    let row : RowName = name_of c.args.key in
    let text = c.args.text in
    let room = subst (λ (v : RowsView). 1 ≤ v.room) (sym c.self.view_is) c.requires in
    let updates = where_done c.insert.result (c.insert.ensures.succeeds (omega (arith, room))) c.insert.ensures.updates in
    row_put c.self.inside.texts c.insert.new.self row (Some text) (λ key. updates.0 key)
    ∙ ap (λ (v : RowsView). insert v.tables row text) c.self.view_is
