use Rattle.std.proofs.Common.{ap, ◌∙◌}
use Rattle.business_rows.specs.Kept.{RowsView}
use Rattle.business_rows.proofs.KeptRows.{same_kept}
use Rattle.business_rows.proofs.business_rows.BusinessRows.make_room.Goals as goal

pub returns-clause-tables : goal.returns-clause-tables
returns-clause-tables c =
    same_kept c.self.inside.texts c.reserve.new.self (λ key. c.reserve.ensures.entries.2 key) ∙ ap (λ (v : RowsView). v.tables) c.self.view_is
