use Rattle.sorted_rows.proofs.lemmas.Views.{shown_new}
use Rattle.sorted_rows.proofs.sorted_rows.SortedRows.new.Goals as goal

pub returns : goal.returns
returns c = shown_new c.new.result.items c.new-2.result.items c.new.ensures.items c.new-2.ensures.items
