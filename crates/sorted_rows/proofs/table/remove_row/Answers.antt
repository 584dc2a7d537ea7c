use Rattle.std.proofs.Common.{sym, refl, ap, ◌∙◌}
use Rattle.sorted_rows.specs.Places.{entries_in}
use Rattle.sorted_rows.proofs.lemmas.Places.{remove_here, entries-remove}
use Rattle.sorted_rows.proofs.Searches.{placed}
use Rattle.sorted_rows.proofs.table.remove_row.Goals as goal

pub returns-in-At-clause-gone : goal.returns-in-At-clause-gone
returns-in-At-clause-gone c = λ table sorted.
    let items = c.args.rows.now.items in
    remove_here (table, c.args.key.now) (entries_in table items) _ _ sorted
    (sym c.in-At.is ∙ placed _ c.args.key.now c.as_slice.result.now items c.as_slice.ensures.value c.place_of.ensures.place table sorted)
    (ap (entries_in table) c.remove.ensures.items ∙ entries-remove table items c.in-At.i)

pub returns-in_default-clause-gone : goal.returns-in_default-clause-gone
returns-in_default-clause-gone c = λ table sorted.
    let items = c.args.rows.now.items in
    remove_here (table, c.args.key.now) (entries_in table items) _ _ sorted
    (sym c.in_default.is ∙ placed _ c.args.key.now c.as_slice.result.now items c.as_slice.ensures.value c.place_of.ensures.place table sorted)
    refl
