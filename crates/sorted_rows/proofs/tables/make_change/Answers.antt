use Rattle.std.proofs.Common.{sym, ap, ◌∙◌}
use Rattle.std.specs.FinMap.{remove}
use Rattle.keeper_api.specs.Batch.{changed_once}
use Rattle.sorted_rows.specs.Tables.{entries_from, rows_of}
use Rattle.sorted_rows.proofs.lemmas.Views.{sorted_put, view_put, sorted_remove, view_remove}
use Rattle.sorted_rows.proofs.tables.make_change.Goals as goal

pub returns-in-Put-clause-sorted : goal.returns-in-Put-clause-sorted
returns-in-Put-clause-sorted c = sorted_put (entries_from 0 c.args.tables.now.items) _
    (c.in-Put.table, c.in-Put.key) c.in-Put.value c.requires.sorted c.put_into.ensures.put

pub returns-in-Put-clause-made : goal.returns-in-Put-clause-made
returns-in-Put-clause-made c =
    let tables = c.args.tables.now.items in
    view_put (entries_from 0 tables) _ (c.in-Put.table, c.in-Put.key) c.in-Put.value c.requires.sorted c.put_into.ensures.put
    ∙ ap (λ change. changed_once change (rows_of tables)) (sym c.in-Put.is)

pub returns-in-Del-clause-sorted : goal.returns-in-Del-clause-sorted
returns-in-Del-clause-sorted c = sorted_remove (entries_from 0 c.args.tables.now.items) _
    (c.in-Del.table, c.as_slice.result.now) c.requires.sorted c.remove_from.ensures.gone

pub returns-in-Del-clause-made : goal.returns-in-Del-clause-made
returns-in-Del-clause-made c =
    let tables = c.args.tables.now.items in
    view_remove (entries_from 0 tables) _ (c.in-Del.table, c.as_slice.result.now) c.requires.sorted c.remove_from.ensures.gone
    ∙ ap (λ key. remove (rows_of tables) (c.in-Del.table, key)) c.as_slice.ensures
    ∙ ap (λ change. changed_once change (rows_of tables)) (sym c.in-Del.is)
