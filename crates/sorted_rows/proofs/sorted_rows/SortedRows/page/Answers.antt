use Rattle.std.proofs.Common.{ap}
use Rattle.sorted_rows.specs.Tables.{entries_from}
use Rattle.sorted_rows.proofs.lemmas.Views.{paged, page_shape, sorted_same}
use Rattle.sorted_rows.proofs.sorted_rows.SortedRows.page.Goals as goal

pub returns-clause-rows : goal.returns-clause-rows
returns-clause-rows c =
    let tables = c.self.inside.tables.items in
    let sorted = sorted_same tables c.as_slice.result.now (ap (entries_from 0) c.as_slice.ensures.value) c.self.invariant.0 in
    paged c.page_behind.result tables c.as_slice.result.now c.args.self.now c.self.inside.waiting.items c.rows_in.result.now c.args.table c.args.after.now
    c.args.n c.self.invariant.0 c.as_slice.ensures.value c.self.view_is (c.rows_in.ensures.behind c.args.after.now)
    (c.page_behind.ensures c.args.table (c.rows_in.ensures.sorted sorted))

pub returns-clause-shape : goal.returns-clause-shape
returns-clause-shape c =
    let tables = c.self.inside.tables.items in
    let sorted = sorted_same tables c.as_slice.result.now (ap (entries_from 0) c.as_slice.ensures.value) c.self.invariant.0 in
    page_shape c.page_behind.result c.rows_in.result.now c.args.table c.args.after.now c.args.n (c.rows_in.ensures.sorted sorted)
    (c.page_behind.ensures c.args.table (c.rows_in.ensures.sorted sorted))
