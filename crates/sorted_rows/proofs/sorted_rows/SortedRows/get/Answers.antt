use Rattle.std.proofs.Common.{Some, ap, ◌∙◌}
use Rattle.sorted_rows.specs.Tables.{entries_from}
use Rattle.sorted_rows.proofs.lemmas.Views.{got, sorted_same}
use Rattle.sorted_rows.proofs.sorted_rows.SortedRows.get.Goals as goal

pub returns-in_ok-copy_bytes-in-Some : goal.returns-in_ok-copy_bytes-in-Some
returns-in_ok-copy_bytes-in-Some c =
    let tables = c.self.inside.tables.items in
    let sorted = sorted_same tables c.as_slice.result.now (ap (entries_from 0) c.as_slice.ensures.value) c.self.invariant.0 in
    ap Some c.in_ok-copy_bytes-in-Some.ensures
    ∙ got tables c.as_slice.result.now c.args.self.now c.self.inside.waiting.items c.rows_in.result.now c.args.table c.args.key.now _ c.self.invariant.0
    c.as_slice.ensures.value c.self.view_is (c.rows_in.ensures.values c.args.key.now) (c.in-Some.ensures c.args.table (c.rows_in.ensures.sorted sorted))

pub returns-in-None : goal.returns-in-None
returns-in-None c =
    let tables = c.self.inside.tables.items in
    let sorted = sorted_same tables c.as_slice.result.now (ap (entries_from 0) c.as_slice.ensures.value) c.self.invariant.0 in
    got tables c.as_slice.result.now c.args.self.now c.self.inside.waiting.items c.rows_in.result.now c.args.table c.args.key.now _ c.self.invariant.0
    c.as_slice.ensures.value c.self.view_is (c.rows_in.ensures.values c.args.key.now) (c.in-None.ensures c.args.table (c.rows_in.ensures.sorted sorted))
