use Rattle.std.proofs.Common.{◌≡◌, ◌+◌, List, arith, sym, ap, ◌∙◌, subst}
use Rattle.std.specs.FinMap.{find}
use Rattle.keeper_api.specs.Rows.{spot_cmp}
use Rattle.keeper_api.specs.declared.rows.Row.{Row}
use Rattle.sorted_rows.specs.Places.{entries_in, AreSorted}
use Rattle.sorted_rows.proofs.Numbered.{behind, find_table, find_no_table, page_table, page_no_table, sorted_table}
use Rattle.sorted_rows.proofs.tables.rows_in.Goals as goal

pub returns-clause-sorted : goal.returns-clause-sorted
returns-clause-sorted c = λ sorted.
    let at : c.args.table ≡ 0 + c.args.table = omega arith in
    subst (λ (rows : List Row). AreSorted (entries_in c.args.table rows)) (sym c.as_slice.ensures.value)
    (sorted_table c.args.table 0 c.args.table c.args.tables.now c.index-tables-number.result at (omega arith) c.index-tables-number.is sorted)

pub returns-clause-values : goal.returns-clause-values
returns-clause-values c = λ key.
    let at : c.args.table ≡ 0 + c.args.table = omega arith in
    find_table c.args.table 0 c.args.table key c.args.tables.now c.index-tables-number.result at (omega arith) c.index-tables-number.is
    ∙ ap (λ (rows : List Row). find spot_cmp (c.args.table, key) (entries_in c.args.table rows)) (sym c.as_slice.ensures.value)

pub returns-clause-behind : goal.returns-clause-behind
returns-clause-behind c = λ after.
    let at : c.args.table ≡ 0 + c.args.table = omega arith in
    page_table c.args.table 0 c.args.table after c.args.tables.now c.index-tables-number.result at (omega arith) c.index-tables-number.is
    ∙ ap (λ (rows : List Row). behind c.args.table after (entries_in c.args.table rows)) (sym c.as_slice.ensures.value)

pub returns-then-number-tables-clause-values : goal.returns-then-number-tables-clause-values
returns-then-number-tables-clause-values c = λ key.
    let at : c.args.table ≡ 0 + c.args.table = omega arith in
    find_no_table c.args.table 0 c.args.table key c.args.tables.now at (omega arith)

pub returns-then-number-tables-clause-behind : goal.returns-then-number-tables-clause-behind
returns-then-number-tables-clause-behind c = λ after.
    let at : c.args.table ≡ 0 + c.args.table = omega arith in
    page_no_table c.args.table 0 c.args.table after c.args.tables.now at (omega arith)
