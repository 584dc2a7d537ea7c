use Rattle.std.proofs.Common.{◌<◌, length, arith, sym, ap, ◌∙◌}
use Rattle.sorted_rows.specs.Places.{entries_in, place_in}
use Rattle.sorted_rows.proofs.lemmas.Places.{put_here, entries-set, entries-insert, inserted}
use Rattle.sorted_rows.proofs.Searches.{placed}
use Rattle.sorted_rows.proofs.table.put_row.Goals as goal

pub returns-in-At-clause-put : goal.returns-in-At-clause-put
returns-in-At-clause-put c = λ table sorted.
    let items = c.args.rows.now.items in
    let within : c.in-At.i < length items = grind (arith, c.in-At.ensures.inside, c.as_slice.ensures.value) in
    put_here (table, c.args.key) (entries_in table items) c.args.value _ _
    (sym c.in-At.is ∙ placed _ _ c.as_slice.result.now items c.as_slice.ensures.value c.place_of.ensures.place table sorted
    ∙ ap (λ k. place_in (table, k) (entries_in table items)) c.as_slice-2.ensures)
    (entries-set table items c.in-At.i c.args.value c.index_mut.result.now within c.index_mut.ensures.value)

pub returns-in-Before-clause-put : goal.returns-in-Before-clause-put
returns-in-Before-clause-put c = λ table sorted.
    let items = c.args.rows.now.items in
    put_here (table, c.args.key) (entries_in table items) c.args.value _ _
    (sym c.in-Before.is ∙ placed _ _ c.as_slice.result.now items c.as_slice.ensures.value c.place_of.ensures.place table sorted
    ∙ ap (λ k. place_in (table, k) (entries_in table items)) c.as_slice-2.ensures)
    (ap (entries_in table) (c.insert.ensures.items ∙ inserted c.insert.result _ _ (c.insert.ensures.succeeds c.requires)) ∙ entries-insert table items _ _)
