use Rattle.std.proofs.Common.{◌≡◌, true, false, sym, ◌∙◌, arith}
use Rattle.std.specs.Ordering.{nat_cmp, is_eq}
use Rattle.std.specs.Cmp.Lexicographic.{slice_cmp}
use Rattle.sorted_rows.proofs.Searches.{parted, place_at, place_off, place_end}
use Rattle.sorted_rows.proofs.table.place_of.Goals as goal

pub returns-then-count-rows-clause-place : goal.returns-then-count-rows-clause-place
returns-then-count-rows-clause-place c = λ table sorted.
    let rows = c.args.rows.now in
    let key = c.args.key.now in
    place_end table key rows c.count_before-count.result c.count_before-count.ensures.within (omega arith)
    (c.count_before-count.ensures.parted (parted table key rows sorted))

pub returns-then-is_at-clause-place : goal.returns-then-is_at-clause-place
returns-then-is_at-clause-place c = λ table sorted.
    let rows = c.args.rows.now in
    let key = c.args.key.now in
    let row = c.index-rows-count.result in
    let same : is_eq (slice_cmp nat_cmp row.key key) ≡ true = sym c.is_at.ensures ∙ c.if-is_at.true in
    place_at table key rows c.count_before-count.result row (omega arith) c.index-rows-count.is same
    (c.count_before-count.ensures.parted (parted table key rows sorted))

pub returns-else-is_at-clause-place : goal.returns-else-is_at-clause-place
returns-else-is_at-clause-place c = λ table sorted.
    let rows = c.args.rows.now in
    let key = c.args.key.now in
    let row = c.index-rows-count.result in
    let other : is_eq (slice_cmp nat_cmp row.key key) ≡ false = sym c.is_at.ensures ∙ c.if-is_at.false in
    place_off table key rows c.count_before-count.result row (omega arith) c.index-rows-count.is other
    (c.count_before-count.ensures.parted (parted table key rows sorted))
