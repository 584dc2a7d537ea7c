use Rattle.std.proofs.Common.{◌<◌, length, Some, refl, sym, ap, ◌∙◌, arith}
use Rattle.keeper_api.specs.declared.rows.Row.{Row}
use Rattle.sorted_rows.specs.Places.{entries_in}
use Rattle.sorted_rows.proofs.lemmas.Places.{find_here, value_row}
use Rattle.sorted_rows.proofs.table.value_of.Goals as goal

pub returns-in-At : goal.returns-in-At
returns-in-At c = λ table sorted.
    let within : c.in-At.i < length c.args.rows.now = omega (arith, c.in-At.ensures.inside) in
    find_here (table, c.args.key.now) (entries_in table c.args.rows.now) _ _ sorted (sym c.in-At.is ∙ c.place_of.ensures.place table sorted)
    (value_row table c.args.rows.now c.in-At.i c.index-rows-i.result within c.index-rows-i.is
    ∙ ap Some (ap (λ (x : Row). x.value) c.index-rows-i.is ∙ sym c.as_slice.ensures))

pub returns-in-Before : goal.returns-in-Before
returns-in-Before c = λ table sorted.
    find_here (table, c.args.key.now) (entries_in table c.args.rows.now) _ _ sorted (sym c.in-Before.is ∙ c.place_of.ensures.place table sorted) refl
