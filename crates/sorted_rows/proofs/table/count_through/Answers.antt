use Rattle.std.proofs.Common.{◌≡◌, suc, ◌+◌, drop, sym, ap, ◌∙◌, arith}
use Rattle.sorted_rows.proofs.Searches.{rows_behind}
use Rattle.sorted_rows.proofs.table.count_through.Goals as goal

pub returns-in-At-clause-rest : goal.returns-in-At-clause-rest
returns-in-At-clause-rest c = λ table sorted.
    let one : suc c.in-At.i ≡ c.in-At.i + 1 = omega arith in
    rows_behind table c.args.key.now c.args.rows.now _ sorted (sym c.in-At.is ∙ c.place_of.ensures.place table sorted)
    ∙ ap (λ k. drop k c.args.rows.now) one

pub returns-in-Before-clause-rest : goal.returns-in-Before-clause-rest
returns-in-Before-clause-rest c = λ table sorted.
    rows_behind table c.args.key.now c.args.rows.now _ sorted (sym c.in-Before.is ∙ c.place_of.ensures.place table sorted)
