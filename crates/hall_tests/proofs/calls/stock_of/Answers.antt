use Rattle.std.proofs.Common.{◌∙◌, map, sym, ap, subst}
use Rattle.std.specs.List.{range_with_len}
use Rattle.std.proofs.lemmas.Result.{IfOk-weaker}
use Rattle.number_ranges.specs.declared.interval.Interval.{Interval}
use Rattle.ledger_steps.specs.Drawn.{num_of}
use Rattle.hall_model.specs.Stocks.{IsStockIn}
use Rattle.hall_tests.proofs.Reserved.{first_reserved}
use Rattle.hall_tests.proofs.calls.stock_of.Goals as goal

pub returns : goal.returns
returns c =
    let s = c.args.hall.now.state in
    let range = c.in_ok-range.range in
    let given = c.in_ok-interval.ensures in
    let shown = sym c.in_ok-range.ensures ∙ c.in_ok-ranges.ensures in
    let stock = first_reserved s _ s.ranges range c.args.first c.args.count c.read_invariant.ensures.steady.drawn shown given.buffered given.behind given.within in
    IfOk-weaker c.numbers_from.result _ _
    (λ numbers e. subst (IsStockIn s) (sym (e ∙ ap (λ (i : Interval). map (num_of i) (range_with_len c.args.first c.args.count)) given.interval)) stock)
    c.numbers_from.ensures
