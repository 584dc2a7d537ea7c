use Rattle.std.proofs.Common.{◌+◌, [], ◌∷◌, ◌++◌, refl, sym, ap, ◌∙◌}
use Rattle.std.proofs.lemmas.List.FromFn.{map-range_with_len_more}
use Rattle.ledger_steps.specs.Drawn.{num_of}
use Rattle.hall_tests.proofs.calls.numbers_from.Goals as goal

pub loop-done-preserved : goal.loop-done-preserved
loop-done-preserved c =
    let i = c.args.interval.now in
    let number = c.args.first + c.loop-done.done in
    c.in_ok-push.ensures.items
    ∙ ap (λ ns. ns ++ num_of i number ∷ []) c.loop-done.invariant
    ∙ sym (map-range_with_len_more (num_of i) c.args.first c.loop-done.done number refl)
