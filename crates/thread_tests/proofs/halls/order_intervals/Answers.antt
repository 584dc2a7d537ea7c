use Rattle.std.proofs.Common.{[], ◌∷◌, ◌++◌, sym, ap, ◌∙◌, subst}
use Rattle.ledger_steps.specs.Levels.{AreIntervals}
use Rattle.thread_tests.proofs.Apart.{three_apart}
use Rattle.thread_tests.proofs.halls.order_intervals.Goals as goal

pub returns : goal.returns
returns c =
    let i = c.order_interval.result in
    let j = c.long_interval.result in
    let k = c.short_interval.result in
    let one = c.in_ok-push.ensures.items ∙ ap (λ l. l ++ i ∷ []) c.new-intervals.ensures.items in
    let two = c.in_ok-push-2.ensures.items ∙ ap (λ l. l ++ j ∷ []) one in
    let three = c.in_ok-push-3.ensures.items ∙ ap (λ l. l ++ k ∷ []) two in
    subst AreIntervals (sym three)
    (three_apart i j k c.order_interval.ensures.unused c.long_interval.ensures.unused c.short_interval.ensures.unused
    c.order_interval.ensures.nr c.long_interval.ensures.nr c.short_interval.ensures.nr)
