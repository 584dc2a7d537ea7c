use Rattle.std.proofs.Common.{◌≡◌, ◌+◌, ◌++◌, ◌∷◌, [], ◌&&◌, ◌||◌, not, nat_eq, get_or, take, ap, sym, ◌∙◌}
use Rattle.std.specs.List.{list_any}
use Rattle.std.proofs.lemmas.List.{take_all, take_more}
use Rattle.std.proofs.lemmas.List.Folds.{list_any_more}
use Rattle.store_reading.specs.Intervals.{are_apart}
use Rattle.store_reading.proofs.Draws.{apart_push}
use Rattle.store_reading.proofs.level_rule.are_apart.Goals as goal

pub loop-number-preserved : goal.loop-number-preserved
loop-number-preserved c =
    let n = get_or c.args.numbers.now c.loop-number.number-index 0 in
    let before = take c.loop-number.number-index c.args.numbers.now in
    let front : before ++ n ∷ [] ≡ take (c.loop-number.number-index + 1) c.args.numbers.now =
    sym (take_more c.args.numbers.now c.loop-number.number-index 0 c.loop-number-test.true) in
    record {
      seen = λ m.
          c.in_ok-apart.ensures.seen m
          ∙ ap (λ b. b || nat_eq n m) (c.loop-number.invariant.seen m)
          ∙ sym (list_any_more (λ k. nat_eq k m) c.args.numbers.now c.loop-number.number-index 0 c.loop-number-test.true);
      apart =
          c.in_ok-apart.ensures.apart
          ∙ ap (λ b. c.loop-number.apart && not b) (c.loop-number.invariant.seen n)
          ∙ ap (λ b. b && not (list_any (λ k. nat_eq k n) before)) c.loop-number.invariant.apart
          ∙ sym (apart_push before n)
          ∙ ap are_apart front;
    }

pub returns : goal.returns
returns c = c.loop-number.invariant.apart ∙ ap are_apart (take_all c.loop-number.number-index c.args.numbers.now c.loop-number-test.false)
