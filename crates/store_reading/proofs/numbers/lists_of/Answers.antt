use Rattle.std.proofs.Common.{◌≡◌, ◌+◌, ◌++◌, ◌∷◌, [], take, if◌then◌else◌, ap, sym, subst, ◌∙◌}
use Rattle.std.proofs.lemmas.List.{take_all, take_more}
use Rattle.update_records.specs.Business.{is_from, numbers_from}
use Rattle.store_reading.specs.Standings.{AreNumbers}
use Rattle.store_reading.proofs.Draws.{numbers_push}
use Rattle.store_reading.proofs.numbers.lists_of.Goals as goal

pub loop-num-preserved : goal.loop-num-preserved
loop-num-preserved c = λ name.
    let num = c.num-item.result in
    let before = take c.loop-num.num-index c.args.numbers.now in
    let front : before ++ num ∷ [] ≡ take (c.loop-num.num-index + 1) c.args.numbers.now =
    ap (λ x. before ++ x ∷ []) c.num-item.is ∙ sym (take_more c.args.numbers.now c.loop-num.num-index num c.loop-num-test.true) in
    c.in_ok-add_number.ensures name
    ∙ ap (λ ns. if is_from name num then ns ++ num.number ∷ [] else ns) (c.loop-num.invariant name)
    ∙ sym (numbers_push name before num)
    ∙ ap (numbers_from name) front

pub returns : goal.returns
returns c = subst (AreNumbers c.loop-num.lists) (take_all c.loop-num.num-index c.args.numbers.now c.loop-num-test.false) c.loop-num.invariant
