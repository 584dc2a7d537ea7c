use Rattle.std.proofs.Common.{◌≡◌, [], ap, subst, ◌∙◌}
use Rattle.std.specs.Option.{option_or}
use Rattle.store_reading.specs.First.{first_wrong}
use Rattle.store_reading.specs.Intervals.{committed, is_right_level, missing_level}
use Rattle.store_reading.specs.Standings.{AreNumbers}
use Rattle.store_reading.proofs.level_rule.level_fault.Goals as goal

pub returns : goal.returns
returns c =
    let all = committed c.args.headers.now c.args.marks.now in
    let is : c.as_slice.result.now ≡ all = c.as_slice.ensures.value ∙ c.in_ok-numbers.ensures in
    let lists : AreNumbers c.in_ok-lists.lists all = subst (AreNumbers c.in_ok-lists.lists) is c.in_ok-lists.ensures in
    c.or.ensures
    ∙ ap (λ o. option_or o c.missing_level.result) (c.in_ok-wrong.ensures all lists)
    ∙ ap (option_or (first_wrong (λ before. is_right_level all) 5 [] c.args.levels.now))
    (c.missing_level.ensures c.in_ok-stored.ensures ∙ ap (missing_level c.args.levels.now) (c.as_slice-2.ensures.value ∙ c.in_ok-numbers.ensures))
