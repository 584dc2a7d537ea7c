use Rattle.std.proofs.Common.{◌≡◌, Some, None, sym, ◌∙◌, true, subst, arith}
use Rattle.draw_laws.proofs.HandedOut.{handed_at}
use Rattle.std.proofs.lemmas.Option.{same_Some}
use Rattle.ledger_steps.specs.declared.range.NumberRange.{NumberRange}
use Rattle.number_ranges.specs.Intervals.{is_named}
use Rattle.range_list.proofs.NextPlaces.{named_found, none_behind, not_named}
use Rattle.range_list.proofs.range_places.place_from.Goals as goal

pub returns-in-Some-clause-high : goal.returns-in-Some-clause-high
returns-in-Some-clause-high c =
    let num = c.args.num.now in
    let is = handed_at num.object num.nr c.args.ranges.now c.in-Some.place c.requires.apart
    (sym (c.requires.places num.object num.nr) ∙ sym c.place_of.ensures ∙ c.in-Some.is) in
    omega (arith, is.within)

pub returns-in-Some-clause-none : goal.returns-in-Some-clause-none
returns-in-Some-clause-none c k r from before at =
    let num = c.args.num.now in
    not_named num.object num.nr c.args.ranges.now (Some c.in-Some.place) k r c.requires.apart
    (sym (c.requires.places num.object num.nr) ∙ sym c.place_of.ensures ∙ c.in-Some.is)
    (λ same. omega (arith, same, before)) at

pub returns-in_default-clause-none : goal.returns-in_default-clause-none
returns-in_default-clause-none c k r from before at =
    let num = c.args.num.now in
    not_named num.object num.nr c.args.ranges.now (Some c.in-Some.place) k r c.requires.apart
    (sym (c.requires.places num.object num.nr) ∙ sym c.place_of.ensures ∙ c.in-Some.is)
    (λ same. omega (arith, same, from, c.if-place-from.false)) at

pub returns-in_default-2-clause-none : goal.returns-in_default-2-clause-none
returns-in_default-2-clause-none c k r from before at =
    let num = c.args.num.now in
    not_named num.object num.nr c.args.ranges.now None k r c.requires.apart
    (sym (c.requires.places num.object num.nr) ∙ sym c.place_of.ensures ∙ c.in_default.is)
    (λ never. never) at

pub returns-in-Some-clause-some : goal.returns-in-Some-clause-some
returns-in-Some-clause-some c r at =
    let num = c.args.num.now in
    let is = handed_at num.object num.nr c.args.ranges.now c.in-Some.place c.requires.apart
    (sym (c.requires.places num.object num.nr) ∙ sym c.place_of.ensures ∙ c.in-Some.is) in
    let same : is.range ≡ r = same_Some is.range r (sym is.found ∙ at) in
    subst (λ (y : NumberRange). is_named num.object num.nr y.interval ≡ true) same (named_found c.args.ranges.now num.object num.nr is.range is.called)

pub returns-in_default-clause-some : goal.returns-in_default-clause-some
returns-in_default-clause-some c r at = absurd (none_behind c.args.ranges.now r at)

pub returns-in_default-2-clause-some : goal.returns-in_default-2-clause-some
returns-in_default-2-clause-some c r at = absurd (none_behind c.args.ranges.now r at)
