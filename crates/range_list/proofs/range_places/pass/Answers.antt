use Rattle.std.proofs.Common.{sym, ◌∙◌}
use Rattle.draw_laws.proofs.HandedOut.{none_passed, passed_at}
use Rattle.range_list.proofs.range_places.pass.Goals as goal

pub pass_at-requires : goal.pass_at-requires
pass_at-requires c =
    let is = passed_at c.args.num.now c.args.ranges.now c.in-Some.place c.requires.apart
    (sym (c.requires.places c.args.num.now.object c.args.num.now.nr) ∙ sym c.place_of.ensures ∙ c.in-Some.is) in
    record { within = is.within; room = c.requires.room }

pub returns-in-Some : goal.returns-in-Some
returns-in-Some c =
    let is = passed_at c.args.num.now c.args.ranges.now c.in-Some.place c.requires.apart
    (sym (c.requires.places c.args.num.now.object c.args.num.now.nr) ∙ sym c.place_of.ensures ∙ c.in-Some.is) in
    c.pass_at.ensures is.range is.found ∙ is.changed

pub returns-in_default : goal.returns-in_default
returns-in_default c =
    none_passed c.args.num.now c.args.ranges.now
    (sym (c.requires.places c.args.num.now.object c.args.num.now.nr) ∙ sym c.place_of.ensures ∙ c.in_default.is)
