use Rattle.std.proofs.Common.{◌<◌, ◌+◌, ◌^◌, IfSome, sym, subst, ◌∙◌}
use Rattle.ledger_steps.specs.declared.range.NumberRange.{NumberRange}
use Rattle.draw_laws.proofs.HandedOut.{handed_at, none_handed}
use Rattle.range_list.proofs.range_places.hand_out.Goals as goal

pub hand_out_at-requires : goal.hand_out_at-requires
hand_out_at-requires c =
    let is = handed_at c.args.object.now c.args.nr c.args.ranges.now c.in-Some.place c.requires.apart
    (sym (c.requires.places c.args.object.now c.args.nr) ∙ sym c.place_of.ensures ∙ c.in-Some.is) in
    record {
      within = is.within;
      room = subst (λ o. IfSome o (λ (r : NumberRange). r.next + 1 < 2 ^ 64)) (is.called ∙ sym is.found) c.requires.room;
    }

pub returns-in-Some : goal.returns-in-Some
returns-in-Some c =
    let is = handed_at c.args.object.now c.args.nr c.args.ranges.now c.in-Some.place c.requires.apart
    (sym (c.requires.places c.args.object.now c.args.nr) ∙ sym c.place_of.ensures ∙ c.in-Some.is) in
    c.hand_out_at.ensures is.range is.found ∙ is.changed

pub returns-in_default : goal.returns-in_default
returns-in_default c =
    none_handed c.args.object.now c.args.nr c.args.ranges.now
    (sym (c.requires.places c.args.object.now c.args.nr) ∙ sym c.place_of.ensures ∙ c.in_default.is)
