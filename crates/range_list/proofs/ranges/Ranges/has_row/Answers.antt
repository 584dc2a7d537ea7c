use Rattle.std.proofs.Common.{false, sym, ap, subst, ◌∙◌}
use Rattle.std.specs.Option.{option_copied, option_map_or}
use Rattle.ledger_steps.specs.Levels.{AreApart, intervals_of, is_row_of}
use Rattle.ledger_steps.specs.declared.range.NumberRange.{NumberRange}
use Rattle.range_list.proofs.FoundByPlace.{fits_found}
use Rattle.range_list.proofs.ranges.Ranges.has_row.Goals as goal

pub returns-in-Some : goal.returns-in-Some
returns-in-Some c =
    let apart = subst (λ ranges. AreApart (intervals_of ranges)) c.self.view_is c.self.invariant.0.apart in
    c.is_row_of.ensures
    ∙ ap (λ found. option_map_or (λ (r : NumberRange). is_row_of c.args.row.now r.interval) found false) (sym (ap option_copied c.in-Some.is) ∙ c.find.ensures)
    ∙ sym (fits_found c.args.row.now c.args.self.now apart)

pub returns-in-None : goal.returns-in-None
returns-in-None c =
    let apart = subst (λ ranges. AreApart (intervals_of ranges)) c.self.view_is c.self.invariant.0.apart in
    ap (λ found. option_map_or (λ (r : NumberRange). is_row_of c.args.row.now r.interval) found false) (sym (ap option_copied c.in-None.is) ∙ c.find.ensures)
    ∙ sym (fits_found c.args.row.now c.args.self.now apart)
