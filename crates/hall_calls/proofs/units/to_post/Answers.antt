use Rattle.std.proofs.Common.{length, sym, ap, ◌∙◌}
use Rattle.std.specs.Prelude.{nat_le}
use Rattle.hall_calls.specs.Marking.{unit_to_post}
use Rattle.hall_calls.proofs.units.to_post.Goals as goal

pub returns-in_default : goal.returns-in_default
returns-in_default g c =
    let limit = c.args.call.max_marks in
    sym (ap (unit_to_post (nat_le limit (length c.args.books.now.ledger.marks)) limit) (sym c.order_for.ensures ∙ c.in_default.is))

pub returns-then-is_full : goal.returns-then-is_full
returns-then-is_full g c =
    sym (λ i. unit_to_post ((sym c.is_full.ensures ∙ c.if-is_full.true) i) c.args.call.max_marks ((sym c.order_for.ensures ∙ c.in-Some.is) i))

pub returns : goal.returns
returns g c =
    sym (λ i. unit_to_post ((sym c.is_full.ensures ∙ c.if-is_full.false) i) c.args.call.max_marks ((sym c.order_for.ensures ∙ c.in-Some.is) i))
