use Rattle.std.proofs.Common.{ap, ◌∙◌}
use Rattle.number_stock.specs.Rule.{both_of}
use Rattle.number_stock.specs.Seats.{hand}
use Rattle.number_stock.proofs.lemmas.Apart.{heard_is, kept_none}
use Rattle.number_stock.proofs.stock.Stock.tell.Goals as goal

pub returns-clause-told : goal.returns-clause-told
returns-clause-told c =
    let cut = c.cut-given.ensures.cut in (
      cut.0 ∙ kept_none (hand c.args.from.now),
      heard_is (hand c.args.from.now) (hand c.args.to.now) _ (c.absorb.ensures.both ∙ ap (both_of (hand c.args.to.now)) cut.1) c.absorb.ensures.leads,
    )
