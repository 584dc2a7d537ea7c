use Rattle.std.proofs.Common.{map, ap, sym, ◌∙◌}
use Rattle.script_actors.specs.declared.drawing.Drawing.{Drawing}
use Rattle.turn_desks.specs.Stocks.{are_of_stocks, numbers_by}
use Rattle.turn_desks.specs.Weaving.{noted}
use Rattle.actor_threads.specs.Working.{drawn_told}
use Rattle.actor_threads.proofs.Told.{nums_told}
use Rattle.actor_threads.proofs.actor.Actor.retire.Goals as goal

pub returns-clause-seats : goal.returns-clause-seats
returns-clause-seats g c =
    let parts = c.into_parts-pass.ensures in
    let same = c.numbers_of.ensures ∙ ap (λ ns. drawn_told (map noted ns)) c.as_slice.ensures.value in
    let nums = ap (map (λ (d : Drawing). d.num)) same ∙ nums_told (map noted c.into_parts-pass.result.2.items) ∙ sym parts.told in
    record {
      own = parts.at;
      numbers = ap (numbers_by g.S.Serving.stocks) nums ∙ parts.numbers;
      known = ap (are_of_stocks g.S.Serving.stocks) nums ∙ parts.known;
    }
