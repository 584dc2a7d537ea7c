use Rattle.std.proofs.Common.{◌∷◌, ◌++◌, [], List, map, take, sym, ap, ◌∙◌}
use Rattle.std.proofs.lemmas.List.{take_more}
use Rattle.hall_model.specs.declared.command.Who.{Who}
use Rattle.turn_desks.specs.Stocks.{StockFact, fact_of}
use Rattle.thread_runner.proofs.Equipped.{kits_more, kits_who}
use Rattle.thread_runner.proofs.equipping.equip_all.Goals as goal

pub loop-who-preserved : goal.loop-who-preserved
loop-who-preserved g c =
    let inv = c.loop-who.invariant in
    let facts : List StockFact = map fact_of c.args.stocks.now in
    let callers : List Who = c.args.callers.now in
    let place = c.loop-who.who-index in
    let call = c.in_ok-kit.ensures in
    let kit = c.in_ok-kit.kit in
    let was = c.loop-who.kits.items in
    let now = c.push_back.new.self.items in
    let items = c.in_ok-push_back.ensures.items in
    record {
      rights = call.rights;
      limits = call.limits ∙ inv.limits;
      handed = call.handed ∙ inv.handed;
      who = kits_who was now kit (take place callers) c.who-item.result items inv.who call.who
          ∙ sym (take_more callers place c.who-item.result c.loop-who-test.true ∙ ap (λ w. take place callers ++ w ∷ []) (sym c.who-item.is));
      kits = λ intervals apart land cover.
          kits_more intervals facts c.args.lines.now was now kit items (inv.kits intervals apart land cover) (call.kit intervals apart land cover);
    }
