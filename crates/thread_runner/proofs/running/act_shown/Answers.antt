use Rattle.std.proofs.Common.{◌≡◌, ◌+◌, List, [], length, map, ap, arith, sym, ◌∙◌, subst}
use Rattle.std.proofs.Math.Logic.{∥∥₁_map}
use Rattle.std.specs.List.{AllByRecursion}
use Rattle.std.specs.List.Sorted.{IsPermutation}
use Rattle.actor_threads.specs.declared.actor.Deed.{Deed}
use Rattle.caller_laws.specs.Callers.{AreDistinct}
use Rattle.gauges.specs.declared.board.GaugePass.{GaugePass}
use Rattle.hall_model.specs.State.{State}
use Rattle.hall_model.specs.declared.command.PastEntry.{PastEntry}
use Rattle.hall_model.specs.declared.command.Who.{Who}
use Rattle.ledger_steps.specs.Levels.{AreIntervals, level_in}
use Rattle.script_actors.specs.Actors.{Land, land_of}
use Rattle.script_actors.specs.declared.drawing.Drawing.{Drawing}
use Rattle.turn_desks.specs.Stocks.{AreLots, AreLotsBy, AreOfLand, StockFact, answered_of, limits_of}
use Rattle.turn_lock.specs.declared.view.View.{View}
use Rattle.turn_lock.specs.Passes.{known}
use Rattle.turn_lock.specs.Rule.{numbers, own_entries}
use Rattle.thread_runner.specs.Acting.{AreSmall, HasActed, HasWorker}
use Rattle.thread_runner.specs.Kits.{IsKitFor}
use Rattle.thread_runner.specs.Stocking.{AreWithinStocks, Cover, DeedsDraw}
use Rattle.thread_runner.proofs.Acted.{acted_merely, room_merely, unbegun}
use Rattle.thread_runner.proofs.Crews.{whos_length}
use Rattle.thread_runner.proofs.Opening.{opened_known}
use Rattle.thread_runner.proofs.Within.{within_land}
use Rattle.thread_runner.proofs.running.act_shown.Goals as goal

pub new-stocked-requires-clause-lots : goal.new-stocked-requires-clause-lots
new-stocked-requires-clause-lots g c =
    let facts = g.M.LockName.stocks in
    let s : State = c.args.served.hall.state in
    let was = c.args.tools.2.items in
    let now = c.equip_all.new.rights.items in
    let lots : AreLotsBy s facts now =
    subst (λ ls. AreLots s facts ls (answered_of now)) (sym c.equip_all.ensures.limits)
    (subst (λ tss. AreLots s facts (limits_of was) tss) (sym c.equip_all.ensures.handed) c.requires.begun.lots) in
    ∣ subst (λ (x : State). AreLotsBy x facts now) (sym (ap (λ x. x.hall.state) c.new-shown.ensures.served)) lots ∣₁

pub act_in_turn-requires-clause-fresh : goal.act_in_turn-requires-clause-fresh
act_in_turn-requires-clause-fresh g c κs within =
    let made = ap (λ x. x.served.hall.state.past) c.new-stocked.ensures.shown ∙ ap (λ x. x.hall.state.past) c.new-shown.ensures.served ∙ c.requires.none in
    ap (λ (v : View PastEntry). v.own) c.in-Ok-new.ensures.ok.2 ∙ ap (λ (l : List PastEntry). numbers 0 (length l)) made

pub act_in_turn-requires-clause-kits : goal.act_in_turn-requires-clause-kits
act_in_turn-requires-clause-kits g c κs within =
    let intervals = g.M.LockName.intervals in
    let lines = c.args.scene.now.lines.now in
    let good : AreIntervals intervals = subst AreIntervals (sym c.requires.intervals.0) (opened_known c.args.served.hall.state c.requires.opened) in
    subst (λ (fs : List StockFact). AllByRecursion (IsKitFor intervals fs lines) c.in-Ok-equip_all.kits.items) c.requires.stocks
    (c.in-Ok-equip_all.ensures.kits intervals good.apart (subst (AreOfLand intervals) (sym c.requires.stocks) c.requires.begun.land)
    (subst (λ (fs : List StockFact). Cover intervals fs lines) (sym c.requires.stocks) c.requires.cover))

pub close-stocked-requires-clause-all : goal.close-stocked-requires-clause-all
close-stocked-requires-clause-all g c =
    let whos = ap length c.in-Ok-equip_all.ensures.who in
    let each : length (map (λ k. k.who) c.in-Ok-equip_all.kits.items) ≡ length c.in-Ok-equip_all.kits.items =
    whos_length (λ k. k.who) c.in-Ok-equip_all.kits.items in
    let whole = c.in-Ok-act_in_turn.ensures.whole in
    let all = c.in-Ok-new.ensures.ok.1 in
    let parts = c.in-Ok.ensures.1 in
    omega (arith, whos, each, whole, all, parts)

pub end_all-requires-clause-room : goal.end_all-requires-clause-room
end_all-requires-clause-room g c =
    let land : Land = land_of c.args.scene.now.objects.now g.M.LockName.intervals in
    let lines = c.args.scene.now.lines.now in
    let callers : List Who = map (λ k. k.who) c.in-Ok-equip_all.kits.items in
    let s : State = c.into_shown-shown.result.0.served.hall.state in
    let pass : View PastEntry = known c.in-Ok-act_in_turn.pass in
    let deeds : List Deed = c.in-Ok-act_in_turn.left.deeds.items in
    let who : callers ≡ c.args.callers.now = c.in-Ok-equip_all.ensures.who in
    let none = ap (λ (x : State). x.past) (sym c.requires.first) ∙ c.requires.none in
    let same : c.close-stocked.result.shown.served.hall.state ≡ s = ap (λ x. x.served.hall.state) (sym c.into_shown-shown.ensures.shown) in
    let seen = c.close-stocked.ensures.seen ∙ ap (λ (x : State). x.past) same in
    let own = subst (λ (x : State). IsPermutation x.past (own_entries pass)) same c.close-stocked.ensures.own in
    let few = room_merely _ (c.history_is_of_callers.ensures.each _) (c.history_is_of_callers.ensures.among _) c.worker_goes_on.ensures.goes
    c.worker_goes_on.ensures.others c.worker_goes_on.ensures.among c.workers_rest.ensures.rest c.workers_rest.ensures.none
    c.numbers_come_from_stocks.ensures.none land lines callers _ _ _ g.J.Origin.first g.J.Origin.counts c.requires.fresh none
    (subst AreDistinct (sym who) c.requires.distinct) (subst HasWorker (sym who) c.requires.worker) (subst AreSmall (sym who) c.requires.small)
    c.numbers_come_from_stocks.ensures.drew s _ pass deeds c.into_shown-shown.result.0.served.led seen own c.in-Ok-act_in_turn.ensures.gathered in
    let room = c.requires.room.1 in
    (c.requires.room.0, omega (arith, few, room))

pub returns-in-Ok-act_in_turn-clause-acted : goal.returns-in-Ok-act_in_turn-clause-acted
returns-in-Ok-act_in_turn-clause-acted g c =
    let intervals = g.M.LockName.intervals in
    let facts = g.M.LockName.stocks in
    let land : Land = land_of c.args.scene.now.objects.now intervals in
    let lines = c.args.scene.now.lines.now in
    let callers : List Who = map (λ k. k.who) c.in-Ok-equip_all.kits.items in
    let first : State = g.J.Origin.first in
    let s : State = c.into_shown-shown.result.0.served.hall.state in
    let t : State = c.end_all.result.0.hall.state in
    let pass : View PastEntry = known c.in-Ok-act_in_turn.pass in
    let deeds : List Deed = c.in-Ok-act_in_turn.left.deeds.items in
    let passes : List GaugePass = c.in-Ok-act_in_turn.left.glances.items in
    let now : List Deed = c.end_all.result.1.items in
    let drawn : List Drawing = c.end_all.result.2.items in
    let end = c.end_all.ensures in
    let who : callers ≡ c.args.callers.now = c.in-Ok-equip_all.ensures.who in
    let none = ap (λ (x : State). x.past) (sym c.requires.first) ∙ c.requires.none in
    let same : c.close-stocked.result.shown.served.hall.state ≡ s = ap (λ x. x.served.hall.state) (sym c.into_shown-shown.ensures.shown) in
    let seen = c.close-stocked.ensures.seen ∙ ap (λ (x : State). x.past) same in
    let own = subst (λ (x : State). IsPermutation x.past (own_entries pass)) same c.close-stocked.ensures.own in
    let good : AreIntervals intervals = subst AreIntervals (sym c.requires.intervals.0) (opened_known c.args.served.hall.state c.requires.opened) in
    let bases = subst (λ (x : State). map (λ (f : StockFact). f.base) facts ≡ map (λ (f : StockFact). level_in x.stored.levels f.interval + 1) facts)
    c.requires.first c.requires.begun.bases in
    let draw : ∥ DeedsDraw land first t now drawn ∥₁ =
    ∥∥₁_map end.within (λ (w : AreWithinStocks t facts drawn). record {
      all = end.all;
      order = end.order;
      each = within_land intervals facts first t drawn good.apart c.requires.begun.land bases w;
    }) in
    subst (λ (ws : List Who). ∥ HasActed land lines ws c.args.served.hall.state t now drawn ∥₁) who
    (subst (λ (x : State). ∥ HasActed land lines callers x t now drawn ∥₁) (sym c.requires.first)
    (acted_merely _ (c.history_is_of_callers.ensures.each _) (c.history_is_of_callers.ensures.among _) c.worker_goes_on.ensures.goes
    c.worker_goes_on.ensures.others c.worker_goes_on.ensures.among c.workers_rest.ensures.rest c.workers_rest.ensures.none
    c.numbers_come_from_stocks.ensures.none land lines callers _ _ _ first g.J.Origin.counts c.requires.fresh none
    (subst AreDistinct (sym who) c.requires.distinct) (subst HasWorker (sym who) c.requires.worker) (subst AreSmall (sym who) c.requires.small)
    s t _ _ pass deeds now passes drawn draw c.into_shown-shown.result.0.served.led c.end_all.result.0.led seen own end.looked
    c.in-Ok-act_in_turn.ensures.glances c.in-Ok-act_in_turn.ensures.gathered end.seen))

pub returns-in-Err-act_in_turn-clause-none : goal.returns-in-Err-act_in_turn-clause-none
returns-in-Err-act_in_turn-clause-none g c =
    let same = ap (λ p. known p) c.in-Err-act_in_turn.ensures.none in
    let seen = ap (λ (v : View PastEntry). v.seen) (same ∙ c.in-Ok-new.ensures.ok.2) in
    let made = ap (λ x. x.served.hall.state.past) c.new-stocked.ensures.shown ∙ ap (λ x. x.hall.state.past) c.new-shown.ensures.served in
    let left = ap (λ x. x.hall.state.past) c.into_hidden.ensures.served ∙ ap (λ x. x.served.hall.state.past) c.into_shown.ensures.shown in
    let none = left ∙ sym c.close.ensures.seen ∙ seen ∙ made ∙ c.requires.none in
    ∥∥₁_map c.into_hidden.result.led
    (λ l. unbegun _ _ _ g.J.Origin.first g.J.Origin.counts c.into_hidden.result.hall.state _ l none ∙ sym c.requires.first)
