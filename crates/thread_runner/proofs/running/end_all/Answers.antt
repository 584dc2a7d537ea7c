use Rattle.std.proofs.Common.{◌≤◌, List, ◌++◌, drop, length, map, reverse, ap, sym, ◌∙◌, subst, take}
use Rattle.std.proofs.Math.Logic.{∥∥₁_map}
use Rattle.std.specs.Global.{Vec}
use Rattle.std.specs.List.{AllByRecursion}
use Rattle.std.specs.List.Sorted.{IsPermutation}
use Rattle.std.specs.Prelude.{vec_capacity}
use Rattle.actor_threads.specs.declared.actor.Deed.{Deed}
use Rattle.gauges.specs.Boards.{seen}
use Rattle.gauges.specs.declared.board.GaugePass.{GaugePass}
use Rattle.hall_model.specs.State.{State}
use Rattle.number_stock.specs.declared.seat.StockSeat.{StockSeat}
use Rattle.turn_desks.specs.Stocks.{AreLotsBy, AreRightsAt, AreSeatsAt}
use Rattle.turn_desks.specs.Watching.{HasShown}
use Rattle.thread_runner.specs.Looking.{LooksLast}
use Rattle.thread_runner.specs.Stocking.{drawn_in_deeds}
use Rattle.thread_runner.proofs.Absorbed.{drawn_looked, seats_own}
use Rattle.thread_runner.proofs.Begun.{mapped_long}
use Rattle.thread_runner.proofs.Refilled.{refilled}
use Rattle.thread_runner.proofs.Within.{within_stocks}
use Rattle.thread_runner.proofs.running.end_all.Goals as goal

pub join_all-requires : goal.join_all-requires
join_all-requires g c = record {
  rights = subst (λ fs. AreRightsAt fs c.look_last-served.result.1.items) (sym c.requires.stocks) c.look_last-served.ensures.rights;
  seats =
      subst (λ fs. AllByRecursion (λ (v : Vec StockSeat). AreSeatsAt fs v.items) c.args.left.seats.items) (sym c.requires.stocks)
      (seats_own g.M.LockName.stocks (reverse c.args.left.deeds.items) c.args.left.seats.items c.requires.seats);
}

pub collect-drawn-requires : goal.collect-drawn-requires
collect-drawn-requires g c =
    let s : State = c.into_served-served.result.hall.state in
    let t : State = c.look_last-served.result.0.hall.state in
    let deeds : List Deed = c.args.left.deeds.items in
    let now : List Deed = c.look_last-served.new.deeds in
    let looks : LooksLast s t deeds now = subst (λ ds. LooksLast s t ds now) c.as_mut_slice.ensures.value c.look_last-served.ensures.looked in
    let back = refilled c.args.left.deeds.len now deeds (c.look_last-served.auto.deeds ∙ c.as_mut_slice.ensures.len) in
    record {
      empty = ap length c.requires.room.0;
      room =
          subst (λ n. n ≤ vec_capacity c.args.room)
          (sym (ap length (ap drawn_in_deeds (c.as_slice.ensures.value ∙ back) ∙ drawn_looked s t deeds now looks))) c.requires.room.1;
    }

pub returns-clause-looked : goal.returns-clause-looked
returns-clause-looked g c =
    let s : State = c.into_served-served.result.hall.state in
    let t : State = c.look_last-served.result.0.hall.state in
    let deeds : List Deed = c.args.left.deeds.items in
    let now : List Deed = c.look_last-served.new.deeds in
    let looks : LooksLast s t deeds now = subst (λ ds. LooksLast s t ds now) c.as_mut_slice.ensures.value c.look_last-served.ensures.looked in
    let back = refilled c.args.left.deeds.len now deeds (c.look_last-served.auto.deeds ∙ c.as_mut_slice.ensures.len) in
    let all : List Deed = take c.args.left.deeds.len (now ++ drop (length now) deeds) in
    let whole : LooksLast s t deeds all = subst (LooksLast s t deeds) (sym back) looks in
    subst (λ x. LooksLast x.hall.state t deeds all) c.into_served-served.ensures.served whole

pub returns-clause-seen : goal.returns-clause-seen
returns-clause-seen g c =
    subst (λ x. ∥ AllByRecursion (λ (p : GaugePass). HasShown g.J.Origin.first x.hall.state (seen p)) c.args.left.glances.items ∥₁)
    c.into_served-served.ensures.served c.into_served-served.ensures.seen

pub returns-clause-all : goal.returns-clause-all
returns-clause-all g c = subst (λ ds. IsPermutation (drawn_in_deeds ds) c.collect-drawn.result.items) c.as_slice.ensures.value c.collect-drawn.ensures.all

pub returns-clause-within : goal.returns-clause-within
returns-clause-within g c =
    let facts = g.M.LockName.stocks in
    let s : State = c.into_served-served.result.hall.state in
    let t : State = c.look_last-served.result.0.hall.state in
    let deeds : List Deed = c.args.left.deeds.items in
    let now : List Deed = c.look_last-served.new.deeds in
    let rights : List StockSeat = c.look_last-served.result.1.items in
    let looks : LooksLast s t deeds now = subst (λ ds. LooksLast s t ds now) c.as_mut_slice.ensures.value c.look_last-served.ensures.looked in
    let back = refilled c.args.left.deeds.len now deeds (c.look_last-served.auto.deeds ∙ c.as_mut_slice.ensures.len) in
    let same : IsPermutation (drawn_in_deeds deeds) c.collect-drawn.result.items =
    subst (λ l. IsPermutation l c.collect-drawn.result.items) (ap drawn_in_deeds (c.as_slice.ensures.value ∙ back) ∙ drawn_looked s t deeds now looks)
    c.collect-drawn.ensures.all in
    ∥∥₁_map c.look_last-served.ensures.lots (λ (lots : AreLotsBy t facts rights).
    within_stocks t facts rights deeds (map (λ (v : Vec StockSeat). v.items) c.args.left.seats.items) c.collect-drawn.result.items
    (mapped_long _ _ rights facts c.look_last-served.ensures.rights) lots c.join_all.ensures.once c.requires.seats same)
