use Rattle.std.proofs.Common.{false, ℕ, map, sym, ap, ◌∙◌, arith}
use Rattle.std.specs.Prelude.{sum_by}
use mathlib.Core.List.{reverse}
use Rattle.script_actors.specs.Drawings.{desk_call}
use Rattle.turn_lock.specs.Passes.{known}
use Rattle.turn_lock.specs.Rule.{own_entries}
use Rattle.turn_desks.specs.Stocks.{answered_of, drawn_of, is_session, left_in}
use Rattle.turn_desks.specs.Weaving.{noted, numbers_told}
use Rattle.turn_desks.proofs.Asked.{worker_may}
use Rattle.turn_desks.proofs.Desks.{IsDesk, desk_called, many_answered}
use Rattle.turn_desks.proofs.turn_desk.TurnDeskOrderDesk.order.Goals as goal

pub ask-requires : goal.ask-requires
ask-requires g c = record {
  seats = c.args.self.now.own_seats;
  may = worker_may c.args.worker g.S.Serving.stocks c.args.self.now.seats.items c.args.command c.requires.own;
}

pub invariant_of-self : goal.invariant_of-self
invariant_of-self g c =
    let was = c.args.self.now in
    let facts = g.S.Serving.stocks in
    let ask = c.ask.ensures in
    let ns = reverse (map noted was.drawn.items) in
    let seats = was.seats.items in
    let now = c.ask.new.seats.items in
    let desk : IsDesk facts ns (map desk_call (own_entries (known was.caller.pass))) (numbers_told (map noted was.drawn.items)) (answered_of seats)
    (drawn_of seats) =
    record {
      behind = was.behind;
      calls_are = was.calls;
      known = was.known_numbers;
      pending = was.pending;
      numbers = was.numbers;
      told_are = was.told;
      drawn_known = was.drawn_known;
    } in
    let later : IsDesk facts ns (map desk_call (own_entries (known c.ask.new.self.pass))) (numbers_told (map noted was.drawn.items)) (answered_of now)
    (drawn_of now) =
    desk_called facts ns _ _ _ _ _ _ _ 0 c.args.command c.ask.result.reply (many_answered false facts seats was.own_seats) desk ask.asked.own
    ask.left.drawn ask.left.answered in
    record {
      of_stocks = was.of_stocks;
      of_land = was.of_land;
      own_seats = ask.seats;
      drawer = λ no i. ap (λ draws. left_in facts draws i) ask.left.draws ∙ was.drawer (sym (ap (λ w. is_session w) ask.who) ∙ no) i;
      room = let same = ap (sum_by (λ (n : ℕ). n)) ask.left.draws in let all = was.room in omega (arith, same, all);
      place = was.place;
      behind = later.behind;
      calls = later.calls_are;
      known_numbers = later.known;
      pending = later.pending;
      numbers = later.numbers;
      drawn_known = later.drawn_known;
      told = later.told_are;
    }
