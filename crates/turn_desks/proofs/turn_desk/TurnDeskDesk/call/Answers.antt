use Rattle.std.proofs.Common.{false, ℕ, map, sym, ap, ◌∙◌, arith}
use Rattle.std.specs.Prelude.{sum_by}
use mathlib.Core.List.{reverse}
use Rattle.script_actors.specs.Actors.{session_of}
use Rattle.script_actors.specs.Drawings.{desk_call}
use Rattle.turn_lock.specs.Passes.{known}
use Rattle.turn_lock.specs.Rule.{own_entries}
use Rattle.turn_desks.specs.Stocks.{answered_of, drawn_of, is_session, left_in}
use Rattle.turn_desks.specs.Weaving.{desk_entries, noted, numbers_told}
use Rattle.turn_desks.proofs.Asked.{may_ask}
use Rattle.turn_desks.proofs.Desks.{IsDesk, desk_called, many_answered}
use Rattle.turn_desks.proofs.Woven.{with_one}
use Rattle.turn_desks.proofs.turn_desk.TurnDeskDesk.call.Goals as goal

pub ask-requires : goal.ask-requires
ask-requires g c =
    let was = c.args.self.now in
    record {
      seats = was.own_seats;
      may = may_ask g.N.LockName.intervals g.S.Serving.stocks was.seats.items (desk_entries was.drawn.items (known was.caller.pass)) c.args.command
          was.of_land was.known_numbers was.pending c.requires.allowed;
    }

pub invariant_of-self : goal.invariant_of-self
invariant_of-self g c =
    let was = c.args.self.now in
    let facts = g.S.Serving.stocks in
    let ask = c.ask.ensures in
    let ns = reverse (map noted was.drawn.items) in
    let seats = was.seats.items in
    let now = c.ask.new.seats.items in
    let desk : IsDesk facts ns (map desk_call (own_entries (known was.caller.pass))) (numbers_told (map noted was.drawn.items)) (answered_of seats)
    (drawn_of seats) =
    record {
      behind = was.behind;
      calls_are = was.calls;
      known = was.known_numbers;
      pending = was.pending;
      numbers = was.numbers;
      told_are = was.told;
      drawn_known = was.drawn_known;
    } in
    let later : IsDesk facts ns (map desk_call (own_entries (known c.ask.new.self.pass))) (numbers_told (map noted was.drawn.items)) (answered_of now)
    (drawn_of now) =
    desk_called facts ns _ _ _ _ _ _ _ c.args.at c.args.command c.ask.result.reply (many_answered false facts seats was.own_seats) desk ask.asked.own
    ask.left.drawn ask.left.answered in
    record {
      of_stocks = was.of_stocks;
      of_land = was.of_land;
      own_seats = ask.seats;
      drawer = λ no i. ap (λ draws. left_in facts draws i) ask.left.draws ∙ was.drawer (sym (ap (λ w. is_session w) ask.who) ∙ no) i;
      room = let same = ap (sum_by (λ (n : ℕ). n)) ask.left.draws in let all = was.room in omega (arith, same, all);
      place = was.place;
      behind = later.behind;
      calls = later.calls_are;
      known_numbers = later.known;
      pending = later.pending;
      numbers = later.numbers;
      drawn_known = later.drawn_known;
      told = later.told_are;
    }

pub returns-clause-told : goal.returns-clause-told
returns-clause-told g c =
    let was = c.args.self.now in
    with_one (reverse (map noted was.drawn.items)) _ _ c.args.at c.args.command c.ask.result.reply was.behind c.ask.ensures.asked.own

pub returns-clause-left : goal.returns-clause-left
returns-clause-left g c = ap (left_in g.S.Serving.stocks) c.ask.ensures.left.draws

pub returns-clause-session : goal.returns-clause-session
returns-clause-session g c = ap session_of c.ask.ensures.who
