use Rattle.std.proofs.Common.{false, List, length, map, sym, ap, subst, arith}
use mathlib.Core.List.{reverse}
use Rattle.hall_model.specs.declared.command.PastEntry.{PastEntry}
use Rattle.script_actors.specs.Drawings.{desk_call}
use Rattle.turn_lock.specs.Passes.{known}
use Rattle.turn_lock.specs.Rule.{own_entries}
use Rattle.turn_desks.specs.Stocks.{answered_of, drawn_of}
use Rattle.turn_desks.specs.Weaving.{Noted, noted, numbers_told}
use Rattle.turn_desks.proofs.Desks.{IsDesk, as_many, desk_fresh}
use Rattle.turn_desks.proofs.turn_desk.TurnDesk.new.Goals as goal

pub invariant_of-result : goal.invariant_of-result
invariant_of-result g c =
    let facts = g.S.Serving.stocks in
    let seats = c.args.seats.items in
    let at = c.requires.seats in
    let P : List Noted × List PastEntry → Type 0 = λ x. IsDesk facts (reverse x.0) (map desk_call x.1) (numbers_told x.0) (answered_of seats)
    (drawn_of seats) in
    let desk : P (map noted c.args.room.items, own_entries (known c.args.caller.pass)) =
    subst P (λ i. (sym (ap (map noted) c.requires.empty) i, sym c.requires.none i)) (desk_fresh facts seats (as_many false facts seats at) c.requires.fresh) in
    record {
      of_stocks = c.requires.stocks;
      of_land = c.requires.land;
      own_seats = at;
      drawer = c.requires.drawer;
      room = let none = ap length c.requires.empty in let all = c.requires.room in omega (arith, none, all);
      place = c.requires.place;
      behind = desk.behind;
      calls = desk.calls_are;
      known_numbers = desk.known;
      pending = desk.pending;
      numbers = desk.numbers;
      drawn_known = desk.drawn_known;
      told = desk.told_are;
    }
