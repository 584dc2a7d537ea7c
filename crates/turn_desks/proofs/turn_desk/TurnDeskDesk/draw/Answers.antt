use Rattle.std.proofs.Common.{◌≡◌, ◌+◌, ◌≤◌, ℕ, true, false, true≢false, List, [], ◌∷◌, ◌++◌, Some, length, map, refl, sym, ap, ◌∙◌, subst, arith}
use Rattle.std.specs.Prelude.{MatchBool, slice_get, slice_index_or, sum_by}
use Rattle.std.proofs.lemmas.List.{length-map}
use Rattle.std.proofs.lemmas.Option.{slice_get_read}
use mathlib.Core.List.{reverse}
use Rattle.enq_base.specs.declared.unit.Num.{Num}
use Rattle.draw_laws.proofs.IntervalNames.{named_is}
use Rattle.module_effects.specs.Rows.{RowName}
use Rattle.number_ranges.specs.Intervals.{is_named}
use Rattle.number_ranges.specs.declared.interval.Interval.{Interval}
use Rattle.number_stock.specs.Seats.{hand}
use Rattle.number_stock.specs.declared.seat.StockSeat.{StockSeat}
use Rattle.script_actors.specs.Actors.{drawing, session_of}
use Rattle.script_actors.specs.Drawings.{Drawing, Drew, IsDrawing, desk_call}
use Rattle.turn_lock.specs.Passes.{known}
use Rattle.turn_lock.specs.Rule.{own_entries}
use Rattle.turn_lock.specs.declared.pass.Pass.{Pass}
use Rattle.turn_desks.specs.Draws.{IsPlaceOf, one_number}
use Rattle.turn_desks.specs.Stocks.{StockFact, answered_of, drawn_of, draws_of, fact_of, is_of_stock, is_session, left_in}
use Rattle.turn_desks.specs.Weaving.{Noted, noted, numbers_told, woven}
use Rattle.turn_desks.proofs.Desks.{IsDesk, desk_drew}
use Rattle.turn_desks.proofs.Drew.{has_stock, interval_is, is_drawer, left_there, notes_more, seat_within, some_draw, some_left, told_more}
use Rattle.turn_desks.proofs.Numbers.{takes_one, used_sum}
use Rattle.turn_desks.proofs.Woven.{drawn_more}
use Rattle.turn_desks.proofs.lemmas.Seating.{map_get, one_some, within_got}
use Rattle.turn_desks.proofs.turn_desk.TurnDeskDesk.draw.Goals as goal

pub unreachable-requires : goal.unreachable-requires
unreachable-requires g c =
    let was = c.args.self.now in
    let none = subst (λ fs. is_of_stock fs c.args.object c.args.nr ≡ false) was.of_stocks c.in_default.ensures.none in
    true≢false (sym (has_stock g.N.LockName.intervals g.S.Serving.stocks was.of_land c.args.object c.args.nr (draws_of was.seats.items) c.requires.one) ∙ none)

pub bounds-stocks-place : goal.bounds-stocks-place
bounds-stocks-place g c =
    let was = c.args.self.now in
    let facts = g.S.Serving.stocks in
    let intervals = g.N.LockName.intervals in
    let stocks = was.stocks.now in
    let object = c.args.object in
    let nr = c.args.nr in
    let k = c.in-Some.place in
    let p : IsPlaceOf facts object nr k = subst (λ fs. IsPlaceOf fs object nr k) was.of_stocks c.in-Some.ensures.some in
    let seats = was.seats.items in
    let many_stocks = length-map stocks fact_of in
    let facts_many = ap length was.of_stocks in
    let less = within_got facts k p.fact p.there in
    omega (arith, many_stocks, facts_many, less)

pub offset_bounds-stocks-place : goal.offset_bounds-stocks-place
offset_bounds-stocks-place g c =
    let was = c.args.self.now in
    let facts = g.S.Serving.stocks in
    let intervals = g.N.LockName.intervals in
    let stocks = was.stocks.now in
    let object = c.args.object in
    let nr = c.args.nr in
    let k = c.in-Some.place in
    let p : IsPlaceOf facts object nr k = subst (λ fs. IsPlaceOf fs object nr k) was.of_stocks c.in-Some.ensures.some in
    let seats = was.seats.items in
    let many_stocks = length-map stocks fact_of in
    let facts_many = ap length was.of_stocks in
    let less = within_got facts k p.fact p.there in
    omega (arith, many_stocks, facts_many, less)

pub draw_at-reply-requires : goal.draw_at-reply-requires
draw_at-reply-requires g c =
    let was = c.args.self.now in
    let facts = g.S.Serving.stocks in
    let intervals = g.N.LockName.intervals in
    let stocks = was.stocks.now in
    let object = c.args.object in
    let nr = c.args.nr in
    let k = c.in-Some.place in
    let p : IsPlaceOf facts object nr k = subst (λ fs. IsPlaceOf fs object nr k) was.of_stocks c.in-Some.ensures.some in
    let seats = was.seats.items in
    let many_stocks = length-map stocks fact_of in
    let facts_many = ap length was.of_stocks in
    let less = within_got facts k p.fact p.there in
    let own = slice_index_or stocks k c.index-stocks-place.result in
    let at : slice_get stocks k ≡ Some own =
    slice_get_read stocks (length stocks) k c.index-stocks-place.result refl (omega (arith, many_stocks, facts_many, less)) c.index-stocks-place.is
    ∙ ap Some c.index-stocks-place.is in
    let there : slice_get facts k ≡ Some (fact_of own) = subst (λ fs. slice_get fs k ≡ Some (fact_of own)) was.of_stocks (map_get fact_of stocks k own at) in
    record {
      session = is_drawer intervals facts was.of_land object nr (is_session was.caller.who) (draws_of seats) c.requires.one was.drawer;
      within = seat_within intervals facts was.of_land object nr k p seats was.own_seats;
      seats = was.own_seats;
      there = there;
      left = λ s here. left_there intervals facts was.of_land object nr k p seats s here c.requires.one;
    }

pub push_reserved-requires : goal.push_reserved-requires
push_reserved-requires g c =
    let was = c.args.self.now in
    let facts = g.S.Serving.stocks in
    let intervals = g.N.LockName.intervals in
    let stocks = was.stocks.now in
    let object = c.args.object in
    let nr = c.args.nr in
    let k = c.in-Some.place in
    let p : IsPlaceOf facts object nr k = subst (λ fs. IsPlaceOf fs object nr k) was.of_stocks c.in-Some.ensures.some in
    let seats = was.seats.items in
    let some = some_left intervals facts was.of_land object nr k p seats was.own_seats c.requires.one in
    let room = was.room in
    omega (arith, some, room)

pub invariant_of-self : goal.invariant_of-self
invariant_of-self g c =
    let was = c.args.self.now in
    let facts = g.S.Serving.stocks in
    let intervals = g.N.LockName.intervals in
    let stocks = was.stocks.now in
    let object = c.args.object in
    let nr = c.args.nr in
    let k = c.in-Some.place in
    let p : IsPlaceOf facts object nr k = subst (λ fs. IsPlaceOf fs object nr k) was.of_stocks c.in-Some.ensures.some in
    let seats = was.seats.items in
    let many_stocks = length-map stocks fact_of in
    let facts_many = ap length was.of_stocks in
    let less = within_got facts k p.fact p.there in
    let own = slice_index_or stocks k c.index-stocks-place.result in
    let at : slice_get stocks k ≡ Some own =
    slice_get_read stocks (length stocks) k c.index-stocks-place.result refl (omega (arith, many_stocks, facts_many, less)) c.index-stocks-place.is
    ∙ ap Some c.index-stocks-place.is in
    let there : slice_get facts k ≡ Some (fact_of own) = subst (λ fs. slice_get fs k ≡ Some (fact_of own)) was.of_stocks (map_get fact_of stocks k own at) in
    let named : is_named object nr own.interval ≡ true =
    subst (λ (f : StockFact). is_named object nr f.interval ≡ true) (one_some p.fact (fact_of own) (sym p.there ∙ there)) p.is in
    let names = named_is object nr own.interval named in
    let object_is : object ≡ own.interval.object = sym (ap (λ (n : RowName). n.0) names) in
    let nr_is : nr ≡ own.interval.nr = sym (ap (λ (n : RowName). n.1) names) in
    let hd = c.draw_at-reply.ensures.drawn in
    let ns = reverse (map noted was.drawn.items) in
    let calls = map desk_call (own_entries (known was.caller.pass)) in
    let now = map desk_call (own_entries (known c.draw_at-reply.new.caller.pass)) in
    let items = c.push_reserved.ensures.items in
    let before = ap (λ (x : Pass _ _ _). length (own_entries (known x))) c.of-was.ensures ∙ sym (length-map (own_entries (known was.caller.pass)) desk_call) in
    let behind = ap (λ (x : Pass _ _ _). length (own_entries (known x))) c.of-2.ensures
    ∙ sym (length-map (own_entries (known c.draw_at-reply.new.caller.pass)) desk_call) in
    let notes = ap (λ l. reverse (map noted l)) items ∙ notes_more noted was.drawn.items _ in
    let told = ap (λ l. numbers_told (map noted l)) items ∙ told_more noted was.drawn.items _ in
    let seats_now = c.draw_at-reply.new.seats.items in
    let is_own = is_drawer intervals facts was.of_land object nr (is_session was.caller.who) (draws_of seats) c.requires.one was.drawer in
    let desk : IsDesk facts ns calls (numbers_told (map noted was.drawn.items)) (answered_of seats) (drawn_of seats) = record {
      behind = was.behind;
      calls_are = was.calls;
      known = was.known_numbers;
      pending = was.pending;
      numbers = was.numbers;
      told_are = was.told;
      drawn_known = was.drawn_known;
    } in
    let later : IsDesk facts (reverse (map noted c.push_reserved.new.self.items)) now (numbers_told (map noted c.push_reserved.new.self.items))
    (answered_of seats_now)
    (drawn_of seats_now) =
    subst (λ (x : List Noted × List Num). IsDesk facts x.0 now x.1 (answered_of seats_now) (drawn_of seats_now)) (λ i. (sym notes i, sym told i))
    (desk_drew facts _ ns calls now (numbers_told (map noted was.drawn.items)) (answered_of seats) (drawn_of seats) (answered_of seats_now) (drawn_of seats_now)
    k (fact_of own) hd.tickets hd.given.reservation desk there was.of_land.2 object_is nr_is named hd.calls before behind hd.answered hd.drawn
    (hd.numbers ∙ ap one_number (sym c.of.ensures))) in
    let one = some_draw intervals facts was.of_land object nr k p seats was.own_seats c.requires.one in
    let sum = used_sum (draws_of seats) k (hand one.0).draws (map_get (λ (x : StockSeat). (hand x).draws) seats k one.0 one.1) one.2 in
    let used = ap (sum_by (λ (n : ℕ). n)) hd.draws in
    let room = was.room in
    let len = c.push_reserved.ensures.len in
    let cap = c.push_reserved.ensures.capacity in
    record {
      of_stocks = was.of_stocks;
      of_land = was.of_land;
      own_seats = hd.seats;
      drawer = λ off i. absurd (true≢false (sym (ap is_session c.draw_at-reply.ensures.who ∙ is_own) ∙ off));
      room = omega (arith, room, len, cap, sum, used);
      place = (was.place.0, omega (arith, was.place.1, cap));
      behind = later.behind;
      calls = later.calls_are;
      known_numbers = later.known;
      pending = later.pending;
      numbers = later.numbers;
      drawn_known = later.drawn_known;
      told = later.told_are;
    }

pub returns-clause-told : goal.returns-clause-told
returns-clause-told g c = λ i found.
    let was = c.args.self.now in
    let facts = g.S.Serving.stocks in
    let intervals = g.N.LockName.intervals in
    let stocks = was.stocks.now in
    let object = c.args.object in
    let nr = c.args.nr in
    let k = c.in-Some.place in
    let p : IsPlaceOf facts object nr k = subst (λ fs. IsPlaceOf fs object nr k) was.of_stocks c.in-Some.ensures.some in
    let seats = was.seats.items in
    let many_stocks = length-map stocks fact_of in
    let facts_many = ap length was.of_stocks in
    let less = within_got facts k p.fact p.there in
    let own = slice_index_or stocks k c.index-stocks-place.result in
    let at : slice_get stocks k ≡ Some own =
    slice_get_read stocks (length stocks) k c.index-stocks-place.result refl (omega (arith, many_stocks, facts_many, less)) c.index-stocks-place.is
    ∙ ap Some c.index-stocks-place.is in
    let there : slice_get facts k ≡ Some (fact_of own) = subst (λ fs. slice_get fs k ≡ Some (fact_of own)) was.of_stocks (map_get fact_of stocks k own at) in
    let named : is_named object nr own.interval ≡ true =
    subst (λ (f : StockFact). is_named object nr f.interval ≡ true) (one_some p.fact (fact_of own) (sym p.there ∙ there)) p.is in
    let names = named_is object nr own.interval named in
    let object_is : object ≡ own.interval.object = sym (ap (λ (n : RowName). n.0) names) in
    let nr_is : nr ≡ own.interval.nr = sym (ap (λ (n : RowName). n.1) names) in
    let hd = c.draw_at-reply.ensures.drawn in
    let ns = reverse (map noted was.drawn.items) in
    let calls = map desk_call (own_entries (known was.caller.pass)) in
    let now = map desk_call (own_entries (known c.draw_at-reply.new.caller.pass)) in
    let items = c.push_reserved.ensures.items in
    let before = ap (λ (x : Pass _ _ _). length (own_entries (known x))) c.of-was.ensures ∙ sym (length-map (own_entries (known was.caller.pass)) desk_call) in
    let behind = ap (λ (x : Pass _ _ _). length (own_entries (known x))) c.of-2.ensures
    ∙ sym (length-map (own_entries (known c.draw_at-reply.new.caller.pass)) desk_call) in
    let notes = ap (λ l. reverse (map noted l)) items ∙ notes_more noted was.drawn.items _ in
    let own_is : own.interval ≡ i =
    ap (λ (f : StockFact). f.interval) (sym (one_some p.fact (fact_of own) (sym p.there ∙ there)))
    ∙ interval_is intervals facts was.of_land object nr k p i found in
    let given = hd.given in
    let session = session_of was.caller.who in
    let drawn = drawn_more _ ns calls now given.reservation hd.calls before behind in
    let mine : Drawing = record { line = c.args.at; object = object; nr = nr; reservation = given.reservation; reply = c.of.result.value } in
    let same : mine ≡ drawing c.args.at i given =
    λ j. record {
      line = c.args.at;
      object = (object_is ∙ ap (λ (x : Interval). x.object) own_is) j;
      nr = (nr_is ∙ ap (λ (x : Interval). x.nr) own_is) j;
      reservation = given.reservation;
      reply = (c.of.ensures ∙ sym hd.reply) j;
    } in (
      given,
      hd.reply,
      subst (λ (x : Interval). IsDrawing session x (drawing c.args.at x given)) own_is hd.is,
      ap (λ l. woven l now) notes ∙ (drawn ∙ ap (λ (d : Drawing). woven ns calls ++ Drew d ∷ []) same),
    )

pub returns-clause-left : goal.returns-clause-left
returns-clause-left g c = λ i.
    let was = c.args.self.now in
    let facts = g.S.Serving.stocks in
    let intervals = g.N.LockName.intervals in
    let stocks = was.stocks.now in
    let object = c.args.object in
    let nr = c.args.nr in
    let k = c.in-Some.place in
    let p : IsPlaceOf facts object nr k = subst (λ fs. IsPlaceOf fs object nr k) was.of_stocks c.in-Some.ensures.some in
    let seats = was.seats.items in
    let many_stocks = length-map stocks fact_of in
    let facts_many = ap length was.of_stocks in
    let less = within_got facts k p.fact p.there in
    let own = slice_index_or stocks k c.index-stocks-place.result in
    let at : slice_get stocks k ≡ Some own =
    slice_get_read stocks (length stocks) k c.index-stocks-place.result refl (omega (arith, many_stocks, facts_many, less)) c.index-stocks-place.is
    ∙ ap Some c.index-stocks-place.is in
    let there : slice_get facts k ≡ Some (fact_of own) = subst (λ fs. slice_get fs k ≡ Some (fact_of own)) was.of_stocks (map_get fact_of stocks k own at) in
    let named : is_named object nr own.interval ≡ true =
    subst (λ (f : StockFact). is_named object nr f.interval ≡ true) (one_some p.fact (fact_of own) (sym p.there ∙ there)) p.is in
    let hd = c.draw_at-reply.ensures.drawn in
    subst (λ draws. MatchBool (is_named object nr i) (left_in facts (draws_of seats) i ≤ left_in facts draws i + 1)
    (left_in facts draws i ≡ left_in facts (draws_of seats) i)) (sym hd.draws)
    (takes_one facts (draws_of seats) k (fact_of own) object nr there named i)
