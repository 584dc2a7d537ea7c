use Rattle.std.proofs.Common.{◌≡◌, ◌+◌, ℕ, false, List, Some, length, map, sym, ap, ◌∙◌, subst, arith}
use Rattle.std.specs.Prelude.{slice_get}
use Rattle.number_stock.specs.Seats.{ticket_of}
use Rattle.number_stock.specs.declared.seat.StockSeat.{StockSeat}
use Rattle.hall_model.specs.declared.command.Reply.{Reply}
use Rattle.script_actors.specs.Actors.{full_after, session_of}
use Rattle.script_actors.specs.Drawings.{desk_call, with_call}
use Rattle.turn_lock.specs.Passes.{known}
use Rattle.turn_lock.specs.Rule.{own_entries}
use Rattle.turn_desks.specs.Draws.{HasAnswered, HasReserved}
use Rattle.turn_desks.specs.Stocks.{fact_of, is_level, reserving}
use Rattle.turn_desks.proofs.Desks.{as_many}
use Rattle.turn_desks.proofs.Drawings.{answered_then, answered_whole, plain_at, refused_then, still_unanswered}
use Rattle.turn_desks.proofs.lemmas.Seating.{got_at, within_got}
use Rattle.turn_desks.proofs.drawing.draw_dry.Goals as goal

pub answer_at-requires : goal.answer_at-requires
answer_at-requires g c =
    let facts = g.S.Serving.stocks in
    let own = c.args.own.now in
    let k = c.args.place in
    let items = c.reserve-reply.new.seats.items in
    let reserved = c.reserve-reply.ensures in
    let value = c.as_mut_slice.ensures.value in
    let back : (s : StockSeat) → slice_get c.as_mut_slice.result.now k ≡ Some s → slice_get items k ≡ Some s =
    λ s there. subst (λ (l : List StockSeat). slice_get l k ≡ Some s) value there in
    let many = as_many false facts items reserved.seats in
    let less = within_got facts k (fact_of own) c.requires.there in
    let long = ap length value in
    let was = got_at c.args.seats.now.items k c.requires.within in
    record {
      within = omega (arith, many, less, long);
      seat = λ s there. plain_at facts own k c.requires.there items s reserved.seats (back s there);
      unanswered = λ s there.
          still_unanswered k (ticket_of c.args.dry) c.args.seats.now.items items was.0 s reserved.same was.1 (back s there) (c.requires.unanswered was.0 was.1);
      below = λ s there.
          let high = reserved.heard (fact_of own) c.requires.there (ap (λ r. is_level r) c.in-Level.is) s (back s there) in
          let ticket = c.ticket.ensures in omega (arith, high, ticket);
    }

pub returns-in-Level-clause-drawn : goal.returns-in-Level-clause-drawn
returns-in-Level-clause-drawn g c =
    let facts = g.S.Serving.stocks in
    let own = c.args.own.now in
    let k = c.args.place in
    let items = c.reserve-reply.new.seats.items in
    let reserved = c.reserve-reply.ensures in
    let value = c.as_mut_slice.ensures.value in
    let many = as_many false facts items reserved.seats in
    let less = within_got facts k (fact_of own) c.requires.there in
    let at = got_at items k (omega (arith, many, less)) in
    let now = c.answer_at.new.seats in
    let ticket = ticket_of c.args.dry in
    let session = session_of c.args.caller.now.who in
    let pass = known c.args.caller.now.pass in
    let later = known c.reserve-reply.new.self.pass in
    let done : HasAnswered own k ticket items now c.answer_at.result at.0 =
    subst (λ (l : List StockSeat). HasAnswered own k ticket l now c.answer_at.result at.0) value
    (c.answer_at.ensures at.0 (ap (λ (l : List StockSeat). slice_get l k) value ∙ at.1)) in
    let whole = answered_whole own k ticket items now c.answer_at.result at.0 c.reserve-reply.new.seats.len
    (sym (ap length value) ∙ c.as_mut_slice.ensures.len) done in
    let asked = reserved.asked (fact_of own) c.requires.there in
    let calls = subst (λ (x : (List ℕ × ℕ) × Reply). map desk_call (own_entries later)
    ≡ with_call (map desk_call (own_entries pass)) 0 (reserving x.0.0 x.0.1 (fact_of own)) x.1)
    (λ i. ((c.session_name-session.ensures i, own.base + c.ticket.ensures i), c.in-Level.is i)) asked.own in
    subst (λ (l : List StockSeat). HasReserved facts k session c.args.at c.args.seats.now.items l pass later c.answer_at.result (fact_of own)) (sym whole)
    (answered_then facts own k c.requires.there items now at.0 reserved.seats at.1 session c.args.at c.args.seats.now.items pass later ticket c.in-Level.field-0
    c.answer_at.result reserved.same done calls)

pub returns-in-Level-clause-full_at : goal.returns-in-Level-clause-full_at
returns-in-Level-clause-full_at g c =
    let before = c.args.caller.now.notes.full_at in
    let k = c.args.place in
    let facts = g.S.Serving.stocks in
    let items = c.reserve-reply.new.seats.items in
    let reserved = c.reserve-reply.ensures in
    let many = as_many false facts items reserved.seats in
    let less = within_got facts k (fact_of c.args.own.now) c.requires.there in
    let at = got_at items k (omega (arith, many, less)) in
    let done = c.answer_at.ensures at.0 (ap (λ (l : List StockSeat). slice_get l k) c.as_mut_slice.ensures.value ∙ at.1) in
    reserved.full_at ∙ (ap (full_after before c.args.at) c.in-Level.is ∙ sym (ap (full_after before c.args.at) done.reply))

pub returns-in-Refused-clause-drawn : goal.returns-in-Refused-clause-drawn
returns-in-Refused-clause-drawn g c =
    let facts = g.S.Serving.stocks in
    let own = c.args.own.now in
    let k = c.args.place in
    let items = c.reserve-reply.new.seats.items in
    let reserved = c.reserve-reply.ensures in
    let session = session_of c.args.caller.now.who in
    let pass = known c.args.caller.now.pass in
    let later = known c.reserve-reply.new.self.pass in
    let n = own.base + c.ticket.result in
    let asked = reserved.asked (fact_of own) c.requires.there in
    let calls = subst (λ (x : List ℕ × Reply). map desk_call (own_entries later)
    ≡ with_call (map desk_call (own_entries pass)) 0 (reserving x.0 n (fact_of own)) x.1)
    (λ i. (c.session_name-session.ensures i, c.in-Refused.is i)) asked.own in
    refused_then facts own k c.requires.there session c.args.at n c.args.seats.now.items items c.in-Refused.refusal pass later reserved.same reserved.seats
    calls
