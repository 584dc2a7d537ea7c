use Rattle.std.proofs.Common.{◌≡◌, ◌<◌, List, Some, Ok, Err, length, sym, ap, ◌∙◌, subst}
use Rattle.std.specs.Prelude.{slice_get}
use Rattle.number_stock.specs.Rule.{IsUnanswered}
use Rattle.number_stock.specs.Seats.{hand, ticket_of}
use Rattle.number_stock.specs.declared.seat.StockSeat.{StockSeat}
use Rattle.hall_model.specs.declared.command.Reply.{Reply}
use Rattle.script_actors.specs.Actors.{session_of}
use Rattle.turn_lock.specs.Passes.{known}
use Rattle.turn_desks.specs.Draws.{HasDrawn, HasReserved, HasTried}
use Rattle.turn_desks.specs.Stocks.{AreSeatsAt, fact_of}
use Rattle.turn_desks.proofs.Drawings.{dry, plain_at, ready, tried_at, tried_long, tried_plain, tried_whole}
use Rattle.turn_desks.proofs.lemmas.Seating.{got_at}
use Rattle.turn_desks.proofs.drawing.draw_at.Goals as goal

pub draw_from-requires-clause-seat : goal.draw_from-requires-clause-seat
draw_from-requires-clause-seat g c = λ s there.
    let facts = g.S.Serving.stocks in
    let items = c.args.seats.now.items in
    let k = c.args.place in
    let value = c.as_mut_slice.ensures.value in
    plain_at facts c.args.own.now k c.requires.there items s c.requires.seats (subst (λ (l : List StockSeat). slice_get l k ≡ Some s) value there)

pub draw_dry-requires : goal.draw_dry-requires
draw_dry-requires g c =
    let facts = g.S.Serving.stocks in
    let own = c.args.own.now in
    let items = c.args.seats.now.items in
    let k = c.args.place in
    let value = c.as_mut_slice.ensures.value in
    let at = got_at items k c.requires.within in
    let now = c.draw_from.new.seats in
    let tried : HasTried own k items now (Err c.in-Err.dry) at.0 =
    subst (λ (l : List StockSeat). HasTried own k l now (Err c.in-Err.dry) at.0) value
    (c.in-Err.ensures at.0 (ap (λ (l : List StockSeat). slice_get l k) value ∙ at.1)) in
    let whole = tried_whole own k items now (Err c.in-Err.dry) at.0 c.args.seats.now.len (sym (ap length value) ∙ c.as_mut_slice.ensures.len) tried in
    record {
      session = c.requires.session;
      within = subst (λ (l : List StockSeat). k < length l) (sym whole) (tried_long own k items now (Err c.in-Err.dry) at.0 c.requires.within tried);
      seats = subst (AreSeatsAt facts) (sym whole) (tried_plain facts own k c.requires.there items now at.0 c.requires.seats at.1 (Err c.in-Err.dry) tried);
      there = c.requires.there;
      unanswered = λ s there.
          tried_at own k items now (Err c.in-Err.dry) at.0 s at.1 tried (subst (λ (l : List StockSeat). slice_get l k ≡ Some s) whole there)
          (λ x. IsUnanswered (ticket_of c.in-Err.dry) (hand x)) tried.dry;
      fits = tried.fits;
    }

pub returns-in-Ok-clause-drawn : goal.returns-in-Ok-clause-drawn
returns-in-Ok-clause-drawn g c =
    let facts = g.S.Serving.stocks in
    let own = c.args.own.now in
    let items = c.args.seats.now.items in
    let k = c.args.place in
    let value = c.as_mut_slice.ensures.value in
    let at = got_at items k c.requires.within in
    let now = c.draw_from.new.seats in
    let d = c.in-Ok.drawn in
    let pass = known c.args.caller.now.pass in
    let session = session_of c.args.caller.now.who in
    let tried : HasTried own k items now (Ok d) at.0 =
    subst (λ (l : List StockSeat). HasTried own k l now (Ok d) at.0) value
    (c.in-Ok.ensures at.0 (ap (λ (l : List StockSeat). slice_get l k) value ∙ at.1)) in
    let whole = tried_whole own k items now (Ok d) at.0 c.args.seats.now.len (sym (ap length value) ∙ c.as_mut_slice.ensures.len) tried in
    let drawn = ready facts own k c.requires.there items now at.0 c.requires.seats at.1 session c.args.at pass d c.number.result tried c.number.ensures in
    subst (λ (x : List StockSeat × Reply). HasDrawn facts k session c.args.at items x.0 pass pass x.1 (fact_of own))
    (λ i. (sym whole i, sym c.reply_of.ensures i)) drawn

pub returns-in-Err-clause-drawn : goal.returns-in-Err-clause-drawn
returns-in-Err-clause-drawn g c =
    let facts = g.S.Serving.stocks in
    let own = c.args.own.now in
    let items = c.args.seats.now.items in
    let k = c.args.place in
    let value = c.as_mut_slice.ensures.value in
    let at = got_at items k c.requires.within in
    let now = c.draw_from.new.seats in
    let e = c.in-Err.dry in
    let pass = known c.args.caller.now.pass in
    let then_pass = known c.draw_dry.new.caller.pass in
    let later = c.draw_dry.new.seats.items in
    let session = session_of c.args.caller.now.who in
    let tried : HasTried own k items now (Err e) at.0 =
    subst (λ (l : List StockSeat). HasTried own k l now (Err e) at.0) value
    (c.in-Err.ensures at.0 (ap (λ (l : List StockSeat). slice_get l k) value ∙ at.1)) in
    let whole = tried_whole own k items now (Err e) at.0 c.args.seats.now.len (sym (ap length value) ∙ c.as_mut_slice.ensures.len) tried in
    let reserved : HasReserved facts k session c.args.at now later pass then_pass c.draw_dry.result (fact_of own) =
    subst (λ (l : List StockSeat). HasReserved facts k session c.args.at l later pass then_pass c.draw_dry.result (fact_of own)) whole
    c.draw_dry.ensures.drawn in
    dry facts own k c.requires.there items now at.0 c.requires.seats at.1 session c.args.at pass then_pass e later c.draw_dry.result tried reserved
