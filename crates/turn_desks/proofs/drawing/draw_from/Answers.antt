use Rattle.std.proofs.Common.{◌≡◌, length, Some, refl, sym, ap, ◌∙◌, subst}
use Rattle.std.specs.Prelude.{slice_get, slice_index_or}
use Rattle.std.proofs.lemmas.Option.{slice_get_read}
use Rattle.turn_desks.specs.Draws.{HasTried}
use Rattle.turn_desks.proofs.Drawings.{fits_from, look_from}
use Rattle.turn_desks.proofs.lemmas.Seating.{one_some}
use Rattle.turn_desks.proofs.drawing.draw_from.Goals as goal

pub draw-requires : goal.draw-requires
draw-requires c =
    let seats = c.args.seats.now in
    let k = c.args.place in
    let seat = slice_index_or seats k c.index-seats-place.result in
    let at : slice_get seats k ≡ Some seat =
    slice_get_read seats (length seats) k c.index-seats-place.result refl c.requires.within c.index-seats-place.is ∙ ap Some c.index-seats-place.is in
    record { own = (c.requires.seat seat at).0; left = c.requires.left seat at }

pub returns : goal.returns
returns c = λ s there.
    let seats = c.args.seats.now in
    let k = c.args.place in
    let seat = slice_index_or seats k c.index-seats-place.result in
    let at : slice_get seats k ≡ Some seat =
    slice_get_read seats (length seats) k c.index-seats-place.result refl c.requires.within c.index-seats-place.is ∙ ap Some c.index-seats-place.is in
    let own = c.args.own.now in
    let call = c.draw.ensures in
    let whole : HasTried own k seats _ c.draw.result seat = record {
      seat_now = c.draw.new.seat;
      seats_are = refl;
      own_now = call.own;
      ticket = call.drawn.0;
      look = look_from own call.drawn.0 _ _ c.draw.result call.drawn.2;
      dry = call.dry;
      fits = fits_from own c.draw.result call.fits;
    } in
    subst (HasTried own k seats _ c.draw.result) (one_some seat s (sym at ∙ there)) whole
