use Rattle.std.proofs.Common.{◌≡◌, length, Some, refl, sym, ap, ◌∙◌, subst}
use Rattle.std.specs.Prelude.{slice_get, slice_index_or}
use Rattle.std.proofs.lemmas.Option.{slice_get_read}
use Rattle.number_stock.specs.Seats.{ticket_of}
use Rattle.turn_desks.specs.Draws.{HasAnswered}
use Rattle.turn_desks.proofs.Drawings.{answered_at, never_dry}
use Rattle.turn_desks.proofs.lemmas.Seating.{one_some}
use Rattle.turn_desks.proofs.drawing.answer_at.Goals as goal

pub again-requires : goal.again-requires
again-requires c =
    let seats = c.args.seats.now in
    let k = c.args.place in
    let seat = slice_index_or seats k c.index-seats-place.result in
    let at : slice_get seats k ≡ Some seat =
    slice_get_read seats (length seats) k c.index-seats-place.result refl c.requires.within c.index-seats-place.is ∙ ap Some c.index-seats-place.is in
    record { own = (c.requires.seat seat at).0; unanswered = c.requires.unanswered seat at }

pub unreachable-requires : goal.unreachable-requires
unreachable-requires c =
    let seats = c.args.seats.now in
    let k = c.args.place in
    let seat = slice_index_or seats k c.index-seats-place.result in
    let at : slice_get seats k ≡ Some seat =
    slice_get_read seats (length seats) k c.index-seats-place.result refl c.requires.within c.index-seats-place.is ∙ ap Some c.index-seats-place.is in
    never_dry _ _ _ _ _ c.in-Err.ensures.answered (c.requires.below seat at)

pub returns : goal.returns
returns c = λ s there.
    let seats = c.args.seats.now in
    let k = c.args.place in
    let seat = slice_index_or seats k c.index-seats-place.result in
    let at : slice_get seats k ≡ Some seat =
    slice_get_read seats (length seats) k c.index-seats-place.result refl c.requires.within c.index-seats-place.is ∙ ap Some c.index-seats-place.is in
    let own = c.args.own.now in
    let call = c.in-Ok.ensures in
    let t = ticket_of c.args.dry in
    let look = call.answered in
    let whole : HasAnswered own k t seats _ c.reply_of.result seat = record {
      seat_now = c.again.new.seat;
      seats_are = refl;
      own_now = call.own;
      limit = look.limit;
      knows = look.knows;
      below = look.replies.1;
      reply = answered_at own t c.number.result c.reply_of.result (c.number.ensures ∙ look.replies.0) c.reply_of.ensures;
    } in
    subst (HasAnswered own k t seats _ c.reply_of.result) (one_some seat s (sym at ∙ there)) whole
