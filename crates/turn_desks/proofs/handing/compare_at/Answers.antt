use Rattle.std.proofs.Common.{◌≡◌, length, set, Some, refl, sym, ap, ◌∙◌, subst}
use Rattle.std.specs.Prelude.{slice_get, slice_index_or}
use Rattle.std.proofs.lemmas.Option.{slice_get_read}
use Rattle.number_stock.specs.declared.seat.StockSeat.{StockSeat}
use Rattle.turn_desks.specs.Handing.{AreCompared}
use Rattle.turn_desks.proofs.lemmas.Seating.{one_some}
use Rattle.turn_desks.proofs.handing.compare_at.Goals as goal

pub compare-requires : goal.compare-requires
compare-requires c =
    let rights = c.args.rights.now in
    let seats = c.args.seats.now in
    let k = c.args.place in
    let right = slice_index_or rights k c.index-rights-place.result in
    let seat = slice_index_or seats k c.index-seats-place.result in
    let r = c.requires.right right (slice_get_read rights (length rights) k c.index-rights-place.result refl c.requires.within.0 c.index-rights-place.is
    ∙ ap Some c.index-rights-place.is) in
    let s = c.requires.seat seat (slice_get_read seats (length seats) k c.index-seats-place.result refl c.requires.within.1 c.index-seats-place.is
    ∙ ap Some c.index-seats-place.is) in
    record { own = (r.0, s.0); second = s.1 }

pub returns : goal.returns
returns c = λ r s at_r at_s.
    let rights = c.args.rights.now in
    let seats = c.args.seats.now in
    let k = c.args.place in
    let right = slice_index_or rights k c.index-rights-place.result in
    let seat = slice_index_or seats k c.index-seats-place.result in
    let right_at : slice_get rights k ≡ Some right = slice_get_read rights (length rights) k c.index-rights-place.result refl c.requires.within.0
    c.index-rights-place.is ∙ ap Some c.index-rights-place.is in
    let seat_at : slice_get seats k ≡ Some seat = slice_get_read seats (length seats) k c.index-seats-place.result refl c.requires.within.1
    c.index-seats-place.is ∙ ap Some c.index-seats-place.is in
    let call = c.compare.ensures in
    let rights_now = set rights k c.compare.new.right in
    let seats_now = set seats k c.compare.new.seat in
    let whole : AreCompared c.args.own.now k rights seats rights_now seats_now right seat = record {
      right_now = c.compare.new.right;
      seat_now = c.compare.new.seat;
      rights_are = refl;
      seats_are = refl;
      own_are = call.own;
      right_is = call.same.0;
      seat_is = call.same.1;
      once = call.once (c.requires.right right right_at).1;
    } in
    subst (λ (x : StockSeat × StockSeat). AreCompared c.args.own.now k rights seats rights_now seats_now x.0 x.1)
    (λ i. (one_some right r (sym right_at ∙ at_r) i, one_some seat s (sym seat_at ∙ at_s) i)) whole
