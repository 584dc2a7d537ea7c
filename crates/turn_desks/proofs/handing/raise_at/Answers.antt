use Rattle.std.proofs.Common.{◌≡◌, ℕ, length, set, Option, Some, refl, sym, ap, ◌∙◌, subst}
use Rattle.std.specs.Prelude.{slice_get, slice_index_or}
use Rattle.std.proofs.lemmas.Option.{slice_get_read}
use Rattle.number_stock.specs.declared.seat.StockSeat.{StockSeat}
use Rattle.turn_desks.specs.Handing.{IsRaisedBy, Reaches}
use Rattle.turn_desks.proofs.lemmas.Seating.{one_some, set_same}
use Rattle.turn_desks.proofs.handing.raise_at.Goals as goal

pub returns-in_default : goal.returns-in_default
returns-in_default c = λ r s at_r at_s.
    let rights = c.args.rights.now in
    let seats = c.args.seats.now in
    let k = c.args.place in
    let own = c.args.own.now in
    subst (λ (o : Option ℕ). IsRaisedBy own k o rights seats rights seats r s) (sym c.in_default.is)
    (record {
      right_now = r;
      seat_now = s;
      rights_are = set_same rights k r at_r;
      seats_are = set_same seats k s at_s;
      own_are = ((c.requires.right r at_r).0, (c.requires.seat s at_s).0);
      right_is = refl;
      seat_is = refl;
    })

pub raise-requires : goal.raise-requires
raise-requires c =
    let rights = c.args.rights.now in
    let seats = c.args.seats.now in
    let k = c.args.place in
    let right = slice_index_or rights k c.index-rights-place.result in
    let seat = slice_index_or seats k c.index-seats-place.result in
    let right_at : slice_get rights k ≡ Some right =
    slice_get_read rights (length rights) k c.index-rights-place.result refl c.requires.within.0 c.index-rights-place.is ∙ ap Some c.index-rights-place.is in
    let seat_at : slice_get seats k ≡ Some seat =
    slice_get_read seats (length seats) k c.index-seats-place.result refl c.requires.within.1 c.index-seats-place.is ∙ ap Some c.index-seats-place.is in
    let r = c.requires.right right right_at in
    let s = c.requires.seat seat seat_at in
    record { own = (r.0, s.0); right = r.1; behind = subst (λ (o : Option ℕ). Reaches o c.args.own.now.base) c.in-Some.is c.requires.reaches }

pub returns : goal.returns
returns c = λ r s at_r at_s.
    let rights = c.args.rights.now in
    let seats = c.args.seats.now in
    let k = c.args.place in
    let own = c.args.own.now in
    let right = slice_index_or rights k c.index-rights-place.result in
    let seat = slice_index_or seats k c.index-seats-place.result in
    let right_at : slice_get rights k ≡ Some right =
    slice_get_read rights (length rights) k c.index-rights-place.result refl c.requires.within.0 c.index-rights-place.is ∙ ap Some c.index-rights-place.is in
    let seat_at : slice_get seats k ≡ Some seat =
    slice_get_read seats (length seats) k c.index-seats-place.result refl c.requires.within.1 c.index-seats-place.is ∙ ap Some c.index-seats-place.is in
    let call = c.raise.ensures in
    let rights_now = set rights k c.raise.new.right in
    let seats_now = set seats k c.raise.new.seat in
    let whole : IsRaisedBy own k (Some c.in-Some.level) rights seats rights_now seats_now right seat = record {
      right_now = c.raise.new.right;
      seat_now = c.raise.new.seat;
      rights_are = refl;
      seats_are = refl;
      own_are = call.own;
      right_is = call.raised;
      seat_is = call.heard;
    } in
    subst (λ (o : Option ℕ). IsRaisedBy own k o rights seats rights_now seats_now r s) (sym c.in-Some.is)
    (subst (λ (x : StockSeat × StockSeat). IsRaisedBy own k (Some c.in-Some.level) rights seats rights_now seats_now x.0 x.1)
    (λ i. (one_some right r (sym right_at ∙ at_r) i, one_some seat s (sym seat_at ∙ at_s) i)) whole)
