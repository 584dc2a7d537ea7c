use Rattle.std.proofs.Common.{◌≡◌, ◌<◌, true, false, length, Some, refl, arith}
use Rattle.std.specs.Prelude.{slice_get}
use Rattle.std.proofs.lemmas.Option.{slice_get_read}
use Rattle.turn_desks.proofs.HandingOver.{as_many_seats, handed_all, handed_none, handed_one, seat_by}
use Rattle.turn_desks.proofs.lemmas.Seating.{got_at}
use Rattle.turn_desks.proofs.handing.hand_all.Goals as goal

pub loop-place-init : goal.loop-place-init
loop-place-init c = record { so_far = handed_none c.args.stocks.now c.args.rights.now c.args.seats.now c.requires.rights c.requires.seats }

pub hand_over_at-requires : goal.hand_over_at-requires
hand_over_at-requires c =
    let stocks = c.args.stocks.now in
    let k = c.loop-place.place in
    let before = c.loop-place.invariant.so_far in
    let own = c.index-stocks-place.result in
    let within : k < length stocks = c.loop-place-test.true in
    let at : slice_get stocks k ≡ Some own = slice_get_read stocks (length stocks) k own refl within c.index-stocks-place.is in
    let rights = as_many_seats stocks true c.loop-place.rights before.rights_at in
    let seats = as_many_seats stocks false c.loop-place.seats before.seats_at in
    record {
      within = (omega (arith, within, rights), omega (arith, within, seats));
      right = seat_by stocks true c.loop-place.rights k own at before.rights_at;
      seat = seat_by stocks false c.loop-place.seats k own at before.seats_at;
    }

pub loop-place-preserved : goal.loop-place-preserved
loop-place-preserved c =
    let stocks = c.args.stocks.now in
    let k = c.loop-place.place in
    let before = c.loop-place.invariant.so_far in
    let own = c.index-stocks-place.result in
    let within : k < length stocks = c.loop-place-test.true in
    let at : slice_get stocks k ≡ Some own = slice_get_read stocks (length stocks) k own refl within c.index-stocks-place.is in
    let rights = as_many_seats stocks true c.loop-place.rights before.rights_at in
    let seats = as_many_seats stocks false c.loop-place.seats before.seats_at in
    let r = got_at c.loop-place.rights k (omega (arith, within, rights)) in
    let s = got_at c.loop-place.seats k (omega (arith, within, seats)) in
    record {
      so_far =
          handed_one stocks k c.args.rights.now c.args.seats.now c.loop-place.rights c.loop-place.seats c.hand_over_at.new.rights c.hand_over_at.new.seats own
          r.0 s.0 before within c.requires.seats at r.1 s.1 (c.hand_over_at.ensures r.0 s.0 r.1 s.1);
    }

pub returns : goal.returns
returns c =
    let stocks = c.args.stocks.now in
    let so_far = c.loop-place.invariant.so_far in
    let all = handed_all stocks c.loop-place.place c.args.rights.now c.args.seats.now _ _ c.requires.rights c.requires.seats (omega arith) so_far in
    record {
      rights = so_far.rights_at;
      seats = so_far.seats_at;
      limits = so_far.limits;
      handed = all.0;
      left = all.1;
    }
