use Rattle.std.proofs.Common.{◌+◌, ◌∷◌, [], ℕ, List, length, length-append, map, take, arith, sym, ap, ◌∙◌, subst}
use Rattle.number_stock.specs.declared.seat.StockSeat.{StockSeat}
use Rattle.turn_desks.specs.Stocks.{AreFresh, AreSeatsAt, StockFact, draws_of, fact_of}
use Rattle.turn_desks.specs.declared.stocks.IntervalStock.{IntervalStock}
use Rattle.thread_runner.proofs.Counted.{facts_at, facts_long}
use Rattle.thread_runner.proofs.Seated.{AreStillRights, draws_more, fresh_more, right_own, seats_more, still_rights}
use Rattle.thread_runner.proofs.equipping.seats_with.Goals as goal

pub seat_with-requires : goal.seat_with-requires
seat_with-requires c = record {
  own = right_own c.args.stocks.now c.loop-place.rights.items c.loop-place.place c.index-stocks-place.result c.index_mut.result.now c.loop-place-test.true
      c.index-stocks-place.is c.index_mut.ensures.value c.loop-place.invariant.rights;
}

pub returns-in_err-seat-clause-rights : goal.returns-in_err-seat-clause-rights
returns-in_err-seat-clause-rights c =
    let inv = c.loop-place.invariant in
    (still_rights c.args.stocks.now c.args.rights.now.items c.loop-place.rights.items c.loop-place.place c.index-stocks-place.result c.index_mut.result.now
    c.seat_with.new.right c.loop-place-test.true c.index-stocks-place.is c.index_mut.ensures.value
    (record { rights = inv.rights; limits = inv.limits; handed = inv.handed }) c.seat_with.ensures.own c.seat_with.ensures.kept).rights

pub returns-in_err-seat-clause-limits : goal.returns-in_err-seat-clause-limits
returns-in_err-seat-clause-limits c =
    let inv = c.loop-place.invariant in
    (still_rights c.args.stocks.now c.args.rights.now.items c.loop-place.rights.items c.loop-place.place c.index-stocks-place.result c.index_mut.result.now
    c.seat_with.new.right c.loop-place-test.true c.index-stocks-place.is c.index_mut.ensures.value
    (record { rights = inv.rights; limits = inv.limits; handed = inv.handed }) c.seat_with.ensures.own c.seat_with.ensures.kept).limits

pub returns-in_err-seat-clause-handed : goal.returns-in_err-seat-clause-handed
returns-in_err-seat-clause-handed c =
    let inv = c.loop-place.invariant in
    (still_rights c.args.stocks.now c.args.rights.now.items c.loop-place.rights.items c.loop-place.place c.index-stocks-place.result c.index_mut.result.now
    c.seat_with.new.right c.loop-place-test.true c.index-stocks-place.is c.index_mut.ensures.value
    (record { rights = inv.rights; limits = inv.limits; handed = inv.handed }) c.seat_with.ensures.own c.seat_with.ensures.kept).handed

pub loop-place-preserved : goal.loop-place-preserved
loop-place-preserved c =
    let inv = c.loop-place.invariant in
    let stocks : List IntervalStock = c.args.stocks.now in
    let facts : List StockFact = map fact_of stocks in
    let k : ℕ = c.loop-place.place in
    let own : IntervalStock = c.index-stocks-place.result in
    let is = c.index-stocks-place.is in
    let within = c.loop-place-test.true in
    let many = facts_long stocks in
    let counted = c.requires.counts in
    let seat : StockSeat = c.in_ok-seat.seat in
    let made = c.in_ok-seat.ensures.seat in
    let was : List StockSeat = c.loop-place.seats.items in
    let push = c.push_reserved.ensures in
    let more = ap length push.items in
    let one = length-append was (seat ∷ []) in
    let long = inv.long in
    let room = inv.room in
    let capacity = push.capacity in
    let still : AreStillRights facts c.args.rights.now.items _ =
    still_rights stocks c.args.rights.now.items c.loop-place.rights.items k own c.index_mut.result.now c.seat_with.new.right within is
    c.index_mut.ensures.value (record { rights = inv.rights; limits = inv.limits; handed = inv.handed }) c.seat_with.ensures.own c.seat_with.ensures.kept in
    record {
      rights = still.rights;
      limits = still.limits;
      handed = still.handed;
      long = omega (arith, more, one, long);
      room = omega (arith, room, capacity);
      own = subst (λ l. AreSeatsAt (take (k + 1) facts) l) (sym push.items)
          (seats_more facts k (fact_of own) was seat (omega (arith, within, many)) (facts_at stocks k own within is) inv.own
          (made.0 ∙ ap (λ (s : IntervalStock). s.stock.table.shared.table_id) (sym is)) made.1.raises);
      fresh = subst AreFresh (sym push.items) (fresh_more was seat made.1.answered made.1.drawn inv.fresh);
      draws = ap draws_of push.items ∙ draws_more c.args.counts.now k 0 was seat (omega (arith, within, counted)) made.1.draws inv.draws;
    }
