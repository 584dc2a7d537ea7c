use Rattle.std.proofs.Common.{◌≡◌, ℕ, List, map, ap, arith, ◌∙◌}
use Rattle.std.specs.List.{sum_by}
use Rattle.number_stock.specs.declared.seat.StockSeat.{StockSeat}
use Rattle.turn_desks.specs.Stocks.{StockFact, draws_of, fact_of}
use Rattle.thread_runner.proofs.Equipped.{seats_for}
use Rattle.thread_runner.proofs.equipping.equip.Goals as goal

pub returns-clause-kit : goal.returns-clause-kit
returns-clause-kit g c = λ intervals apart land cover.
    let facts : List StockFact = map fact_of c.args.stocks.now in
    let call = c.in_ok-seats.ensures in
    let seats : List StockSeat = c.in_ok-seats.seats.items in
    let counts : List ℕ = c.in_ok-counts.counts.items in
    let draws : draws_of seats ≡ counts = call.draws ∙ c.as_slice-2.ensures.value in
    let sum : c.in_ok-draws.draws ≡ sum_by (λ n. n) counts = c.in_ok-draws.ensures ∙ ap (sum_by (λ n. n)) c.as_slice.ensures.value in
    let same : sum_by (λ n. n) (draws_of seats) ≡ sum_by (λ n. n) counts = ap (sum_by (λ n. n)) draws in
    let room = c.in_ok-notes.ensures.capacity in
    let place = c.in_ok-numbers.ensures.capacity in
    record {
      seats = seats_for intervals facts c.args.lines.now c.args.who.now seats apart land cover call.own call.fresh (draws ∙ c.in_ok-counts.ensures);
      empty = c.in_ok-notes.ensures.items;
      room = omega (arith, sum, same, room);
      none = c.in_ok-numbers.ensures.items;
      place = omega (arith, place);
    }
