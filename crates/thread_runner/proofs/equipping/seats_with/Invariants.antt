use Rattle.std.proofs.Common.{◌≡◌, ◌≤◌, length, map, take, vec_capacity}
use Rattle.turn_desks.specs.Stocks.{AreFresh, AreRightsAt, AreSeatsAt, answered_of, draws_of, fact_of, limits_of}
use Rattle.thread_runner.proofs.equipping.seats_with.Given as goal

abbrev pub invariant-loop-place : goal.invariant-loop-place
invariant-loop-place l = record {
  rights : AreRightsAt (map fact_of l.stocks) l.rights.items;
  limits : limits_of l.rights.items ≡ limits_of l.fn.rights.items;
  handed : answered_of l.rights.items ≡ answered_of l.fn.rights.items;
  long : length l.seats.items ≡ l.place;
  room : length l.stocks ≤ vec_capacity l.seats;
  own : AreSeatsAt (take l.place (map fact_of l.stocks)) l.seats.items;
  fresh : AreFresh l.seats.items;
  draws : draws_of l.seats.items ≡ take l.place l.counts;
}
