use Rattle.store_reading.proofs.units.units_told.Goals as goal

pub returns : goal.returns
returns c = record {
  users = c.in_ok-users.ensures;
  places = c.in_ok-places_of.ensures;
  parts = c.in_ok-parts_of.ensures;
  entries = c.in_ok-locks.ensures c.args.headers.now c.in_ok-users.ensures;
}
