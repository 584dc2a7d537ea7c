use Rattle.store_reading.proofs.unit_rule.UnitIndex.new.Goals as goal

pub returns : goal.returns
returns c = record {
  counted = c.in_ok-counts.ensures;
  in_modules = c.in_ok-rows_of.ensures;
  in_steps = c.in_ok-rows_of-2.ensures;
  in_locks = c.in_ok-rows_of-3.ensures;
  doubled = c.in_ok-twins.ensures c.args.headers.now c.in_ok-counts.ensures;
}
