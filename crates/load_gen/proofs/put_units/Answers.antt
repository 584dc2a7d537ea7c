use Rattle.load_gen.proofs.Scripts.{one_more}
use Rattle.load_gen.proofs.put_units.Goals as goal

pub loop-done-preserved : goal.loop-done-preserved
loop-done-preserved c = one_more _ _ _ c.loop-done.done c.loop-done.invariant c.in_ok-put_unit.ensures
