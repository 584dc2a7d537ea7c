-- What holds of every condition holds outside doubt.
use Rattle.enq_base.specs.declared.condition.Condition.{Condition}
use Rattle.enq_base.specs.declared.condition.Condition.TheVariants as condition
use Rattle.hall_model.specs.Kept.{OutsideDoubt}

pub outside_any : (k : Condition) (P : Type 0) → P → OutsideDoubt k P
outside_any condition.Up P h = h
outside_any condition.NoServer P h = h
outside_any (condition.Doubt n) P h = tt
