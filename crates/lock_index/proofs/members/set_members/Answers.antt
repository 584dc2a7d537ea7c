use Rattle.std.specs.List.{IsDistinct}
use Rattle.lock_index.proofs.members.set_members.Goals as goal

pub returns-in-None-clause-distinct : goal.returns-in-None-clause-distinct
unfolding IsDistinct
returns-in-None-clause-distinct c = tt
