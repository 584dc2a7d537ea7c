use Rattle.replica_link.proofs.lemmas.Drops.{owner_ops-freed_owner}
use Rattle.replica_link.proofs.laws.drops_free_the_owner.Goals as goal

pub returns : goal.returns
returns c = owner_ops-freed_owner c.args._list.now c.args._owner.now
