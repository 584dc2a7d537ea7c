use Rattle.replica_link.proofs.lemmas.Frees.{freed_ops-freed}
use Rattle.replica_link.proofs.laws.one_operation_frees_one.Goals as goal

pub returns : goal.returns
returns c = freed_ops-freed c.args._list.now c.args._name.now c.requires
