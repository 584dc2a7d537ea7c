use Rattle.replica_link.proofs.lemmas.Grants.{granted_ops-granted}
use Rattle.replica_link.proofs.laws.puts_grant.Goals as goal

pub returns : goal.returns
returns c = granted_ops-granted c.args._list.now c.args._user.now c.args._names.now c.requires
