use Rattle.replica_link.proofs.lemmas.Grants.{readmitted_ops-readmitted}
use Rattle.replica_link.proofs.laws.puts_readmit.Goals as goal

pub returns : goal.returns
returns c = readmitted_ops-readmitted c.args._list.now c.args._asker.now c.args._given.now c.requires.distinct c.requires.given
