use Rattle.replica_link.proofs.lemmas.Converts.{converted_ops-conversion}
use Rattle.replica_link.proofs.laws.turns_convert.Goals as goal

pub returns : goal.returns
returns c = converted_ops-conversion c.args._asker.now c.args._asked.now c.args._list.now
