use Rattle.enq_server.proofs.lemmas.Held.{held_stand, held_unclashed}
use Rattle.enq_server.proofs.laws.what_a_table_held_stands_together.Goals as goal

pub returns-clause-sound : goal.returns-clause-sound
returns-clause-sound c = held_stand

pub returns-clause-unclashed : goal.returns-clause-unclashed
returns-clause-unclashed c = held_unclashed
