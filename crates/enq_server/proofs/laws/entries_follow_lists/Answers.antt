use Rattle.enq_server.proofs.lemmas.Listed.{entries-among, entries-with, entries-without}
use Rattle.enq_server.proofs.laws.entries_follow_lists.Goals as goal

pub returns-clause-with_one : goal.returns-clause-with_one
returns-clause-with_one c = entries-with

pub returns-clause-without : goal.returns-clause-without
returns-clause-without c = entries-without

pub returns-clause-among : goal.returns-clause-among
returns-clause-among c = entries-among
