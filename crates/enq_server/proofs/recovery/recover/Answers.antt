use Rattle.std.proofs.Common.{refl}
use Rattle.enq_server.proofs.recovery.recover.Goals as goal

pub returns-clause-fault : goal.returns-clause-fault
returns-clause-fault g c = c.in-Err.ensures.fault c.args.lists.now (c.in_default-first_missing.ensures.agree refl)
