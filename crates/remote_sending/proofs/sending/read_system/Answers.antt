use Rattle.remote_sending.proofs.Faults.{system_ends, system_rises}
use Rattle.remote_sending.proofs.sending.read_system.Goals as goal

pub returns-in-Err-clause-cause : goal.returns-in-Err-clause-cause
returns-in-Err-clause-cause g c = system_rises c.in-Err.fault c.of_system.result _ _ c.of_system.ensures c.in-Err.ensures.cause

pub returns-in-Err-clause-end : goal.returns-in-Err-clause-end
returns-in-Err-clause-end g c = system_ends c.in-Err.fault c.of_system.result c.of_system.ensures
