use Rattle.remote_sending.proofs.Faults.{keeper_ends, outbox_rises}
use Rattle.remote_sending.proofs.sending.open_outbox.Goals as goal

pub returns-in-Err-clause-cause : goal.returns-in-Err-clause-cause
returns-in-Err-clause-cause g c = outbox_rises c.in-Err.fault c.of_outbox.result _ _ c.of_outbox.ensures c.in-Err.ensures.cause

pub returns-in-Err-clause-end : goal.returns-in-Err-clause-end
returns-in-Err-clause-end g c = keeper_ends c.in-Err.fault c.of_outbox.result c.of_outbox.ensures
