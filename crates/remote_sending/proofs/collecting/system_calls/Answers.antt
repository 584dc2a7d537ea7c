use Rattle.remote_sending.proofs.Reading.{system_read}
use Rattle.remote_sending.proofs.collecting.system_calls.Goals as goal

pub returns-clause-calls : goal.returns-clause-calls
returns-clause-calls g c =
    system_read _ _ c.in_ok-rows.rows.items c.as_slice.result.now _ c.in_ok-rows.ensures.stays.rows c.as_slice.ensures.value c.in_ok-rows.ensures.rows
    c.in_ok-calls_of.ensures
