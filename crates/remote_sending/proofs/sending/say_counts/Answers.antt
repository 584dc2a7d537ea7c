use Rattle.remote_sending.proofs.Lines.{first_none, said_first, said_ok}
use Rattle.remote_sending.proofs.sending.say_counts.Goals as goal

pub returns-in-Ok-clause-ok : goal.returns-in-Ok-clause-ok
returns-in-Ok-clause-ok g c = said_ok c.say.result _ _ _ _ _ c.as_slice.ensures.value c.in-Ok.ensures c.say.ensures.ok

pub returns-in-Ok-clause-first : goal.returns-in-Ok-clause-first
returns-in-Ok-clause-first g c = said_first _ _ _ _ _ c.as_slice.ensures.value c.in-Ok.ensures c.say.ensures.first

pub returns-in-Err-clause-first : goal.returns-in-Err-clause-first
returns-in-Err-clause-first g c = first_none _ _
