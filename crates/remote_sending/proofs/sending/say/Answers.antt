use Rattle.remote_sending.proofs.Lines.{first_all}
use Rattle.remote_sending.proofs.sending.say.Goals as goal

pub returns-in-Ok-clause-first : goal.returns-in-Ok-clause-first
returns-in-Ok-clause-first g c = first_all _ _ c.args.bytes.now c.in-Ok.ensures.ok
