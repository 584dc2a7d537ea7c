use Rattle.remote_sending.proofs.Reading.{none_pushed}
use Rattle.remote_sending.proofs.collecting.push_if.Goals as goal

pub returns-in-None : goal.returns-in-None
returns-in-None c = none_pushed c.args.calls.now.items c.args.call c.in-None.is
