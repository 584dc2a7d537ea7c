use Rattle.remote_sending.specs.Sends.{is_send}
use Rattle.remote_sending.proofs.Ends.{answered, completes}
use Rattle.remote_sending.proofs.sending.trfc_main.Goals as goal

pub returns-clause-answered : goal.returns-clause-answered
returns-clause-answered g c = answered c.why_of-why.result _ _ _ c.why_of-why.ensures.misses

pub returns-clause-complete : goal.returns-clause-complete
returns-clause-complete g c = λ is.
    completes (is_send c.args.words.now) c.why_of-why.result _ _ _ _ _ _ _ _ _ _ _ _ _ _ c.why_of-why.ensures.words is c.why_of-why.ensures.ends
    c.why_of-why.ensures.sink
    c.why_of-why.ensures.system c.why_of-why.ensures.outbox
