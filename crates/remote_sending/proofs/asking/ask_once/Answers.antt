use Rattle.remote_sending.proofs.Asked.{own_executed_as, own_missed_as, turn_goes_on}
use Rattle.remote_sending.proofs.asking.ask_once.Goals as goal

pub returns-in_err-answer-clause-goes_on : goal.returns-in_err-answer-clause-goes_on
returns-in_err-answer-clause-goes_on g c = turn_goes_on _ _ c.turn.ensures.told c.turn.ensures.kept

pub returns-clause-outcome : goal.returns-clause-outcome
returns-clause-outcome g c = own_executed_as _ c.args.tid.now c.in_ok-answer.answer c.own_outcome.result c.own_outcome.ensures c.in_ok-answer.ensures.answered

pub returns-clause-goes_on : goal.returns-clause-goes_on
returns-clause-goes_on g c = turn_goes_on _ _ c.turn.ensures.told c.turn.ensures.kept

pub returns-clause-misses : goal.returns-clause-misses
returns-clause-misses g c = own_missed_as c.args.tid.now c.in_ok-answer.answer c.own_outcome.result _ _ c.own_outcome.ensures c.in_ok-answer.ensures.cause
