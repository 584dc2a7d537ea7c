use Rattle.std.proofs.Common.{arith}
use Rattle.remote_sending.specs.Growing.{WasExecuted}
use Rattle.remote_sending.proofs.Asked.{at_some, goes_further, goes_itself, missed_at_last, missed_none}
use Rattle.remote_sending.proofs.asking.ask.Goals as goal

pub loop-turn-init : goal.loop-turn-init
loop-turn-init g c = record { goes = goes_itself _; rose = omega arith }

pub loop-turn-preserved : goal.loop-turn-preserved
loop-turn-preserved g c = record {
  goes = goes_further _ _ _ c.loop-turn.invariant.goes c.ask_once.ensures.goes_on;
  rose = missed_none c.loop-turn.turn _ _ _ _ c.in-Ok-None.field-0-is c.loop-turn.invariant.rose c.in-Ok-None.ensures.misses;
}

pub returns-in-Ok-Some-clause-outcome : goal.returns-in-Ok-Some-clause-outcome
returns-in-Ok-Some-clause-outcome g c =
    at_some (WasExecuted (g.C.Carrier.executed c.ask_once.new.carrier) c.args.tid.now) _ c.in-Ok-Some.outcome c.in-Ok-Some.field-0-is
    c.in-Ok-Some.ensures.outcome

pub returns-in-Ok-Some-clause-goes_on : goal.returns-in-Ok-Some-clause-goes_on
returns-in-Ok-Some-clause-goes_on g c = goes_further _ _ _ c.loop-turn.invariant.goes c.ask_once.ensures.goes_on

pub returns-in-Ok-Some-clause-misses : goal.returns-in-Ok-Some-clause-misses
returns-in-Ok-Some-clause-misses g c =
    missed_at_last c.loop-turn.turn _ _ _ _ c.in-Ok-Some.outcome c.in-Ok-Some.field-0-is c.loop-turn.invariant.rose c.in-Ok-Some.ensures.misses

pub returns-in-Err-clause-goes_on : goal.returns-in-Err-clause-goes_on
returns-in-Err-clause-goes_on g c = goes_further _ _ _ c.loop-turn.invariant.goes c.ask_once.ensures.goes_on

pub returns-clause-goes_on : goal.returns-clause-goes_on
returns-clause-goes_on g c = c.loop-turn.invariant.goes

pub returns-clause-misses : goal.returns-clause-misses
returns-clause-misses g c = let rose = c.loop-turn.invariant.rose in omega (arith, rose, c.loop-turn-test.false)
