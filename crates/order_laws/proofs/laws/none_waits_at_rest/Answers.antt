use Rattle.order_laws.proofs.Claims.{claims_stay}
use Rattle.order_laws.proofs.NoneWaiting.{all_claimed, none_waits_at_rest, none_waits_claimed}
use Rattle.order_laws.proofs.Rested.{none_waits_behind}
use Rattle.order_laws.proofs.WorkerAnswers.{idle_take}
use Rattle.order_laws.proofs.laws.none_waits_at_rest.Goals as goal

pub returns : goal.returns
returns c = record {
  idle = idle_take;
  claimed = all_claimed;
  stay = claims_stay;
  claims = none_waits_claimed;
  behind = none_waits_behind;
  rest = none_waits_at_rest;
}
