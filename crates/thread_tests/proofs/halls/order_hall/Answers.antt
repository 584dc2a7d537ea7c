use Rattle.thread_tests.proofs.Opened.{none_has_order}
use Rattle.thread_tests.proofs.halls.order_hall.Goals as goal

pub returns-in-Ok-clause-free : goal.returns-in-Ok-clause-free
returns-in-Ok-clause-free c = none_has_order _ _ _ _ _ _ _ c.in-Ok.ensures.state

pub returns-in-Ok-clause-opened : goal.returns-in-Ok-clause-opened
returns-in-Ok-clause-opened c = record {
  max_locks = _;
  mark_limit = _;
  intervals = _;
  told = _;
  linked = _;
  is = c.in-Ok.ensures.state;
  known = c.in_ok-intervals.ensures;
  fits = c.in-Ok.ensures.fits;
  sound = c.in-Ok.ensures.sound;
}
