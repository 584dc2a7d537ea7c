use Rattle.std.proofs.Common.{refl, ◌∙◌, arith}
use Rattle.remote_sending.proofs.Asked.{goes_further, goes_itself, missed_counted}
use Rattle.remote_sending.proofs.Ends.{rises_from}
use Rattle.remote_sending.proofs.IfOpen.{all_left, begun, begun_rose, counted_sent, counts_fit, stop_left}
use Rattle.remote_sending.proofs.Steps.{all_sent, lines_stopped, one_more_sent}
use Rattle.remote_sending.proofs.sending.send_open.Goals as goal

pub loop-call-init : goal.loop-call-init
loop-call-init g c = record {
  opened = c.requires.opened;
  told = refl;
  count = refl;
  sink = refl;
  goes = goes_itself _;
  rose = begun_rose c.no_counts-counts.result _ c.no_counts-counts.ensures;
  so_far = begun c.args.calls.now _ _ _ c.no_counts-counts.result c.no_counts-counts.ensures;
}

pub loop-call-preserved : goal.loop-call-preserved
loop-call-preserved g c =
    let before = c.loop-call.invariant in
    record {
      opened = c.in-Ok.ensures.opened;
      told = c.send_if_open.ensures.told ∙ before.told;
      count = c.in-Ok.ensures.cause ∙ before.count;
      sink = c.in-Ok.ensures.sink ∙ before.sink;
      goes = goes_further _ _ _ before.goes c.send_if_open.ensures.goes_on;
      rose = missed_counted c.loop-call.counts c.counted-counts.result c.in-Ok.outcome _ _ _ c.counted-counts.ensures before.rose c.in-Ok.ensures.misses;
      so_far = counted_sent c.counted-counts.result _ c.args.calls.now _ _ _ _ _ _ _ c.counted-counts.ensures
          (one_more_sent c.args.calls.now c.loop-call.call-index c.call-item.result c.in-Ok.outcome c.loop-call.counts _ _ _ _ _ _ _ _ _ c.loop-call-test.true
          c.call-item.is before.so_far
          (record { rows = c.in-Ok.ensures.rows; line = c.in-Ok.ensures.line }));
    }

pub returns-in-Err-clause-left : goal.returns-in-Err-clause-left
returns-in-Err-clause-left g c = λ told found.
    stop_left told found c.args.calls.now c.loop-call.call-index c.call-item.result c.loop-call.counts _ _ _ _ _ _ _ _ c.loop-call.invariant.told
    c.loop-call-test.true c.call-item.is
    c.loop-call.invariant.so_far c.send_if_open.ensures.left

pub returns-in-Err-clause-stopped : goal.returns-in-Err-clause-stopped
returns-in-Err-clause-stopped g c = λ found all h.
    lines_stopped c.args.calls.now c.loop-call.call-index c.call-item.result c.loop-call.counts _ _ _ _ _ _ _ _ c.loop-call.invariant.told
    c.loop-call-test.true c.call-item.is
    c.loop-call.invariant.so_far c.in-Err.ensures.stopped found all h

pub returns-in-Err-clause-goes_on : goal.returns-in-Err-clause-goes_on
returns-in-Err-clause-goes_on g c = goes_further _ _ _ c.loop-call.invariant.goes c.send_if_open.ensures.goes_on

pub returns-in-Err-clause-sink : goal.returns-in-Err-clause-sink
returns-in-Err-clause-sink g c = rises_from _ _ _ _ c.loop-call.invariant.sink c.in-Err.ensures.sink

pub returns-in-Err-clause-cause : goal.returns-in-Err-clause-cause
returns-in-Err-clause-cause g c = rises_from _ _ _ _ c.loop-call.invariant.count c.in-Err.ensures.cause

pub returns-clause-left : goal.returns-clause-left
returns-clause-left g c = λ told found.
    all_left told found c.args.calls.now c.loop-call.call-index c.loop-call.counts _ _ _ _ _ _ _ c.loop-call.invariant.told
    (g.met.O.Keeper.settled c.loop-call.outbox c.loop-call.invariant.opened) c.loop-call.invariant.so_far

pub returns-clause-sent : goal.returns-clause-sent
returns-clause-sent g c = λ found all h.
    all_sent c.args.calls.now c.loop-call.call-index c.loop-call.counts _ _ _ _ _ _ c.loop-call.invariant.told c.loop-call-test.false
    c.loop-call.invariant.so_far found all h

pub counted-counts-requires : goal.counted-counts-requires
counted-counts-requires g c =
    let fits = counts_fit c.args.calls.now c.loop-call.call-index c.loop-call.counts _ _ _ _ _ _ c.loop-call.invariant.so_far in
    record {
      done = omega (arith, fits.0, c.requires.few, c.loop-call-test.true);
      bad = omega (arith, fits.1, c.requires.few, c.loop-call-test.true);
      opened = omega (arith, fits.2, c.requires.few, c.loop-call-test.true);
    }
