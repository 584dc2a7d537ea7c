use Rattle.std.proofs.Common.{arith}
use Rattle.std.proofs.lemmas.Result.{err_from_is_err_and}
use Rattle.run_report.proofs.Puts.{goes_first}
use Rattle.run_report.proofs.Rows.{past_failed, past_more, past_whole}
use Rattle.run_report.proofs.report.write_past.Goals as goal

pub loop-place-init : goal.loop-place-init
loop-place-init g c = goes_first _ _ _

pub loop-place-preserved : goal.loop-place-preserved
loop-place-preserved g c =
    past_more _ _ _ _ _ _ _ c.args.past.now c.loop-place.place c.index-past-place.result _ (omega (arith, c.loop-place-test.true))
    c.index-past-place.is c.loop-place.invariant c.in_ok-put_entry.ensures

pub returns : goal.returns
returns g c = past_whole _ _ _ _ _ c.args.past.now c.loop-place.place _ (omega (arith, c.loop-place-test.false)) c.loop-place.invariant

pub returns-in_err-put_entry : goal.returns-in_err-put_entry
returns-in_err-put_entry g c =
    let p = err_from_is_err_and c.from_residual.result c.from_residual.ensures.1 in
    rw p.1 (past_failed _ _ _ _ _ _ _ c.args.past.now c.loop-place.place c.index-past-place.result _ p.0 (omega (arith, c.loop-place-test.true))
    c.index-past-place.is c.loop-place.invariant c.in_err-put_entry.ensures)
