use Rattle.std.proofs.lemmas.Result.{err_from_is_err_and}
use Rattle.run_report.proofs.Puts.{goes_first}
use Rattle.run_report.proofs.Rows.{said_failed, said_more, said_whole}
use Rattle.run_report.proofs.report.write_said.Goals as goal

pub loop-one-init : goal.loop-one-init
loop-one-init g c = goes_first _ _ _

pub loop-one-preserved : goal.loop-one-preserved
loop-one-preserved g c =
    said_more _ _ _ _ _ _ _ c.args.said.now c.loop-one.one-index c.one-item.result _ c.loop-one-test.true c.one-item.is
    c.loop-one.invariant c.in_ok-put_said.ensures

pub returns : goal.returns
returns g c = said_whole _ _ _ _ _ c.args.said.now c.loop-one.one-index _ c.loop-one-test.false c.loop-one.invariant

pub returns-in_err-put_said : goal.returns-in_err-put_said
returns-in_err-put_said g c =
    let p = err_from_is_err_and c.from_residual.result c.from_residual.ensures.1 in
    rw p.1 (said_failed _ _ _ _ _ _ _ c.args.said.now c.loop-one.one-index c.one-item.result _ p.0 c.loop-one-test.true c.one-item.is
    c.loop-one.invariant c.in_err-put_said.ensures)
