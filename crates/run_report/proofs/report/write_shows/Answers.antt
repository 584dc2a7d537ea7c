use Rattle.std.proofs.lemmas.Result.{err_from_is_err_and}
use Rattle.run_report.proofs.Shows.{shows_failed, shows_first, shows_more, shows_whole}
use Rattle.run_report.proofs.report.write_shows.Goals as goal

pub loop-numbered-init : goal.loop-numbered-init
loop-numbered-init g c = shows_first _ _ _ _

pub loop-numbered-preserved : goal.loop-numbered-preserved
loop-numbered-preserved g c =
    shows_more _ _ _ _ _ _ _ c.args.lines.now c.loop-numbered.numbered-index c.numbered-item.result _ _ c.loop-numbered-test.true
    c.numbered-item.is c.loop-numbered.invariant c.in_ok-show_line.ensures

pub returns : goal.returns
returns g c = shows_whole _ _ _ _ _ c.args.lines.now c.loop-numbered.numbered-index _ _ c.loop-numbered-test.false c.loop-numbered.invariant

pub returns-in_err-show_line : goal.returns-in_err-show_line
returns-in_err-show_line g c =
    let p = err_from_is_err_and c.from_residual.result c.from_residual.ensures.1 in
    rw (p.1, p.2) (shows_failed _ _ _ _ _ _ _ c.args.lines.now c.loop-numbered.numbered-index c.numbered-item.result _ _ c.loop-numbered-test.true
    c.numbered-item.is c.loop-numbered.invariant c.in_err-show_line.ensures)
