use Rattle.std.proofs.lemmas.Result.{err_from_is_err_and}
use Rattle.run_report.proofs.Puts.{put_more, put_part}
use Rattle.run_report.proofs.report.write_done.Goals as goal

pub returns : goal.returns
returns g c = put_more _ _ _ _ _ _ _ _ _ _ c.in_ok-write_past.ensures c.write_said.ensures

pub returns-in_err-write_past : goal.returns-in_err-write_past
returns-in_err-write_past g c =
    let p = err_from_is_err_and c.from_residual.result c.from_residual.ensures.1 in
    rw p.1 (put_part _ _ _ _ _ _ _ p.0 c.in_err-write_past.ensures)
