use Rattle.std.proofs.lemmas.Result.{err_from_is_err_and}
use Rattle.run_report.proofs.Puts.{put_more, put_part}
use Rattle.run_report.proofs.report.put_two.Goals as goal

pub returns : goal.returns
returns g c =
    let first = c.in_ok-put_all.ensures in
    let second = c.put_all-2.ensures in
    put_more _ _ _ _ _ _ c.args.first.now c.args.second.now _ _ (record { ok = first.ok; err = tt; cause = first.cause })
    (record { ok = second.ok; err = second.err; cause = second.cause })

pub returns-in_err-put_all : goal.returns-in_err-put_all
returns-in_err-put_all g c =
    let p = err_from_is_err_and c.from_residual.result c.from_residual.ensures.1 in
    let first = c.in_err-put_all.ensures in
    rw p.1 (put_part _ _ _ _ c.args.first.now c.args.second.now _ p.0 (record { ok = tt; err = first.err; cause = first.cause }))
