use Rattle.std.proofs.Common.{◌∙◌, ◌++◌, ◌∷◌, []}
use Rattle.std.proofs.lemmas.Result.{err_from_is_err_and}
use Rattle.run_report.proofs.Puts.{put_as, put_more, put_part}
use Rattle.run_report.proofs.Rows.{said_whole_line}
use Rattle.run_report.proofs.report.put_said.Goals as goal

pub returns : goal.returns
returns g c =
    let first = c.in_ok-put_all.ensures in
    let head = c.as_slice.result.now in
    let text = c.as_slice-text.result.now in
    put_as _ _ _ _ _ _ _ (said_whole_line c.args.said.now head text (c.as_slice.ensures.value ∙ c.number_text-head.ensures) c.as_slice-text.ensures)
    (put_more _ _ _ _ _ _ head (text ++ 10 ∷ []) _ _ (record { ok = first.ok; err = tt; cause = first.cause }) c.put_two.ensures)

pub returns-in_err-put_all : goal.returns-in_err-put_all
returns-in_err-put_all g c =
    let p = err_from_is_err_and c.from_residual.result c.from_residual.ensures.1 in
    let first = c.in_err-put_all.ensures in
    let head = c.as_slice.result.now in
    let text = c.as_slice-text.result.now in
    rw p.1
    (put_as _ _ _ _ _ _ _ (said_whole_line c.args.said.now head text (c.as_slice.ensures.value ∙ c.number_text-head.ensures) c.as_slice-text.ensures)
    (put_part _ _ _ _ head (text ++ 10 ∷ []) _ p.0 (record { ok = tt; err = first.err; cause = first.cause })))
