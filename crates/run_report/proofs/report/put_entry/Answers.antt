use Rattle.std.proofs.Common.{◌∙◌}
use Rattle.run_report.proofs.Puts.{put_as}
use Rattle.run_report.proofs.Rows.{entry_whole}
use Rattle.run_report.proofs.report.put_entry.Goals as goal

pub returns : goal.returns
returns g c =
    put_as _ _ _ _ _ _ _
    (entry_whole c.args.place c.args.entry.now _ _ (c.as_slice.ensures.value ∙ c.entry_head-head.ensures)
    (c.as_slice-2.ensures.value ∙ c.entry_end-end.ensures))
    c.put_two.ensures
