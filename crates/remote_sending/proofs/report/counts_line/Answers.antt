use Rattle.remote_sending.proofs.Lines.{line_made}
use Rattle.remote_sending.proofs.report.counts_line.Goals as goal

pub returns : goal.returns
returns c =
    line_made _ _ _ _ _ _ _ _ _ _ _ c.new-line.ensures.items c.in_ok-push_number.ensures c.in_ok-push_number-2.ensures c.in_ok-push_number-3.ensures
    c.in_ok-push_number-4.ensures
    c.in_ok-extend_from_slice.ensures.items
