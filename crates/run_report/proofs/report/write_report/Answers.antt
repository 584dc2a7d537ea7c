use Rattle.run_report.proofs.Shows.{of_state, reports, reports_part}
use Rattle.run_report.proofs.report.write_report.Goals as goal

pub returns-in-Ok-clause-written : goal.returns-in-Ok-clause-written
returns-in-Ok-clause-written g c =
    let state = c.args.hall.now.state in
    let said = c.args.said.now in
    reports _ _ _ _ _ _ c.args.lines.now state said _ _ (of_state _ _ _ _ state c.past.result.now said _ c.past.ensures c.in-Ok.ensures) c.write_shows.ensures

pub returns-in-Err-clause-written : goal.returns-in-Err-clause-written
returns-in-Err-clause-written g c =
    let state = c.args.hall.now.state in
    let said = c.args.said.now in
    reports_part _ _ _ _ c.args.lines.now state said _ (of_state _ _ _ _ state c.past.result.now said _ c.past.ensures c.in-Err.ensures)
