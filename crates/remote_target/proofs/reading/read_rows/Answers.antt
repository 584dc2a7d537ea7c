use Rattle.remote_target.proofs.Standing.{read_result}
use Rattle.remote_target.proofs.reading.read_rows.Goals as goal

pub returns-clause-calls : goal.returns-clause-calls
returns-clause-calls g c =
    let held = g.K.Keeper.held in
    read_result (held c.args.keeper.now) (held c.read_table.new.keeper) (held c.read_table-2.new.keeper) c.in_ok-calls.calls.items c.in_ok-texts.texts.items
    c.in_ok-counts.counts.items
    c.as_slice.result.now c.as_slice-2.result.now c.as_slice-3.result.now c.in_ok-calls.ensures.stays.rows c.in_ok-texts.ensures.stays.rows
    c.in_ok-calls.ensures.rows c.in_ok-texts.ensures.rows c.in_ok-counts.ensures.rows c.as_slice.ensures.value c.as_slice-2.ensures.value
    c.as_slice-3.ensures.value
    c.check.result c.check.ensures.good c.check.ensures.spelled
