use Rattle.script_runner.specs.Lines.{field_values}
use Rattle.script_runner.proofs.Filled.{values-step}
use Rattle.script_runner.proofs.requests.field_values.Goals as goal

pub rest-preserved : goal.rest-preserved
rest-preserved c =
    let vs = c.args.side.now.side.variables in
    values-step vs c.rest.all.items c.put_value.new.values.items c.in-Some.value.now c.in_ok-given.given c.as_slice.result.now c.rest.rest.now
    c.in-Some.after.now (field_values vs c.args.values.now)
    c.in-Some.ensures.cases.0 c.as_slice.ensures c.in_ok-given.ensures c.in_ok-put_value.ensures.put c.rest.invariant
