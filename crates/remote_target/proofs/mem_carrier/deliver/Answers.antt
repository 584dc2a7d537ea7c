use Rattle.std.proofs.Common.{None, Ok, Err, sym, subst}
use Rattle.std.proofs.lemmas.Result.{err_from_is_err_and}
use Rattle.remote_target.specs.Carrying.{Carries, executed_by}
use Rattle.remote_target.proofs.Lines.{carries_lost, carries_on}
use Rattle.remote_target.proofs.mem_carrier.deliver.Goals as goal

pub returns-in_err-ready : goal.returns-in_err-ready
returns-in_err-ready g c =
    let held = g.K.Keeper.held in
    let p = err_from_is_err_and c.from_residual.result c.from_residual.ensures.1 in
    subst (λ r. Carries (executed_by held c.args.line.now) (executed_by held c.is_ready.new.self) r) (sym p.1)
    (carries_lost (executed_by held c.args.line.now) (executed_by held c.is_ready.new.self) (Ok None) (Err p.0) c.is_ready.ensures.carries tt)

pub returns-then-ready : goal.returns-then-ready
returns-then-ready g c =
    let held = g.K.Keeper.held in
    carries_on (executed_by held c.args.line.now) (executed_by held c.is_ready.new.self) (executed_by held c.call.new.self)
    (Ok None) c.call.result c.is_ready.ensures.carries c.call.ensures

pub returns : goal.returns
returns g c = c.is_ready.ensures.carries
