use Rattle.std.proofs.Common.{Err, sym, subst}
use Rattle.std.proofs.lemmas.Result.{err_from_is_err_and}
use Rattle.remote_target.specs.Carrying.{Carries, executed_by}
use Rattle.remote_target.proofs.Lines.{carries_lost, carries_on}
use Rattle.remote_target.proofs.mem_carrier.deliver_twice.Goals as goal

pub returns-in_err-_first : goal.returns-in_err-_first
returns-in_err-_first g c =
    let held = g.K.Keeper.held in
    let p = err_from_is_err_and c.from_residual.result c.from_residual.ensures.1 in
    subst (λ r. Carries (executed_by held c.args.line.now) (executed_by held c.deliver_sent.new.line) r) (sym p.1)
    (carries_lost (executed_by held c.args.line.now) (executed_by held c.deliver_sent.new.line) c.deliver_sent.result (Err p.0) c.deliver_sent.ensures tt)

pub returns : goal.returns
returns g c =
    let held = g.K.Keeper.held in
    carries_on (executed_by held c.args.line.now) (executed_by held c.deliver_sent.new.line)
    (executed_by held c.deliver_sent-2.new.line) c.deliver_sent.result c.deliver_sent-2.result c.deliver_sent.ensures c.deliver_sent-2.ensures
