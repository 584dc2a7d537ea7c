use Rattle.std.proofs.Common.{None, Ok, Err, refl, sym, subst}
use Rattle.std.proofs.lemmas.Result.{err_from_is_err_and}
use Rattle.remote_target.specs.Carrying.{Carries, executed_by}
use Rattle.remote_target.proofs.Lines.{carries_lost}
use Rattle.remote_target.proofs.mem_carrier.lose_answer.Goals as goal

pub returns-in_err-_lost : goal.returns-in_err-_lost
returns-in_err-_lost g c =
    let held = g.K.Keeper.held in
    let p = err_from_is_err_and c.from_residual.result c.from_residual.ensures.1 in
    subst (λ r. Carries (executed_by held c.args.line.now) (executed_by held c.deliver_sent.new.line) r) (sym p.1)
    (carries_lost (executed_by held c.args.line.now) (executed_by held c.deliver_sent.new.line) c.deliver_sent.result (Err p.0) c.deliver_sent.ensures tt)

pub returns : goal.returns
returns g c =
    let held = g.K.Keeper.held in
    carries_lost (executed_by held c.args.line.now) (executed_by held c.deliver_sent.new.line) c.deliver_sent.result (Ok None) c.deliver_sent.ensures refl
