use Rattle.std.proofs.Common.{sym, ap, ◌∙◌}
use Rattle.remote_target.specs.Calls.{effect_of}
use Rattle.remote_target.proofs.Applies.{text_comes}
use Rattle.remote_target.proofs.execute.work_out.Goals as goal

pub returns-in-Ok-clause-comes : goal.returns-in-Ok-clause-comes
returns-in-Ok-clause-comes g c =
    text_comes (g.K.Keeper.held c.args.keeper.now) c.args.text.now c.in-Some.effect c.in_ok-row.row c.in-Ok.made.0 c.in-Ok.made.1
    (ap effect_of (sym c.bytes.ensures.same) ∙ sym c.in_ok-effect.ensures ∙ c.in-Some.is) c.in_ok-row.ensures.text c.in-Ok.ensures
