use Rattle.std.proofs.Common.{ap, sym, ◌∙◌}
use Rattle.std.specs.Prelude.{Ok}
use Rattle.dialogue_session.specs.Filling.{filled, joined}
use Rattle.dialogue_session.proofs.Fillings.{passed}
use Rattle.dialogue_session.proofs.filling.filled.Goals as goal

pub rest-preserved : goal.rest-preserved
rest-preserved c =
    let vs = c.args.variables.now.items in
    ap (λ r. joined (Ok c.put_next.new.text.items) (filled vs r)) c.behind-rest.ensures
    ∙ ap (joined (Ok c.put_next.new.text.items)) (sym (passed vs c.in_ok-passed.passed c.in-Some.after.now))
    ∙ c.in_ok-passed.ensures.put
    ∙ ap (λ r. joined (Ok c.rest.text.items) (filled vs r)) (sym c.in-Some.ensures.cases.0)
    ∙ c.rest.invariant
