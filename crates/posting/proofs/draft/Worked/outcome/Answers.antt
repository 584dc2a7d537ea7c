use Rattle.std.proofs.Common.{sym, ap, subst, ◌∙◌}
use Rattle.ledger_steps.specs.Posts.{HasDistinctRows, IsPost}
use Rattle.posting.specs.Drafts.{IsWorked, WorkedView}
use Rattle.posting.proofs.draft.Worked.outcome.Goals as goal

pub returns-clause-comes : goal.returns-clause-comes
returns-clause-comes c = λ tables agree.
    let effects = c.args.self.now.draft.effects in
    let whole = subst IsWorked c.self.view_is c.self.invariant in
    let copied = c.in_ok-rows.ensures ∙ c.as_slice.ensures ∙ ap (λ (w : WorkedView). w.rows) c.self.view_is in
    subst (λ o. IsPost effects tables o c.in_ok-rows.rows.items) (sym (ap (λ (w : WorkedView). w.outcome) c.self.view_is))
    (subst (λ ss. IsPost effects tables c.args.self.now.outcome ss) (sym copied) (whole.comes tables agree))

pub returns-clause-once : goal.returns-clause-once
returns-clause-once c =
    let whole = subst IsWorked c.self.view_is c.self.invariant in
    let copied = c.in_ok-rows.ensures ∙ c.as_slice.ensures ∙ ap (λ (w : WorkedView). w.rows) c.self.view_is in
    subst HasDistinctRows (sym copied) whole.once
