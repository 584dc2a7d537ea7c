use Rattle.std.proofs.Common.{IfOk, subst}
use Rattle.ledger_steps.specs.Posts.{IsPost}
use Rattle.posting.proofs.draft.post_worked.Goals as goal

pub returns-then-fits-clause-post : goal.returns-then-fits-clause-post
returns-then-fits-clause-post c =
    let tables = c.args.rows.now.tables in
    subst (λ es. IfOk c.outcome.result (λ r. IsPost es tables r.1 r.0.items)) (c.fits.ensures.effects c.if-fits.true)
    (c.outcome.ensures.comes tables (c.fits.ensures.present c.if-fits.true))
