use Rattle.std.proofs.Common.{sym, subst}
use Rattle.module_effects.specs.Spots.{Agree}
use Rattle.ledger_steps.specs.Posts.{HasDistinctRows}
use Rattle.posting.proofs.draft.post_anew.Goals as goal

pub returns-clause-post : goal.returns-clause-post
returns-clause-post c =
    let tables = c.args.rows.now.tables in
    c.work_on.ensures.comes tables (subst (λ ss. Agree ss tables) (sym c.as_slice.ensures.value) c.in_ok-touched.ensures.present)

pub returns-clause-once : goal.returns-clause-once
returns-clause-once c = c.work_on.ensures.once (subst HasDistinctRows (sym c.as_slice.ensures.value) c.in_ok-touched.ensures.once)
