use Rattle.std.proofs.Common.{sym, subst}
use Rattle.module_effects.specs.Spots.{IsRefused}
use Rattle.business_rows.proofs.TouchedRows.{no_rows}
use Rattle.ledger_steps.specs.Posts.{HasDistinctRows, IsPost}
use Rattle.ledger_steps.specs.declared.step.Outcome.TheVariants.{Refused}
use Rattle.posting.proofs.AppliedParts.{refused_post}
use Rattle.posting.proofs.draft.work_on.Goals as goal

pub returns-in-Err-Refused-clause-comes : goal.returns-in-Err-Refused-clause-comes
returns-in-Err-Refused-clause-comes c = λ tables agree.
    let index = c.in-Err-Refused.index in
    let reason = c.in-Err-Refused.reason in
    let spots = c.args.spots.now in
    let effects = c.args.effects.now in
    subst (λ ss. IsPost effects tables (Refused index reason) ss) (sym c.new.ensures.items)
    (refused_post spots effects index reason (subst (IsRefused spots effects) c.in-Err-Refused.field-0-is c.in-Err-Refused.ensures.refused) tables agree)

pub returns-in-Err-Refused-clause-once : goal.returns-in-Err-Refused-clause-once
returns-in-Err-Refused-clause-once c = λ h. subst HasDistinctRows (sym c.new.ensures.items) no_rows
