use Rattle.std.proofs.Common.{IsTrue, sym, ap, subst, ◌∙◌}
use Rattle.module_effects.specs.Spots.{covers}
use Rattle.ledger_steps.specs.Posts.{HasDistinctRows}
use Rattle.posting.specs.Drafts.{DraftView}
use Rattle.posting.proofs.WorkedParts.{worked}
use Rattle.posting.proofs.draft.Draft.work.Goals as goal

pub work_on-requires : goal.work_on-requires
work_on-requires c =
    subst (λ es. IsTrue (covers c.as_slice.result.now es)) (sym c.as_slice-2.ensures)
    (subst (λ ss. IsTrue (covers ss c.self.inside.effects)) (sym c.as_slice.ensures) c.self.invariant.covered)

pub invariant_of-result : goal.invariant_of-result
invariant_of-result c =
    worked c.args.self c.as_slice.result.now c.as_slice-2.result.now c.in_ok-rows.rows.items c.from_vec.result c.in_ok-rows.outcome
    (c.as_slice.ensures ∙ ap (λ (d : DraftView). d.rows) c.self.view_is) (c.as_slice-2.ensures ∙ ap (λ (d : DraftView). d.effects) c.self.view_is)
    c.from_vec.ensures c.in_ok-rows.ensures.comes
    (c.in_ok-rows.ensures.once (subst HasDistinctRows (sym c.as_slice.ensures) c.self.invariant.once))

pub returns-clause-comes : goal.returns-clause-comes
returns-clause-comes c =
    worked c.args.self c.as_slice.result.now c.as_slice-2.result.now c.in_ok-rows.rows.items c.from_vec.result c.in_ok-rows.outcome
    (c.as_slice.ensures ∙ ap (λ (d : DraftView). d.rows) c.self.view_is) (c.as_slice-2.ensures ∙ ap (λ (d : DraftView). d.effects) c.self.view_is)
    c.from_vec.ensures c.in_ok-rows.ensures.comes
    (c.in_ok-rows.ensures.once (subst HasDistinctRows (sym c.as_slice.ensures) c.self.invariant.once))
