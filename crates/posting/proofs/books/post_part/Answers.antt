use Rattle.std.proofs.Common.{◌≡◌, Some, IfOk, subst, ◌∙◌}
use Rattle.update_records.specs.Ledger.{Ledger}
use Rattle.update_records.specs.Marks.{unit_at}
use Rattle.ledger_steps.specs.Posts.{IsPost}
use Rattle.posting.specs.Mirrors.{business}
use Rattle.posting.proofs.AppliedParts.{part_is}
use Rattle.posting.proofs.books.post_part.Goals as goal

pub returns-clause-post : goal.returns-clause-post
returns-clause-post c =
    let ledger = c.args.mirror.now.ledger in
    let unit = c.args.unit.now in
    let there : unit_at ledger.units unit ≡ Some c.in-Some.found.now =
    subst (λ (l : Ledger). unit_at l.units unit ≡ Some c.in-Some.found.now) c.register.ensures c.in-Some.ensures.found in
    let effects = c.effects_in-effects.ensures ∙ part_is c.args.part ledger.units unit c.in-Some.found.now there in
    subst (λ es. IfOk c.post.result (λ r. IsPost es (business ledger) r.1 r.0.items)) effects
    (subst (λ t. IfOk c.post.result (λ r. IsPost c.effects_in-effects.result.now t r.1 r.0.items)) c.rows.ensures c.post.ensures.post)
