use Rattle.std.proofs.Common.{◌≡◌, ◌+◌, ◌++◌, ◌∷◌, [], take, refl, ap, sym, subst, ◌∙◌, arith}
use Rattle.std.proofs.lemmas.List.{take_more}
use Rattle.store_reading.specs.Posts.{is_right_post, tables_by}
use Rattle.store_reading.specs.Posting.{AreTexts}
use Rattle.store_reading.proofs.Firsts.{wrong_here, wrong_more}
use Rattle.store_reading.proofs.post_rule.post_marks.Goals as goal

pub loop-stored-init : goal.loop-stored-init
loop-stored-init c = record { place = refl; texts = c.requires; rest = refl }

pub loop-stored-preserved : goal.loop-stored-preserved
loop-stored-preserved c =
    let steps = c.args.steps.now in
    let marks = c.args.marks.now in
    let followed = c.in_ok-follow_post.ensures steps (take c.loop-stored.stored-index marks) c.in_ok-parts.ensures c.loop-stored.invariant.texts in
    let front : take c.loop-stored.stored-index marks ++ c.stored-item.result ∷ [] ≡ take (c.loop-stored.stored-index + 1) marks =
    ap (λ x. take c.loop-stored.stored-index marks ++ x ∷ []) c.stored-item.is
    ∙ sym (take_more marks c.loop-stored.stored-index c.stored-item.result c.loop-stored-test.true) in
    record {
      place = omega arith;
      texts = subst (λ before. AreTexts c.follow_post.new.texts (tables_by steps before)) front (followed.1 c.if-not-branch.false);
      rest = wrong_more (is_right_post steps) 4 marks c.loop-stored.stored-index c.loop-stored.row c.stored-item.result _ _
          c.loop-stored-test.true c.stored-item.is c.loop-stored.invariant.place followed.0 c.if-not-branch.false c.loop-stored.invariant.rest;
    }

pub returns-then-not-branch : goal.returns-then-not-branch
returns-then-not-branch c =
    let steps = c.args.steps.now in
    let marks = c.args.marks.now in
    let followed = c.in_ok-follow_post.ensures steps (take c.loop-stored.stored-index marks) c.in_ok-parts.ensures c.loop-stored.invariant.texts in (
      wrong_here (is_right_post steps) 4 marks c.loop-stored.stored-index c.loop-stored.row c.stored-item.result _ _
          c.loop-stored-test.true c.stored-item.is c.loop-stored.invariant.place followed.0 c.if-not-branch.true c.loop-stored.invariant.rest,
      λ none. cc,
    )
