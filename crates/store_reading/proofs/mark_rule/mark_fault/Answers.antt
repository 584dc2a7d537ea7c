use Rattle.std.proofs.Common.{◌≡◌, ◌+◌, ◌++◌, ◌∷◌, [], take, ap, sym, subst, ◌∙◌, arith}
use Rattle.std.proofs.lemmas.List.{take_more}
use Rattle.store_reading.specs.Rules.{is_right_mark}
use Rattle.store_reading.specs.Standings.{AreStatuses}
use Rattle.store_reading.proofs.Firsts.{wrong_more}
use Rattle.store_reading.proofs.mark_rule.mark_fault.Goals as goal

pub loop-stored-preserved : goal.loop-stored-preserved
loop-stored-preserved c =
    let followed = c.in_ok-follow.ensures c.args.headers.now (take c.loop-stored.stored-index c.args.marks.now) c.in_ok-second.ensures
    c.loop-stored.invariant.statuses in
    let front : take c.loop-stored.stored-index c.args.marks.now ++ c.stored-item.result ∷ [] ≡ take (c.loop-stored.stored-index + 1) c.args.marks.now =
    ap (λ x. take c.loop-stored.stored-index c.args.marks.now ++ x ∷ []) c.stored-item.is
    ∙ sym (take_more c.args.marks.now c.loop-stored.stored-index c.stored-item.result c.loop-stored-test.true) in
    record {
      place = omega arith;
      statuses = subst (AreStatuses c.follow.new.statuses c.args.headers.now) front (followed.1 c.if-not-branch.false);
      rest = wrong_more (is_right_mark c.args.start c.args.headers.now) 4 c.args.marks.now c.loop-stored.stored-index c.loop-stored.row c.stored-item.result _ _
          c.loop-stored-test.true c.stored-item.is c.loop-stored.invariant.place followed.0 c.if-not-branch.false c.loop-stored.invariant.rest;
    }
