use Rattle.std.proofs.Common.{◌≡◌, ◌+◌, ◌<◌, ◌++◌, ◌∷◌, [], length, take, ap, sym, subst, arith, ◌∙◌}
use Rattle.std.proofs.lemmas.List.{length-take-le, take_more}
use Rattle.posting.specs.Restoring.{IsFollowed}
use Rattle.posting.proofs.FollowedMarks.{all_followed, may_be_next, turns_left}
use Rattle.posting.proofs.restoring.follow_all.Goals as goal

pub follow-requires-clause-few : goal.follow-requires-clause-few
follow-requires-clause-few c =
    let marks = c.args.marks.now in
    let i = c.loop-mark.mark-index in
    let few : length (take i marks) < 1048576 =
    omega (arith, c.requires.few, c.loop-mark-test.true, length-take-le i marks (omega (arith, c.loop-mark-test.true))) in
    turns_left c.make_room.new.self c.args.units.now (take i marks) (c.make_room.ensures.same c.args.units.now (take i marks) c.loop-mark.invariant) few

pub follow-requires-clause-placed : goal.follow-requires-clause-placed
follow-requires-clause-placed c = (c.make_room.ensures.same c.args.units.now (take c.loop-mark.mark-index c.args.marks.now) c.loop-mark.invariant).placed

pub loop-mark-preserved : goal.loop-mark-preserved
loop-mark-preserved c =
    let marks = c.args.marks.now in
    let units = c.args.units.now in
    let i = c.loop-mark.mark-index in
    let front : take i marks ++ c.mark-item.result ∷ [] ≡ take (i + 1) marks =
    ap (λ x. take i marks ++ x ∷ []) c.mark-item.is ∙ sym (take_more marks i c.mark-item.result c.loop-mark-test.true) in
    subst (IsFollowed c.follow.new.self units) front
    (c.follow.ensures (take i marks) (c.make_room.ensures.same units (take i marks) c.loop-mark.invariant)
    (may_be_next units marks i c.mark-item.result c.requires.legal c.requires.recorded c.loop-mark-test.true c.mark-item.is))

pub returns : goal.returns
returns c =
    all_followed c.loop-mark.followed c.args.units.now c.args.marks.now c.loop-mark.mark-index c.loop-mark-test.false c.requires.recorded c.loop-mark.invariant

pub loop-mark-init : goal.loop-mark-init
loop-mark-init c = c.new-followed.ensures c.args.units.now
