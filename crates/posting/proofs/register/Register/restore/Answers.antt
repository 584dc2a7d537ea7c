use Rattle.std.proofs.Common.{◌*◌, ◌≤◌, length, ap, subst, ◌∙◌}
use Rattle.update_records.specs.Business.{numbers_of}
use Rattle.posting.specs.Restoring.{AreFollowed}
use Rattle.posting.proofs.FollowedMarks.{restored_register}
use Rattle.posting.proofs.register.Register.restore.Goals as goal

pub invariant_of-result : goal.invariant_of-result
invariant_of-result c =
    let units = c.args.units.items in
    let marks = c.args.marks.items in
    let followed : AreFollowed c.in_ok-followed.followed units marks = subst (λ us. AreFollowed c.in_ok-followed.followed us marks) c.as_slice.ensures.value
    (subst (AreFollowed c.in_ok-followed.followed c.as_slice.result.now) c.as_slice-2.ensures.value c.in_ok-followed.ensures) in
    restored_register c.args.start units marks c.in_ok-followed.followed.standings c.in_ok-followed.followed.v1_queue.turns
    c.in_ok-followed.followed.v2_queue.turns c.count_numbers-numbers.result c.requires.begun c.requires.few
    followed.standings followed.v1_queue followed.v2_queue
    (c.count_numbers-numbers.ensures.count ∙ ap (λ us. length (numbers_of us c.as_slice-4.result.now)) c.as_slice-3.ensures.value
    ∙ ap (λ ms. length (numbers_of units ms)) c.as_slice-4.ensures.value)
    (subst (λ ms. c.count_numbers-numbers.result ≤ 64 * length ms) c.as_slice-4.ensures.value c.count_numbers-numbers.ensures.few) c.requires.small
