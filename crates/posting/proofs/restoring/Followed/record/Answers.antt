use Rattle.posting.proofs.FollowedMarks.{follow_rec}
use Rattle.std.proofs.Common.{refl}
use Rattle.posting.proofs.restoring.Followed.record.Goals as goal

pub returns : goal.returns
returns c = λ units before so_far next is.
    follow_rec units before c.args.self.now _ c.args.mark.now so_far next is c.set_standing.ensures c.push.ensures c.pass_turn.ensures refl refl
