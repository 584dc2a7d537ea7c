use Rattle.posting.proofs.FollowedMarks.{follow_draw}
use Rattle.std.proofs.Common.{refl}
use Rattle.posting.proofs.restoring.Followed.draw.Goals as goal

pub returns : goal.returns
returns c = λ units before m so_far alone.
    follow_draw units before c.args.self.now _ m so_far alone (λ key. refl) c.pass_turn.ensures c.pass_turn-2.ensures refl refl
