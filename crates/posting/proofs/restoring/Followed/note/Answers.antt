use Rattle.std.proofs.Common.{refl, sym, ◌∙◌}
use Rattle.posting.proofs.RegisterAgrees.{in_range}
use Rattle.posting.proofs.FollowedMarks.{follow_none, follow_some, got_at, still_none}
use Rattle.posting.proofs.restoring.Followed.note.Goals as goal

pub returns-in_default : goal.returns-in_default
returns-in_default c = λ before so_far next other decides.
    follow_none c.args.units.now before c.args.self.now _ c.args.mark.now so_far next other decides
    (sym c.standing_of.ensures ∙ still_none c.standing_of.result c.in_default.not-Some)

pub returns : goal.returns
returns c = λ before so_far next other decides.
    let stands = sym c.standing_of.ensures ∙ c.in-Some.is in
    follow_some c.args.units.now before c.args.self.now _ c.args.mark.now so_far c.in-Some.before c.index-units-before.result c.status_after-status.result
    c.error_after.result c.is_open.result c.is_posted.result other decides stands
    (got_at c.args.units.now c.in-Some.before.place c.index-units-before.result
    (in_range c.args.units.now c.args.self.now.standings c.args.mark.now.unit c.in-Some.before c.requires.placed stands) c.index-units-before.is)
    c.status_after-status.ensures c.error_after.ensures c.is_open.ensures c.is_posted.ensures c.set_standing.ensures c.take_turn.ensures c.take_turn-2.ensures
    refl refl
