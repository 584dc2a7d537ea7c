use Rattle.std.proofs.Common.{sym, ◌∙◌}
use Rattle.posting.proofs.WaitingViews.{open_more}
use Rattle.posting.proofs.viewing.open_units.Goals as goal

pub loop-place-preserved : goal.loop-place-preserved
loop-place-preserved c =
    open_more c.args.register.now.ledger c.loop-place.place c.in-Some.unit c.in_ok-locks_of.field-0 c.loop-place.found.items c.push.new.self.items
    (sym c.waiting_at.ensures ∙ c.in-Some.is) c.in_ok-locks_of.ensures c.loop-place.invariant c.in_ok-push.ensures.items
