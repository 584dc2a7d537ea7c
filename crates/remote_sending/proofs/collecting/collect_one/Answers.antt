use Rattle.std.proofs.Common.{◌∙◌}
use Rattle.remote_sending.proofs.Leaves.{cause_from, here_stands, kept_good, kept_with, ok_good, ok_stands, stored_with}
use Rattle.remote_sending.proofs.collecting.collect_one.Goals as goal

pub returns-in_err-there-clause-left : goal.returns-in_err-there-clause-left
returns-in_err-there-clause-left g c = kept_with _ _ _ c.args.call.now (g.met.O.Keeper.settled c.args.outbox.now c.requires) c.is_there.ensures.crash

pub returns-then-there-clause-left : goal.returns-then-there-clause-left
returns-then-there-clause-left g c = kept_with _ _ _ c.args.call.now (g.met.O.Keeper.settled c.args.outbox.now c.requires) c.is_there.ensures.crash

pub returns-then-there-clause-stands : goal.returns-then-there-clause-stands
returns-then-there-clause-stands g c =
    here_stands (g.O.Keeper.held c.args.outbox.now) _ c.args.call.now.tid c.in_ok-there.there c.in_ok-there.ensures.stays.rows c.if-there.true
    c.in_ok-there.ensures.there

pub returns-then-there-clause-good : goal.returns-then-there-clause-good
returns-then-there-clause-good g c = kept_good _ _ c.in_ok-there.ensures.stays.rows

pub returns-clause-left : goal.returns-clause-left
returns-clause-left g c =
    stored_with (g.O.Keeper.held c.args.outbox.now) _ _ c.args.call.now c.in_ok-there.there c.in_ok-there.ensures.stays.rows c.if-there.false
    c.in_ok-there.ensures.there c.store.ensures.either

pub returns-clause-stands : goal.returns-clause-stands
returns-clause-stands g c = ok_stands c.store.result _ _ c.args.call.now.tid c.args.call.now.text c.store.ensures.done

pub returns-clause-good : goal.returns-clause-good
returns-clause-good g c =
    ok_good c.store.result _ _ _ c.args.call.now.tid c.args.call.now.text c.in_ok-there.ensures.stays.rows c.store.ensures.done c.bytes-key.ensures.grammar
    c.bytes-text.ensures.grammar

pub returns-clause-told : goal.returns-clause-told
returns-clause-told g c = c.store.ensures.told ∙ c.is_there.ensures.told

pub returns-clause-cause : goal.returns-clause-cause
returns-clause-cause g c = cause_from c.store.result _ _ _ c.in_ok-there.ensures.cause.quiet c.store.ensures.cause
