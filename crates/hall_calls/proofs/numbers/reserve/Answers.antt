use Rattle.hall_model.specs.declared.command.Reply.TheVariants as reply
use Rattle.hall_calls.proofs.verdicts.NumberCalls.{reserves, reserves_unraised}
use Rattle.hall_calls.proofs.ending.AfterStop.{untouched_keeps}
use Rattle.hall_calls.proofs.verdicts.NextDraws.{reserve_high, reserve_is, reserve_still, reserve_stored}
use Rattle.hall_calls.proofs.ending.OverStore.{quiet_ends}
use Rattle.hall_calls.proofs.numbers.reserve.Goals as goal

pub returns-in-Err-clause-store : goal.returns-in-Err-clause-store
returns-in-Err-clause-store g c =
    quiet_ends g.K.Keeper.held g.K.Keeper.is_open g.K.Keeper.may_leave g.K.Keeper.faults g.met.K.Keeper.settled c.args.books.now c.requires.usable
    (reply.Refused c.in-Err.refusal) c.in-Err.ensures.quiet
    (λ k. untouched_keeps g.K.Keeper.held g.K.Keeper.may_leave k c.in-Err.refusal)

pub raise-requires-clause-store : goal.raise-requires-clause-store
raise-requires-clause-store g c =
    reserve_stored c.args.sessions.now c.args.ranges.now c.args.books.now.ledger c.requires.drawn c.args.call.now.session.now c.args.call.now.object.now
    c.args.call.now.nr c.args.upto
    c.in-Ok.found.0 c.in-Ok.found.1 c.in-Ok.ensures.interval

pub returns-in-Ok-raise-clause-act : goal.returns-in-Ok-raise-clause-act
returns-in-Ok-raise-clause-act g c s e f l room =
    let is = reserve_is c.args.sessions.now c.args.ranges.now c.args.books.now.ledger c.requires.drawn c.args.call.now.session.now c.args.call.now.object.now
    c.args.call.now.nr c.args.upto
    c.in-Ok.found.0 c.in-Ok.found.1 c.in-Ok.ensures.interval in
    let within = reserve_high c.args.sessions.now c.args.ranges.now c.args.books.now.ledger c.requires.drawn c.args.call.now.session.now
    c.args.call.now.object.now c.args.call.now.nr
    c.args.upto c.in-Ok.found.0 c.in-Ok.found.1 c.in-Ok.ensures.interval in
    reserves s c.args.sessions.now c.args.ranges.now c.args.books.now.ledger c.args.call.now.session.now c.args.call.now.object.now c.args.call.now.nr
    (record { own_sessions = e; own_ranges = f; own_ledger = l }) c.args.upto room c.in-Ok.found.0 c.in-Ok.found.1 c.in-Ok.ensures.interval
    is.within within c.raise.new.books.ledger c.in-Ok-raise.ensures.ledger

pub returns-in-Err-raise-clause-act : goal.returns-in-Err-raise-clause-act
returns-in-Err-raise-clause-act g c s e f l room =
    reserves_unraised s c.args.sessions.now c.args.ranges.now c.args.books.now.ledger c.args.call.now.session.now c.args.call.now.object.now c.args.call.now.nr
    (record { own_sessions = e; own_ranges = f; own_ledger = l }) c.args.upto room c.in-Ok.found.0 c.in-Ok.found.1 c.in-Ok.ensures.interval
    c.in-Err-raise.failed c.in-Err-raise.ensures.fault c.raise.new.books.ledger c.in-Err-raise.ensures.kept

pub returns-in-Ok-raise-clause-keeper : goal.returns-in-Ok-raise-clause-keeper
returns-in-Ok-raise-clause-keeper g c s e l off =
    c.raise.ensures.still
    (reserve_still c.args.sessions.now c.args.ranges.now c.args.books.now.ledger c.args.call.now.session.now c.args.call.now.object.now c.args.call.now.nr
    c.args.upto c.in-Ok.found.0
    c.in-Ok.found.1 c.in-Ok.ensures.interval s e l off)

pub returns-in-Err-raise-clause-keeper : goal.returns-in-Err-raise-clause-keeper
returns-in-Err-raise-clause-keeper g c s e l off = c.raise.ensures.still
    (reserve_still c.args.sessions.now c.args.ranges.now c.args.books.now.ledger c.args.call.now.session.now c.args.call.now.object.now c.args.call.now.nr
    c.args.upto c.in-Ok.found.0
    c.in-Ok.found.1 c.in-Ok.ensures.interval s e l off)
