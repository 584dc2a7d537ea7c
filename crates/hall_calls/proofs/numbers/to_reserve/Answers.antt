use Rattle.std.proofs.Common.{sym, ◌∙◌, subst}
use Rattle.std.proofs.lemmas.Result.{err_from_is_err_and}
use Rattle.number_ranges.specs.Intervals.{IsInterval}
use Rattle.hall_calls.proofs.verdicts.NumberCalls.{RefusesReserve, buffered_of, if_err, plain_of, reserves_nowhere, reserves_over, reserves_plain, reserves_unknown}
use Rattle.hall_calls.proofs.verdicts.NextDraws.{found_is}
use Rattle.hall_calls.proofs.numbers.to_reserve.Goals as goal

pub returns-in_err-session_of-clause-refused : goal.returns-in_err-session_of-clause-refused
returns-in_err-session_of-clause-refused g c =
    let p = err_from_is_err_and c.from_residual.result c.from_residual.ensures.1 in
    let none = c.in_err-session_of.ensures.unknown in
    if_err c.from_residual.result
    (RefusesReserve c.args.sessions.now c.args.ranges.now c.args.books.now.ledger c.args.call.now.session.now c.args.call.now.object.now c.args.call.now.nr
    c.args.upto) p.0 p.1
    (λ s e f l room. reserves_unknown s c.args.sessions.now c.args.ranges.now c.args.books.now.ledger c.args.call.now.session.now c.args.call.now.object.now
    c.args.call.now.nr
    (record { own_sessions = e; own_ranges = f; own_ledger = l }) c.args.upto room p.0 none.0 (p.2 ∙ none.1))

pub returns-in_default-clause-refused : goal.returns-in_default-clause-refused
returns-in_default-clause-refused g c s e f l room =
    reserves_nowhere s c.args.sessions.now c.args.ranges.now c.args.books.now.ledger c.args.call.now.session.now c.args.call.now.object.now c.args.call.now.nr
    (record { own_sessions = e; own_ranges = f; own_ledger = l }) c.args.upto room c.in_ok-session_of.field-0.now c.in_ok-session_of.ensures.found
    (sym c.in_default.ensures)

pub returns-then-interval-eq0-clause-refused : goal.returns-then-interval-eq0-clause-refused
returns-then-interval-eq0-clause-refused g c s e f l room =
    reserves_plain s c.args.sessions.now c.args.ranges.now c.args.books.now.ledger c.args.call.now.session.now c.args.call.now.object.now c.args.call.now.nr
    (record { own_sessions = e; own_ranges = f; own_ledger = l }) c.args.upto room c.in_ok-session_of.field-0.now c.in-Some.range.now c.present-interval.result
    c.in_ok-session_of.ensures.found (sym c.in-Some.ensures) c.present-interval.ensures (plain_of _ c.if-interval-eq0.true)

pub level_for-requires : goal.level_for-requires
level_for-requires g c =
    subst IsInterval (sym c.present-interval.ensures)
    (found_is c.args.sessions.now c.args.ranges.now c.args.books.now.ledger c.requires.drawn c.args.call.now.object.now c.args.call.now.nr c.in-Some.range.now
    (sym c.in-Some.ensures))

pub returns-in-None-clause-refused : goal.returns-in-None-clause-refused
returns-in-None-clause-refused g c s e f l room =
    reserves_over s c.args.sessions.now c.args.ranges.now c.args.books.now.ledger c.args.call.now.session.now c.args.call.now.object.now c.args.call.now.nr
    (record { own_sessions = e; own_ranges = f; own_ledger = l }) c.args.upto room c.in_ok-session_of.field-0.now c.in-Some.range.now c.present-interval.result
    c.in_ok-session_of.ensures.found (sym c.in-Some.ensures) c.present-interval.ensures (buffered_of _ c.if-interval-eq0.false) (sym c.in-None.ensures.none)
