use Rattle.std.proofs.Common.{length, sym, ap, ◌∙◌, subst, arith}
use Rattle.std.specs.Prelude.{nat_lt}
use Rattle.std.proofs.lemmas.List.Sums.{count_by-le-length}
use Rattle.std.proofs.lemmas.Result.{err_from_is_err_and}
use Rattle.enq_base.specs.declared.unit.Num.{Num}
use Rattle.number_ranges.specs.Intervals.{IsInterval, is_named}
use Rattle.number_ranges.specs.declared.interval.Interval.{Interval}
use Rattle.hall_calls.proofs.verdicts.NumberCalls.{RefusesDraw, at_least, at_most, draws_busy, draws_nowhere, draws_over, draws_too_many, draws_unknown, draws_wanting, if_err, none_mapped}
use Rattle.hall_calls.proofs.verdicts.NextDraws.{found_is}
use Rattle.hall_model.specs.declared.command.Session.{Session}
use Rattle.hall_model.specs.Numbers.{other_holder}
use Rattle.hall_calls.proofs.numbers.to_draw.Goals as goal

pub returns-in_err-session-clause-refused : goal.returns-in_err-session-clause-refused
returns-in_err-session-clause-refused g c =
    let p = err_from_is_err_and c.from_residual.result c.from_residual.ensures.1 in
    let none = c.in_err-session.ensures.unknown in
    if_err c.from_residual.result
    (RefusesDraw c.args.sessions.now c.args.ranges.now c.args.books.now.ledger c.args.call.now.session.now c.args.call.now.object.now c.args.call.now.nr)
    p.0
    p.1
    (λ s e f l room. draws_unknown s c.args.sessions.now c.args.ranges.now c.args.books.now.ledger c.args.call.now.session.now c.args.call.now.object.now
    c.args.call.now.nr
    (record { own_sessions = e; own_ranges = f; own_ledger = l }) room p.0 none.0 (p.2 ∙ none.1))

pub returns-in_default-clause-refused : goal.returns-in_default-clause-refused
returns-in_default-clause-refused g c s e f l room =
    draws_nowhere s c.args.sessions.now c.args.ranges.now c.args.books.now.ledger c.args.call.now.session.now c.args.call.now.object.now c.args.call.now.nr
    (record { own_sessions = e; own_ranges = f; own_ledger = l }) room c.in_ok-session.session.now c.in_ok-session.ensures.found (sym c.in_default.ensures)

pub returns-then-as_slice-ge-DRAWS_LIMIT-clause-refused : goal.returns-then-as_slice-ge-DRAWS_LIMIT-clause-refused
returns-then-as_slice-ge-DRAWS_LIMIT-clause-refused g c s e f l room =
    let many = c.if-as_slice-ge-DRAWS_LIMIT.true in
    let same = ap length c.as_slice.ensures in
    draws_too_many s c.args.sessions.now c.args.ranges.now c.args.books.now.ledger c.args.call.now.session.now c.args.call.now.object.now c.args.call.now.nr
    (record { own_sessions = e; own_ranges = f; own_ledger = l }) room c.in_ok-session.session.now c.in-Some.range.now c.in_ok-session.ensures.found
    (sym c.in-Some.ensures)
    (at_least _ (omega (arith, many, same)))

pub returns-in-Some-other_holder-clause-refused : goal.returns-in-Some-other_holder-clause-refused
returns-in-Some-other_holder-clause-refused g c s e f l room =
    let few = c.if-as_slice-ge-DRAWS_LIMIT.false in
    let same = ap length c.as_slice.ensures in
    draws_busy s c.args.sessions.now c.args.ranges.now c.args.books.now.ledger c.args.call.now.session.now c.args.call.now.object.now c.args.call.now.nr
    (record { own_sessions = e; own_ranges = f; own_ledger = l }) room c.in_ok-session.session.now c.in-Some.range.now c.present-interval.result
    c.in-Some-other_holder.holder
    c.in_ok-session.ensures.found (sym c.in-Some.ensures) c.present-interval.ensures (at_most _ (omega (arith, few, same))) (sym c.in-Some-other_holder.ensures)

pub next_number-number-requires : goal.next_number-number-requires
next_number-number-requires g c =
    let i = c.present-interval.result in
    let is = found_is c.args.sessions.now c.args.ranges.now c.args.books.now.ledger c.requires.drawn c.args.call.now.object.now c.args.call.now.nr
    c.in-Some.range.now
    (sym c.in-Some.ensures) in
    let same_level = ap (λ (j : Interval). j.level) c.present-interval.ensures in
    let within = is.within in
    let high = is.high in
    let few = c.if-as_slice-ge-DRAWS_LIMIT.false in
    let same = ap length c.as_slice.ensures in
    let most = count_by-le-length (λ (num : Num). is_named num.object num.nr i) c.in_ok-session.session.now.draws in
    omega (arith, same_level, within, high, few, same, most)

pub level_for-requires : goal.level_for-requires
level_for-requires g c =
    subst IsInterval (sym c.present-interval.ensures)
    (found_is c.args.sessions.now c.args.ranges.now c.args.books.now.ledger c.requires.drawn c.args.call.now.object.now c.args.call.now.nr c.in-Some.range.now
    (sym c.in-Some.ensures))

pub returns-in_default-level_for-clause-refused : goal.returns-in_default-level_for-clause-refused
returns-in_default-level_for-clause-refused g c s e f l room =
    let few = c.if-as_slice-ge-DRAWS_LIMIT.false in
    let same = ap length c.as_slice.ensures in
    let i = c.present-interval.result in
    draws_over s c.args.sessions.now c.args.ranges.now c.args.books.now.ledger c.args.call.now.session.now c.args.call.now.object.now c.args.call.now.nr
    (record { own_sessions = e; own_ranges = f; own_ledger = l }) room c.in_ok-session.session.now c.in-Some.range.now i
    c.in_ok-session.ensures.found (sym c.in-Some.ensures) c.present-interval.ensures (at_most _ (omega (arith, few, same)))
    (sym c.in_default-other_holder.ensures)
    (ap (nat_lt i.to) (sym c.next_number-number.ensures) ∙ sym c.in_default-level_for.ensures.none)

pub returns-in_default-draws_with-clause-refused : goal.returns-in_default-draws_with-clause-refused
returns-in_default-draws_with-clause-refused g c s e f l room =
    draws_wanting s c.args.sessions.now c.args.ranges.now c.args.books.now.ledger c.args.call.now.session.now c.args.call.now.object.now c.args.call.now.nr
    (record { own_sessions = e; own_ranges = f; own_ledger = l }) room c.in_ok-session.session.now c.in_ok-session.ensures.found

pub returns-clause-draw : goal.returns-clause-draw
returns-clause-draw g c =
    let few = c.if-as_slice-ge-DRAWS_LIMIT.false in
    let same = ap length c.as_slice.ensures in
    record {
      session = c.in_ok-session.session.now;
      found = c.in_ok-session.ensures.found;
      range = c.in-Some.range.now;
      chosen = sym c.in-Some.ensures;
      interval = c.present-interval.ensures;
      few = at_most _ (omega (arith, few, same));
      free = none_mapped (λ (x : Session). x.name) (other_holder c.args.sessions.now c.args.call.now.session.now c.present-interval.result)
          (sym c.in_default-other_holder.ensures);
      next = c.next_number-number.ensures;
      within = sym c.in-Some-level_for.ensures.none;
      reserved = c.in-Some-level_for.ensures.level;
      drawn = c.in-Ok.ensures;
    }
