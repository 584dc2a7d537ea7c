use Rattle.std.proofs.Common.{◌+◌, ◌++◌, length, refl, sym, ◌∙◌, subst, arith}
use Rattle.hall_model.specs.declared.command.Reply.TheVariants as reply
use Rattle.hall_calls.specs.Commits.{TellsNoFault}
use Rattle.hall_calls.proofs.verdicts.UnitCalls.{commits_full, commits_nothing, commits_too_much, commits_unknown}
use Rattle.hall_calls.proofs.verdicts.Recording.{few_enough, nothing_there, some_effects, some_numbers, together, too_large, too_many}
use Rattle.hall_calls.proofs.units.to_commit.Goals.{else-effects-eq0-via-then-effects-eq0+else-drawn-eq0, else-effects-eq0-via-else-effects-eq0}
use Rattle.hall_calls.proofs.units.to_commit.Goals.{then-drawn-gt-DRAWS_LIMIT-via-then-drawn-gt-DRAWS_LIMIT}
use Rattle.hall_calls.proofs.units.to_commit.Goals.{then-drawn-gt-DRAWS_LIMIT-via-else-drawn-gt-DRAWS_LIMIT+then-effects-gt-EFFECTS_LIMIT}
use Rattle.hall_calls.proofs.units.to_commit.Goals as goal

pub returns-in-Err-clause-answer : goal.returns-in-Err-clause-answer
returns-in-Err-clause-answer g c s ranges entries e r f l m room =
    commits_unknown s c.args.sessions.now ranges entries c.args.books.now.ledger c.args.call.now.session.now c.args.call.now.parts.now
    c.args.call.now.stock.now c.in-Err.refusal e r f l room
    c.in-Err.ensures.unknown.0 c.in-Err.ensures.unknown.1

pub returns-then-drawn-gt-DRAWS_LIMIT-clause-answer : goal.returns-then-drawn-gt-DRAWS_LIMIT-clause-answer
returns-then-drawn-gt-DRAWS_LIMIT-clause-answer g c s ranges entries e r f l m room =
    commits_too_much s c.args.sessions.now ranges entries
    c.args.books.now.ledger c.args.call.now.max_marks c.args.call.now.session.now c.in-Ok.session.now c.args.call.now.parts.now c.args.call.now.stock.now
    (record { own_sessions = e; own_ranges = r; own_locks = f; own_ledger = l; own_limit = m; admits = room; found = c.in-Ok.ensures.found })
    (elim c.then-drawn-gt-DRAWS_LIMIT.branch [
      | then-drawn-gt-DRAWS_LIMIT-via-then-drawn-gt-DRAWS_LIMIT w ↦ too_many (c.in-Ok.session.now.draws ++ c.args.call.now.stock.now) c.args.call.now.parts.now
          (length c.as_slice.result.now + length c.args.call.now.stock.now)
          (together c.in-Ok.session.now.draws c.as_slice.result.now c.args.call.now.stock.now c.as_slice.ensures)
          (omega (arith, w.if-drawn-gt-DRAWS_LIMIT.true))
      | then-drawn-gt-DRAWS_LIMIT-via-else-drawn-gt-DRAWS_LIMIT+then-effects-gt-EFFECTS_LIMIT w ↦ too_large
          (c.in-Ok.session.now.draws ++ c.args.call.now.stock.now) c.args.call.now.parts.now c.effects_in-effects.result c.effects_in-effects.ensures
          (omega (arith, w.if-effects-gt-EFFECTS_LIMIT.true))
    ])

pub returns-then-drawn-eq0-clause-answer : goal.returns-then-drawn-eq0-clause-answer
returns-then-drawn-eq0-clause-answer g c s ranges entries e r f l m room =
    commits_nothing s c.args.sessions.now ranges entries
    c.args.books.now.ledger c.args.call.now.max_marks c.args.call.now.session.now c.in-Ok.session.now c.args.call.now.parts.now c.args.call.now.stock.now
    (record { own_sessions = e; own_ranges = r; own_locks = f; own_ledger = l; own_limit = m; admits = room; found = c.in-Ok.ensures.found })
    (few_enough (c.in-Ok.session.now.draws ++ c.args.call.now.stock.now) c.args.call.now.parts.now
    (length c.as_slice.result.now + length c.args.call.now.stock.now) c.effects_in-effects.result
    (together c.in-Ok.session.now.draws c.as_slice.result.now c.args.call.now.stock.now c.as_slice.ensures) c.effects_in-effects.ensures
    (omega (arith, c.if-drawn-gt-DRAWS_LIMIT.false)) (omega (arith, c.if-effects-gt-EFFECTS_LIMIT.false)))
    (nothing_there (c.in-Ok.session.now.draws ++ c.args.call.now.stock.now) c.args.call.now.parts.now
    (length c.as_slice.result.now + length c.args.call.now.stock.now) c.effects_in-effects.result
    (together c.in-Ok.session.now.draws c.as_slice.result.now c.args.call.now.stock.now c.as_slice.ensures) c.effects_in-effects.ensures
    (omega (arith, c.if-drawn-eq0.true)) (omega (arith, c.if-effects-eq0.true)))

pub returns-then-is_full-clause-answer : goal.returns-then-is_full-clause-answer
returns-then-is_full-clause-answer g c s ranges entries e r f l m room =
    commits_full s c.args.sessions.now ranges entries
    c.args.books.now.ledger c.args.call.now.max_marks c.args.call.now.session.now c.in-Ok.session.now c.args.call.now.parts.now c.args.call.now.stock.now
    (record { own_sessions = e; own_ranges = r; own_locks = f; own_ledger = l; own_limit = m; admits = room; found = c.in-Ok.ensures.found })
    (few_enough (c.in-Ok.session.now.draws ++ c.args.call.now.stock.now) c.args.call.now.parts.now
    (length c.as_slice.result.now + length c.args.call.now.stock.now) c.effects_in-effects.result
    (together c.in-Ok.session.now.draws c.as_slice.result.now c.args.call.now.stock.now c.as_slice.ensures) c.effects_in-effects.ensures
    (omega (arith, c.if-drawn-gt-DRAWS_LIMIT.false)) (omega (arith, c.if-effects-gt-EFFECTS_LIMIT.false)))
    (elim c.else-effects-eq0.branch [
      | else-effects-eq0-via-then-effects-eq0+else-drawn-eq0 w ↦ some_numbers (c.in-Ok.session.now.draws ++ c.args.call.now.stock.now) c.args.call.now.parts.now
          (length c.as_slice.result.now + length c.args.call.now.stock.now)
          (together c.in-Ok.session.now.draws c.as_slice.result.now c.args.call.now.stock.now c.as_slice.ensures) (omega (arith, w.if-drawn-eq0.false))
      | else-effects-eq0-via-else-effects-eq0 w ↦ some_effects (c.in-Ok.session.now.draws ++ c.args.call.now.stock.now) c.args.call.now.parts.now
          c.effects_in-effects.result
          c.effects_in-effects.ensures (omega (arith, w.if-effects-eq0.false))
    ])
    (sym c.is_full.ensures ∙ c.if-is_full.true)

pub returns-clause-session : goal.returns-clause-session
returns-clause-session g c =
    let x = c.in-Ok.session.now in
    let whole = together x.draws c.as_slice.result.now c.args.call.now.stock.now c.as_slice.ensures in
    let effects = c.effects_in-effects.ensures in
    record {
      found = c.in-Ok.ensures.found;
      few_numbers = omega (arith, c.if-drawn-gt-DRAWS_LIMIT.false, whole);
      few_effects = omega (arith, c.if-effects-gt-EFFECTS_LIMIT.false, effects);
      something = elim c.else-effects-eq0.branch [
        | else-effects-eq0-via-then-effects-eq0+else-drawn-eq0 w ↦ omega (arith, w.if-drawn-eq0.false, whole)
        | else-effects-eq0-via-else-effects-eq0 w ↦ omega (arith, w.if-effects-eq0.false, effects)
      ];
      room = sym c.is_full.ensures ∙ c.if-is_full.false;
    }

pub returns-in-Err-clause-quiet : goal.returns-in-Err-clause-quiet
returns-in-Err-clause-quiet g c =
    subst (λ r. TellsNoFault (reply.Refused r)) (sym c.in-Err.ensures.unknown.1) (record { store = λ n. refl; file = λ n. refl })

pub returns-then-drawn-gt-DRAWS_LIMIT-clause-quiet : goal.returns-then-drawn-gt-DRAWS_LIMIT-clause-quiet
returns-then-drawn-gt-DRAWS_LIMIT-clause-quiet g c = record { store = λ n. refl; file = λ n. refl }

pub returns-then-drawn-eq0-clause-quiet : goal.returns-then-drawn-eq0-clause-quiet
returns-then-drawn-eq0-clause-quiet g c = record { store = λ n. refl; file = λ n. refl }

pub returns-then-is_full-clause-quiet : goal.returns-then-is_full-clause-quiet
returns-then-is_full-clause-quiet g c = record { store = λ n. refl; file = λ n. refl }
