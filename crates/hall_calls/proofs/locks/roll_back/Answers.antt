use Rattle.std.proofs.Common.{refl, ap, sym, ◌∙◌}
use Rattle.std.proofs.lemmas.Result.{err_from_is_err_and}
use Rattle.lock_entry.specs.Freeing.{freed_owner}
use Rattle.hall_calls.proofs.verdicts.EachCall.{unknown_session, rolls_back}
use Rattle.hall_calls.proofs.locks.roll_back.Goals as goal

pub returns-in_err-session-clause-act : goal.returns-in_err-session-clause-act
returns-in_err-session-clause-act g c s started sessions locks room =
    let p = err_from_is_err_and c.from_residual.result c.from_residual.ensures.1 in
    let none = c.in_err-session.ensures.unknown in
    unknown_session s c.args.sessions.now c.args.name.now _ _ _ c.from_residual.result _ refl sessions room none.0
    (λ i. record s { sessions = sessions i; locks = locks i }) p.1 (p.2 ∙ none.1)

pub returns-clause-act : goal.returns-clause-act
returns-clause-act g c s started sessions locks room =
    rolls_back s c.args.start c.args.sessions.now c.args.name.now c.in_ok-session.session.now c.pair_of-pair.result _ _
    (record { started = started; sessions_are = sessions; found = c.in_ok-session.ensures.found; pair_is = c.pair_of-pair.ensures })
    room c.begin_fresh_unit.ensures
    (ap (λ t. t.entries) c.free_owner.ensures.after ∙ ap (λ l. freed_owner l c.pair_of-pair.result.update) (sym locks))
