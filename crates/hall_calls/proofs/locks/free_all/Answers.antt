use Rattle.std.proofs.Common.{refl, ap, sym, ◌∙◌}
use Rattle.std.proofs.lemmas.Result.{err_from_is_err_and}
use Rattle.lock_entry.specs.Freeing.{freed_owner}
use Rattle.hall_calls.proofs.verdicts.EachCall.{unknown_session, frees_all}
use Rattle.hall_calls.proofs.locks.free_all.Goals as goal

pub returns-in_err-session-clause-act : goal.returns-in_err-session-clause-act
returns-in_err-session-clause-act g c s started sessions locks room =
    let p = err_from_is_err_and c.from_residual.result c.from_residual.ensures.1 in
    let none = c.in_err-session.ensures.unknown in
    unknown_session s c.args.sessions.now c.args.name.now _ _ _ c.from_residual.result _ refl sessions room none.0 (λ i. record s { locks = locks i }) p.1
    (p.2 ∙ none.1)

pub returns-clause-act : goal.returns-clause-act
returns-clause-act g c s started sessions locks room =
    frees_all s c.args.start c.args.sessions.now c.args.name.now c.in_ok-session.session.now c.pair_of.result _
    (record { started = started; sessions_are = sessions; found = c.in_ok-session.ensures.found; pair_is = c.pair_of.ensures })
    room
    (ap (λ t. t.entries) c.free_pair.ensures.table ∙ ap (λ l. freed_owner (freed_owner l c.pair_of.result.dialogue) c.pair_of.result.update) (sym locks))
