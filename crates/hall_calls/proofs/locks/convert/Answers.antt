use Rattle.std.proofs.Common.{refl, ap, ◌∙◌}
use Rattle.std.proofs.lemmas.Result.{err_from_is_err_and}
use Rattle.lock_entry.specs.Converting.{converted}
use Rattle.hall_calls.proofs.verdicts.EachCall.{unknown_session, converts, converts_in_vain, of_table, table_fault, told_alike}
use Rattle.hall_calls.proofs.locks.convert.Goals as goal

pub returns-in_err-session-clause-act : goal.returns-in_err-session-clause-act
returns-in_err-session-clause-act g c s started sessions locks room =
    let p = err_from_is_err_and c.from_residual.result c.from_residual.ensures.1 in
    let none = c.in_err-session.ensures.unknown in
    unknown_session s c.args.sessions.now c.args.name.now _ _ _ c.from_residual.result _ refl sessions room none.0 (λ i. record s { locks = locks i }) p.1
    (p.2 ∙ none.1)

pub returns-in-Ok-clause-act : goal.returns-in-Ok-clause-act
returns-in-Ok-clause-act g c s started sessions locks room =
    converts s c.args.start c.args.sessions.now c.args.name.now c.in_ok-session.session.now c.pair_of-pair.result c.args.asked.now
    c.args.locks.now.table.entries
    (record { entries = c.convert.new.self.table.entries; removed = c.in-Ok.ensures.converted.0 })
    (record { started = started; sessions_are = sessions; found = c.in_ok-session.ensures.found; pair_is = c.pair_of-pair.ensures })
    locks room c.in-Ok.ensures.converted.1

pub returns-in-Err-clause-act : goal.returns-in-Err-clause-act
returns-in-Err-clause-act g c s started sessions locks room =
    let rule = converted c.args.locks.now.table.entries c.pair_of-pair.result c.args.asked.now in
    converts_in_vain s c.args.start c.args.sessions.now c.args.name.now c.in_ok-session.session.now c.pair_of-pair.result c.args.asked.now
    c.args.locks.now.table.entries (table_fault c.in-Err.fault) c.refusal_of.result _
    (record { started = started; sessions_are = sessions; found = c.in_ok-session.ensures.found; pair_is = c.pair_of-pair.ensures })
    locks room (of_table rule c.in-Err.fault c.in-Err.ensures.refused) (ap (λ t. t.entries) c.in-Err.ensures.unchanged)
    (c.refusal_of.ensures ∙ told_alike rule c.in-Err.fault c.in-Err.ensures.refused)
