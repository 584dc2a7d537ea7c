use Rattle.std.proofs.lemmas.Result.{err_from_is_err_and}
use Rattle.hall_calls.proofs.ending.OverStore.{ready_tries, wanting_tries}
use Rattle.hall_calls.proofs.writing.write_numbers.Goals as goal

pub returns-in_err-prepared : goal.returns-in_err-prepared
returns-in_err-prepared g c =
    let p = err_from_is_err_and c.from_residual.result c.from_residual.ensures.1 in
    rw (p.1, p.2)
    (wanting_tries g.K.Keeper.held g.K.Keeper.is_open g.K.Keeper.may_leave g.K.Keeper.faults g.met.K.Keeper.settled
    c.args.books.now c.prepare_numbers.new.self _ c.prepare_numbers.ensures.usable c.prepare_numbers.ensures.unmoved)

pub returns : goal.returns
returns g c =
    ready_tries g.K.Keeper.held g.K.Keeper.is_open g.K.Keeper.may_leave g.K.Keeper.faults
    c.args.books.now c.prepare_numbers.new.self c.write.new.books c.in_ok-prepared.prepared.step _ c.write.result
    c.in_ok-prepared.ensures.step c.prepare_numbers.ensures.unmoved c.write.ensures.tried
