use Rattle.std.proofs.lemmas.Result.{err_from_is_err_and}
use Rattle.hall_calls.proofs.ending.OverStore.{wanting_tries}
use Rattle.hall_calls.proofs.writing.write_level.Goals as goal

pub returns-in_err-prepared : goal.returns-in_err-prepared
returns-in_err-prepared g c =
    let p = err_from_is_err_and c.from_residual.result c.from_residual.ensures.1 in
    rw (p.1, p.2)
    (wanting_tries g.K.Keeper.held g.K.Keeper.is_open g.K.Keeper.may_leave g.K.Keeper.faults g.met.K.Keeper.settled
    c.args.books.now c.prepare_level.new.self _ c.prepare_level.ensures.usable c.prepare_level.ensures.unmoved)
