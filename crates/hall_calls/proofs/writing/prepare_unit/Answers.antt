use Rattle.hall_calls.proofs.ending.OverStore.{unmoved}
use Rattle.hall_calls.proofs.writing.prepare_unit.Goals as goal

pub returns-in_err-recorded-clause-unmoved : goal.returns-in_err-recorded-clause-unmoved
returns-in_err-recorded-clause-unmoved g c = unmoved g.K.Keeper.held g.K.Keeper.is_open g.K.Keeper.may_leave g.K.Keeper.faults c.args.books.now
