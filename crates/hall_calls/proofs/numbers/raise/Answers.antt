use Rattle.std.proofs.Common.{refl}
use Rattle.hall_model.specs.declared.command.Reply.TheVariants as reply
use Rattle.hall_calls.proofs.ending.OverStore.{done_ends, failed_ends, quiet_ends, wanting_ends}
use Rattle.hall_calls.proofs.numbers.raise.Goals as goal

pub returns-then-level-interval-clause-done : goal.returns-then-level-interval-clause-done
returns-then-level-interval-clause-done g c =
    quiet_ends g.K.Keeper.held g.K.Keeper.is_open g.K.Keeper.may_leave g.K.Keeper.faults g.met.K.Keeper.settled c.args.books.now c.requires.usable
    reply.Done (λ n. refl) (λ k. tt)

pub returns-in-Ok-clause-done : goal.returns-in-Ok-clause-done
returns-in-Ok-clause-done g c =
    done_ends g.K.Keeper.held g.K.Keeper.is_open g.K.Keeper.may_leave g.K.Keeper.faults g.met.K.Keeper.settled c.args.books.now c.write_level.new.books _
    c.in-Ok.ensures reply.Done (λ n m same. same) tt

pub returns-in-Err-NoMemory-clause-failed : goal.returns-in-Err-NoMemory-clause-failed
returns-in-Err-NoMemory-clause-failed g c =
    wanting_ends g.K.Keeper.held g.K.Keeper.is_open g.K.Keeper.may_leave g.K.Keeper.faults g.met.K.Keeper.settled c.args.books.now c.write_level.new.books _
    (rw c.in-Err-NoMemory.field-0-is at c.in-Err-NoMemory.ensures)

pub returns-in-Err-Failed-clause-failed : goal.returns-in-Err-Failed-clause-failed
returns-in-Err-Failed-clause-failed g c =
    failed_ends g.K.Keeper.held g.K.Keeper.is_open g.K.Keeper.may_leave g.K.Keeper.faults c.args.books.now c.write_level.new.books _ _
    (rw c.in-Err-Failed.field-0-is at c.in-Err-Failed.ensures) refl
