use Rattle.std.proofs.Common.{refl, sym, ◌∙◌}
use Rattle.ledger_steps.specs.Intervals.{with_intervals}
use Rattle.ledger_steps.specs.declared.step.Step.TheVariants.{Draw}
use Rattle.update_records.specs.Growing.{with_mark}
use Rattle.update_records.specs.declared.records.MarkKind.TheVariants.{Num}
use Rattle.hall_model.specs.declared.command.Reply.TheVariants as reply
use Rattle.hall_calls.proofs.CommittedChanges.{wanting_ends}
use Rattle.hall_calls.proofs.verdicts.Recording.{numbers_in_flight}
use Rattle.hall_calls.proofs.ending.OverStore.{done_ends, failed_ends}
use Rattle.hall_calls.proofs.units.record_numbers.Goals as goal

pub returns-in-Ok : goal.returns-in-Ok
returns-in-Ok g c =
    let numbers = c.as_slice-numbers in
    let levels = c.as_slice-levels in
    let ledger = c.args.books.now.ledger in
    record {
      outcome = (
        c.settle_draws.ensures,
        c.in-Ok.ensures.done
            ∙ (λ i. with_intervals (levels.ensures i) (with_mark ledger c.args.drawn.unit (Num (numbers.ensures i)))),
      );
      sessions = tt;
      store = done_ends g.K.Keeper.held g.K.Keeper.is_open g.K.Keeper.may_leave g.K.Keeper.faults g.met.K.Keeper.settled c.args.books.now
          c.write_numbers.new.books (Draw c.args.drawn.unit numbers.result.now levels.result.now) c.in-Ok.ensures reply.Done (λ n m same. same) tt;
    }

pub returns-in-Err-NoMemory : goal.returns-in-Err-NoMemory
returns-in-Err-NoMemory g c =
    let tried = rw c.in-Err-NoMemory.field-0-is at c.in-Err-NoMemory.ensures in
    record {
      outcome = (refl, tried.kept);
      sessions = tt;
      store = wanting_ends g.K.Keeper.held g.K.Keeper.is_open g.K.Keeper.may_leave g.K.Keeper.faults g.met.K.Keeper.settled c.args.books.now
          c.write_numbers.new.books (Draw c.args.drawn.unit c.as_slice-numbers.result.now c.as_slice-levels.result.now) tried;
    }

pub returns-in-Err-Failed : goal.returns-in-Err-Failed
returns-in-Err-Failed g c =
    let drawn = c.args.drawn in
    let numbers = c.as_slice-numbers in
    let levels = c.as_slice-levels in
    record {
      outcome = (refl, refl, refl);
      sessions = refl;
      store = failed_ends g.K.Keeper.held g.K.Keeper.is_open g.K.Keeper.may_leave g.K.Keeper.faults c.args.books.now c.write_numbers.new.books
          (Draw drawn.unit numbers.result.now levels.result.now) (Draw drawn.unit drawn.numbers drawn.levels)
          (rw c.in-Err-Failed.field-0-is at c.in-Err-Failed.ensures)
          (numbers_in_flight c.args.books.now.ledger drawn.unit numbers.result.now drawn.numbers levels.result.now drawn.levels (sym numbers.ensures)
          (sym levels.ensures));
    }
