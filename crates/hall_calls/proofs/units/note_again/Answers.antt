use Rattle.std.proofs.Common.{refl, ap, ◌∙◌}
use Rattle.ledger_steps.specs.Steps.{after_step}
use Rattle.ledger_steps.specs.declared.step.Step.TheVariants.{Note}
use Rattle.hall_model.specs.declared.command.Reply.TheVariants as reply
use Rattle.hall_calls.proofs.ending.OverStore.{done_ends, failed_ends}
use Rattle.hall_calls.proofs.units.note_again.Goals as goal

pub write-requires : goal.write-requires
write-requires g c = record { usable = c.requires.usable; ready = c.requires.ready }

pub returns-in-Ok : goal.returns-in-Ok
returns-in-Ok g c = record {
  outcome = (refl, c.in-Ok.ensures.tried.done ∙ ap (after_step c.args.books.now.ledger) c.requires.step);
  store = done_ends g.K.Keeper.held g.K.Keeper.is_open g.K.Keeper.may_leave g.K.Keeper.faults g.met.K.Keeper.settled c.args.books.now c.write.new.books
      c.args.prepared.step c.in-Ok.ensures.tried (reply.Unit c.args.unit) (λ n m same. same) tt;
}

pub returns-in-Err : goal.returns-in-Err
returns-in-Err g c = record {
  outcome = (refl, refl);
  store = failed_ends g.K.Keeper.held g.K.Keeper.is_open g.K.Keeper.may_leave g.K.Keeper.faults c.args.books.now c.write.new.books c.args.prepared.step
      (Note c.args.unit c.args.kind) (rw c.in-Err.ensures.failed at c.in-Err.ensures.tried) (ap (after_step c.args.books.now.ledger) c.requires.step);
}
