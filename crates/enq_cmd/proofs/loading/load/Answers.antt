use Rattle.std.proofs.Common.{rules}
use Rattle.script_runner.specs.declared.runner.Why.TheVariants.{Done}
use Rattle.enq_cmd.proofs.loading.load.Goals as goal

pub returns-in-Done-clause-run : goal.returns-in-Done-clause-run
returns-in-Done-clause-run g c = record {
  end = Done;
  rest = c.replay.new.source;
  runs = rw c.in-Done.is at c.replay.ensures.run;
  complete = λ bytes left script calm. rw c.in-Done.is at (c.replay.ensures.complete bytes left script calm.source calm.sink calm.store calm.file);
  shown = search rules;
}
