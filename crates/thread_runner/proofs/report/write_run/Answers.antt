use Rattle.thread_runner.proofs.report.write_run.Goals as goal

pub returns-then-had_no_memory-clause-written : goal.returns-then-had_no_memory-clause-written
returns-then-had_no_memory-clause-written g c = c.write_history.ensures.written c.args.lines.now c.args.deeds.items

pub returns-clause-written : goal.returns-clause-written
returns-clause-written g c = c.write_history-in-Err.ensures.written c.args.lines.now c.args.deeds.items
