use Rattle.std.specs.Prelude.{is_some}
use Rattle.turn_desks.specs.Led.{counts_of}
use Rattle.thread_runner.proofs.running.run.Given as goal

abbrev pub ghosts-run_as : goal.ghosts-run_as
ghosts-run_as g a = record {
  first = a.hall.state;
  counts =
      counts_of g.K.Keeper.faults g.D.Disk.faults g.L.Link.faults g.L.Link.refusals a.hall.keeper a.hall.file.disk a.hall.replica.link;
  told = is_some (g.K.Keeper.held a.hall.keeper);
  linked = is_some (g.L.Link.applied a.hall.replica.link);
}
