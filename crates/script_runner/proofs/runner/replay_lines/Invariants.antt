use Rattle.std.proofs.Common.{◌≡◌, ◌-◌}
use Rattle.std.specs.Prelude.{true, is_some, IsTrue}
use Rattle.enq_server.specs.Replica.{IsLater}
use Rattle.script_runner.specs.Faults.{NoneUnsound, NoneUnsoundReplica, NoneUnsoundStore, TellsNoFault}
use Rattle.script_runner.specs.Replay.{seen}
use Rattle.script_runner.specs.Replicas.{GoesOnLinked, link_counts}
use Rattle.script_runner.specs.World.{world}
use Rattle.script_runner.proofs.Loop.{GoesOn}
use Rattle.script_runner.proofs.runner.replay_lines.Given as goal

abbrev pub invariant-lines : goal.invariant-lines
invariant-lines g l =
    GoesOn (world l.objects l.initial.hall.state l.initial.sides.items) (world l.objects l.hall.state l.sides.items)
    (seen (g.S.Source.left l.initial.source) (g.W.Sink.written l.initial.sink) (g.S.Source.faults l.initial.source) (g.W.Sink.faults l.initial.sink)
    (g.K.Keeper.faults l.initial.hall.keeper) (g.D.Disk.faults l.initial.hall.file.disk))
    (seen (g.S.Source.left l.source) (g.W.Sink.written l.sink) (g.S.Source.faults l.source) (g.W.Sink.faults l.sink) (g.K.Keeper.faults l.hall.keeper)
    (g.D.Disk.faults l.hall.file.disk))
    l.reader
    × (is_some (g.K.Keeper.held l.hall.keeper) ≡ is_some (g.K.Keeper.held l.initial.hall.keeper))
    × (is_some (g.L.Link.applied l.initial.hall.replica.link) ≡ true → IsTrue g.D.Disk.tells → NoneUnsound l.initial.hall.state.past
    → NoneUnsound l.hall.state.past)
    × (is_some (g.K.Keeper.held l.initial.hall.keeper) ≡ true → NoneUnsoundStore l.initial.hall.state.past → NoneUnsoundStore l.hall.state.past)
    × IsLater g.L.Link.applied g.L.Link.faults g.L.Link.refusals l.initial.hall.replica l.hall.replica
    × TellsNoFault (g.L.Link.faults l.initial.hall.replica.link) (g.L.Link.faults l.hall.replica.link) l.initial.hall.state.past l.hall.state.past
    × (is_some (g.L.Link.applied l.initial.hall.replica.link) ≡ true → NoneUnsoundReplica l.initial.hall.state.past → NoneUnsoundReplica l.hall.state.past)
    × GoesOnLinked l.initial.hall.state l.hall.state (link_counts g.L.Link.faults g.L.Link.refusals l.initial.hall.replica.link)
    (link_counts g.L.Link.faults g.L.Link.refusals l.hall.replica.link)

abbrev pub decreases-lines : goal.decreases-lines
decreases-lines g l = 200000 - l.reader.number
