use Rattle.std.proofs.Common.{◌≡◌, ◌++◌, map, take, drop}
use Rattle.enq_server.specs.Server.{with_user}
use Rattle.enq_server.proofs.server.put_under.Given as goal

abbrev pub invariant-loop-entry : goal.invariant-loop-entry
invariant-loop-entry l = l.entries ≡ map (with_user l.user) (take l.entry-index l.initial.entries) ++ drop l.entry-index l.initial.entries
