use Rattle.std.proofs.Common.{◌≡◌, ◌++◌, take, drop}
use Rattle.enq_server.specs.Server.{of_user}
use Rattle.hall_calls.proofs.units.put_under.Given as goal

abbrev pub invariant-loop-entry : goal.invariant-loop-entry
invariant-loop-entry l = l.entries ≡ of_user l.user (take l.entry-index l.initial.entries) ++ drop l.entry-index l.initial.entries
