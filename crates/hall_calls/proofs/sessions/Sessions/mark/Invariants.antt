use Rattle.std.proofs.Common.{◌≡◌}
use Rattle.hall_model.specs.Sessions.{has_one_of, with_mark}
use Rattle.hall_model.specs.State.{unhanded}
use Rattle.hall_calls.proofs.restarting.LostLocks.{first_changed}
use Rattle.hall_calls.proofs.sessions.Sessions.mark.Given as goal

abbrev pub invariant-loop-place : goal.invariant-loop-place
invariant-loop-place g l = record {
  so_far : l.self ≡ first_changed (with_mark (has_one_of l.start (unhanded l.locks.table.entries))) l.place l.fn.self;
}
