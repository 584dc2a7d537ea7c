use Rattle.std.proofs.Common.{◌≡◌}
use Rattle.hall_model.specs.Sessions.{bereft_if}
use Rattle.hall_calls.proofs.restarting.LostLocks.{first_changed}
use Rattle.hall_calls.proofs.sessions.Sessions.bereave.Given as goal

abbrev pub invariant-loop-place : goal.invariant-loop-place
invariant-loop-place l = record {
  so_far : l.self ≡ first_changed (bereft_if l.caller) l.place l.fn.self;
}
