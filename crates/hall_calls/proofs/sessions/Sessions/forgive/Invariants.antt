use Rattle.std.proofs.Common.{◌≡◌, false}
use Rattle.hall_model.specs.Sessions.{with_mark}
use Rattle.hall_calls.proofs.restarting.LostLocks.{first_changed}
use Rattle.hall_calls.proofs.sessions.Sessions.forgive.Given as goal

abbrev pub invariant-loop-place : goal.invariant-loop-place
invariant-loop-place l = record {
  so_far : l.self ≡ first_changed (with_mark (λ x. false)) l.place l.fn.self;
}
