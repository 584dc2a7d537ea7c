use Rattle.std.proofs.Common.{arith, ap, false, ◌∙◌}
use Rattle.hall_model.specs.Sessions.{with_mark}
use Rattle.hall_calls.proofs.restarting.LostLocks.{all_changed, first_changed, one_changed}
use Rattle.hall_calls.proofs.sessions.Sessions.forgive.Goals as goal

pub loop-place-preserved : goal.loop-place-preserved
loop-place-preserved c = record {
  so_far = one_changed (with_mark (λ x. false)) c.args.self.now c.loop-place.self _ c.loop-place.place
      (omega arith) c.loop-place.invariant.so_far c.forgive_at.ensures;
}

pub returns : goal.returns
returns c =
    let xs = c.args.self.now in
    c.loop-place.invariant.so_far ∙ ap (λ n. first_changed (with_mark (λ x. false)) n xs) (omega arith) ∙ all_changed (with_mark (λ x. false)) xs
