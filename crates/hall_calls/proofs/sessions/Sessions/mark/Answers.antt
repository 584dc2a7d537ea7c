use Rattle.std.proofs.Common.{arith, ap, ◌∙◌}
use Rattle.hall_model.specs.Sessions.{has_one_of, with_mark}
use Rattle.hall_model.specs.State.{unhanded}
use Rattle.hall_calls.proofs.restarting.LostLocks.{all_changed, first_changed, one_changed}
use Rattle.hall_calls.proofs.sessions.Sessions.mark.Goals as goal

pub loop-place-preserved : goal.loop-place-preserved
loop-place-preserved g c = record {
  so_far = one_changed (with_mark (has_one_of c.args.start (unhanded c.args.locks.now.table.entries))) c.args.self.now c.loop-place.self _ c.loop-place.place
      (omega arith) c.loop-place.invariant.so_far c.mark_at.ensures;
}

pub returns : goal.returns
returns g c =
    let xs = c.args.self.now in
    let f = with_mark (has_one_of c.args.start (unhanded c.args.locks.now.table.entries)) in
    c.loop-place.invariant.so_far ∙ ap (λ n. first_changed f n xs) (omega arith) ∙ all_changed f xs
