use Rattle.std.proofs.Common.{IfSome, sym, ap, ◌∙◌, subst, slice_get, arith}
use Rattle.hall_model.specs.Kept.{IsYoung}
use Rattle.hall_model.specs.Sessions.{bereft_if}
use Rattle.hall_calls.proofs.restarting.LostLocks.{all_at, all_changed, first_changed, next_as_before, one_changed}
use Rattle.hall_calls.proofs.sessions.Sessions.bereave.Goals as goal

pub bereave_at-requires : goal.bereave_at-requires
bereave_at-requires c =
    let place = c.loop-place.place in
    let next = ap (λ xs. slice_get xs place) c.loop-place.invariant.so_far ∙ next_as_before (bereft_if c.args.caller.now) c.args.self.now place in
    record { young = subst (λ o. IfSome o (IsYoung 262145)) (sym next) (all_at (IsYoung 262145) c.args.self.now place c.requires) }

pub loop-place-preserved : goal.loop-place-preserved
loop-place-preserved c = record {
  so_far = one_changed (bereft_if c.args.caller.now) c.args.self.now c.loop-place.self _ c.loop-place.place
      (omega arith) c.loop-place.invariant.so_far c.bereave_at.ensures;
}

pub returns : goal.returns
returns c =
    let xs = c.args.self.now in
    let f = bereft_if c.args.caller.now in
    c.loop-place.invariant.so_far ∙ ap (λ n. first_changed f n xs) (omega arith) ∙ all_changed f xs
