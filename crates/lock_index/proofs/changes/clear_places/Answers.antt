use Rattle.std.proofs.Common.{◌≤◌, ◌∙◌, ap, cond, nat_eq, length, None, get_or, arith}
use Rattle.std.specs.List.{list_any}
use Rattle.std.proofs.lemmas.List.{take_all}
use Rattle.lock_index.specs.Slots.{slot_at}
use Rattle.lock_index.proofs.Changed.{length-set}
use Rattle.lock_index.proofs.Cleared.{cleared-more}
use Rattle.lock_index.proofs.changes.clear_places.Goals as goal

pub loop-place-preserved : goal.loop-place-preserved
loop-place-preserved c = record {
  long = ap length c.clear_at.ensures ∙ length-set c.loop-place.shelf (get_or c.args.places.now c.loop-place.place-index 0) None ∙ c.loop-place.invariant.long;
  cleared = cleared-more c.args.shelf.now c.loop-place.shelf c.clear_at.new.shelf c.args.places.now c.loop-place.place-index c.loop-place-test.true
      c.loop-place.invariant.cleared c.clear_at.ensures;
}

pub returns-clause-cleared : goal.returns-clause-cleared
returns-clause-cleared c = λ j.
    let all : length c.args.places.now ≤ c.loop-place.place-index = omega arith in
    c.loop-place.invariant.cleared j ∙ ap (λ ps. cond (list_any (nat_eq j) ps) None (slot_at c.args.shelf.now j))
    (take_all c.loop-place.place-index c.args.places.now all)
