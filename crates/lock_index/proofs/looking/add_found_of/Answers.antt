use Rattle.std.proofs.Common.{◌∙◌, ◌||◌, ◌&&◌, nat_eq, get_or, take, ap, sym}
use Rattle.std.specs.List.{list_any}
use Rattle.indexmap.specs.IndexSet.{contains}
use Rattle.lock_index.specs.Searches.{finds}
use Rattle.lock_index.specs.Slots.{on_some, slot_at}
use Rattle.lock_index.proofs.Found.{place-more}
use Rattle.lock_index.proofs.Numbers.{or-nothing}
use Rattle.lock_index.proofs.looking.add_found_of.Goals as goal

pub loop-place-init : goal.loop-place-init
loop-place-init c = λ i. sym (or-nothing (contains nat_eq c.args.found.now i))

pub loop-place-preserved : goal.loop-place-preserved
loop-place-preserved c = λ i.
    let k = c.loop-place.place-index in
    let p = get_or c.args.places.now k 0 in
    c.in_ok-add_if.ensures i
    ∙ ap (λ b. b || (c.is_found.result && nat_eq i p)) (c.loop-place.invariant i)
    ∙ ap (λ b. (contains nat_eq c.args.found.now i
    || (list_any (nat_eq i) (take k c.args.places.now) && on_some (finds c.args.search.now) (slot_at c.args.slots.now i))) || (b && nat_eq i p))
    c.is_found.ensures
    ∙ place-more c.args.slots.now c.args.search.now c.args.places.now k (contains nat_eq c.args.found.now i) i c.loop-place-test.true
