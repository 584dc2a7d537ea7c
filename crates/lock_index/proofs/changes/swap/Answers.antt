use Rattle.std.proofs.Common.{◌∙◌, ◌++◌, ap, cond, filter, length, map, nat_eq, not, List, None, Some}
use Rattle.std.specs.List.{list_any}
use Rattle.lock_entry.specs.declared.entry.Entry.{Entry}
use Rattle.lock_index.specs.Keys.{has_key}
use Rattle.lock_index.specs.Slots.{live, slot_at}
use Rattle.lock_index.proofs.Changed.{live-some}
use Rattle.lock_index.proofs.Cleared.{live-replaced}
use Rattle.lock_index.proofs.changes.swap.Goals as goal

pub returns-clause-replaced : goal.returns-clause-replaced
returns-clause-replaced c =
    let q = has_key c.args.key.now in
    let old = c.args.shelf.now in
    let ps = c.as_slice.result.now in
    let rest = map (λ (e : Entry). Some e) c.args.given.now in
    live-replaced q (λ j. list_any (nat_eq j) ps) old rest c.clear_places.new.shelf
    (c.clear_places.ensures.long ∙ ap length c.in_ok-push_all.ensures.pushed)
    (λ j. c.clear_places.ensures.cleared j ∙ ap (λ ss. cond (list_any (nat_eq j) ps) None (slot_at ss j)) c.in_ok-push_all.ensures.pushed)
    (λ j. ap (list_any (nat_eq j)) (c.as_slice.ensures.value ∙ c.in_ok-places.ensures.items) ∙ c.places_of.ensures j)
    ∙ ap (λ (l : List Entry). filter (λ e. not (q e)) (live old) ++ l) (live-some c.args.given.now)
