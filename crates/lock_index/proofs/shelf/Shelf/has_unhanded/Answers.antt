use Rattle.std.proofs.Common.{◌≡◌, ◌∙◌, ap, nat_eq, ◌&&◌}
use Rattle.std.specs.List.{list_any}
use Rattle.lock_index.specs.Keys.{has_key}
use Rattle.lock_index.specs.Slots.{live, on_some, slot_at, is_unhanded}
use Rattle.lock_index.proofs.Unhanded.{any-placed}
use Rattle.lock_index.proofs.shelf.Shelf.has_unhanded.Goals as goal

pub returns : goal.returns
returns c =
    let q = has_key c.args.key.now in
    let slots : c.as_slice.result.now ≡ c.self.inside.slots.items = c.as_slice.ensures.value in
    c.has_unhanded.ensures
    ∙ ap (λ ss. list_any (λ i. on_some is_unhanded (slot_at ss i)) c.members.result.now) slots
    ∙ any-placed q is_unhanded c.self.inside.slots.items c.members.result.now
    (λ j. ap (list_any (nat_eq j)) c.members.ensures.members ∙ c.self.invariant.shown.exact c.args.key.now j c.requires)
    ∙ ap (λ ss. list_any (λ e. q e && is_unhanded e) (live ss)) c.self.view_is
