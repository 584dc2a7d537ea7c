use Rattle.std.proofs.Common.{◌∙◌, ◌&&◌, not, ap}
use Rattle.std.specs.List.{list_any}
use Rattle.lock_index.specs.Keys.{has_key}
use Rattle.lock_index.specs.Slots.{live, is_lengths}
use Rattle.lock_index.proofs.Owned.{owner-is, not-lengths}
use Rattle.lock_index.proofs.owners.has_unhanded.Goals as goal

pub has_unhanded-requires : goal.has_unhanded-requires
has_unhanded-requires c = ap is_lengths c.owner_key.ensures ∙ not-lengths c.args.owner.now

pub returns : goal.returns
returns c =
    c.has_unhanded.ensures ∙ ap (λ k. list_any (λ e. has_key k e && not e.handed) (live c.args.shelf.now)) c.owner_key.ensures
    ∙ (λ i. list_any (λ e. owner-is e c.args.owner.now i && not e.handed) (live c.args.shelf.now))
