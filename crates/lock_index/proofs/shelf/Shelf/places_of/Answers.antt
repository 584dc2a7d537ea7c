use Rattle.std.proofs.Common.{◌∙◌, ap, nat_eq}
use Rattle.std.specs.List.{list_any}
use Rattle.lock_index.specs.Keys.{has_key}
use Rattle.lock_index.specs.Slots.{on_some, slot_at}
use Rattle.lock_index.proofs.shelf.Shelf.places_of.Goals as goal

pub returns : goal.returns
returns c = λ j.
    ap (list_any (nat_eq j)) c.members.ensures.members ∙ c.self.invariant.shown.exact c.args.key.now j c.requires
    ∙ ap (λ ss. on_some (has_key c.args.key.now) (slot_at ss j)) c.self.view_is
