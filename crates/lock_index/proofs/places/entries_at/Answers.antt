use Rattle.std.proofs.Common.{◌∙◌, ap}
use Rattle.std.specs.List.{filter_map}
use Rattle.lock_index.specs.Slots.{slot_at}
use Rattle.lock_index.proofs.InOrder.{in-order}
use Rattle.lock_index.proofs.places.entries_at.Goals as goal

pub returns : goal.returns
returns c = λ q distinct shown.
    c.in_ok-read.ensures
    ∙ ap (filter_map (slot_at c.args.slots.now)) c.as_slice.ensures.value
    ∙ in-order q c.args.places.now c.in_ok-sorted.sorted.items c.args.slots.now distinct shown c.in_ok-sorted.ensures.moved c.in_ok-sorted.ensures.rising
