use Rattle.std.proofs.Common.{◌∙◌, ◌++◌, [], ap, sym, List}
use Rattle.std.specs.List.{cons_option}
use Rattle.lock_entry.specs.declared.entry.Entry.{Entry}
use Rattle.lock_index.proofs.Live.{live-next}
use Rattle.lock_index.proofs.lists.live_entries.Goals as goal

pub loop-slot-preserved : goal.loop-slot-preserved
loop-slot-preserved c =
    c.in_ok-push_slot.ensures ∙ ap (λ (l : List Entry). l ++ cons_option c.slot-item.result []) c.loop-slot.invariant
    ∙ sym (live-next c.args.slots.now c.loop-slot.slot-index c.slot-item.result c.loop-slot-test.true c.slot-item.is)
