use Rattle.std.proofs.Common.{◌≡◌, ◌∙◌, Some, sym}
use Rattle.mode_rules.specs.declared.Mode.TheVariants.{E}
use Rattle.lock_entry.specs.declared.entry.Entry.{Entry}
use Rattle.lock_index.specs.Slots.{slot_at}
use Rattle.lock_index.proofs.Live.{live-as_many}
use Rattle.lock_index.proofs.shelf.Shelf.make_exclusive.Goals as goal

pub invariant_of-self : goal.invariant_of-self
invariant_of-self c =
    let ss = c.self.inside.slots.items in
    let at : slot_at ss c.args.place ≡ Some c.args.entry.now = rw c.self.view_is c.requires.stands in
    let new : Entry = record c.args.entry.now { mode = E } in
    record {
      shown = c.forget_optimistic.ensures ss c.self.invariant.shown at c.requires.optimistic;
      counted = c.self.invariant.counted ∙ sym (live-as_many ss c.args.place c.args.entry.now new at);
    }
