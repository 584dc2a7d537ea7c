use Rattle.std.proofs.Common.{◌≡◌, ◌∙◌, Some, sym, ap}
use Rattle.lock_entry.specs.declared.entry.LockName.{LockName}
use Rattle.lock_entry.specs.Names.{name_of}
use Rattle.lock_entry.proofs.lemmas.Naming.{same_name-same}
use Rattle.lock_index.specs.Slots.{slot_at}
use Rattle.lock_index.proofs.Live.{live-as_many}
use Rattle.lock_index.proofs.Shipped.{same-keys}
use Rattle.lock_index.proofs.Slots.{shown-written}
use Rattle.lock_index.proofs.shelf.Shelf.rewrite.Goals as goal

pub invariant_of-self : goal.invariant_of-self
invariant_of-self c =
    let ss = c.self.inside.slots.items in
    let e = c.args.entry.now in
    let new = c.args.other.now in
    let at : slot_at ss c.args.place ≡ Some e = rw c.self.view_is c.requires.stands in
    let name : name_of new ≡ name_of e = same_name-same (name_of new) (name_of e) c.requires.same in
    record {
      shown = shown-written ss c.self.inside.map c.self.invariant.shown e new c.args.place at (λ k. same-keys k new e name)
          (ap (λ (n : LockName). n.asked.table) name) (ap (λ (n : LockName). n.asked.pattern) name);
      counted = c.self.invariant.counted ∙ sym (live-as_many ss c.args.place e new at);
    }
