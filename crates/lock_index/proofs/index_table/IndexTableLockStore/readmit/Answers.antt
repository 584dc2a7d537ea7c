use Rattle.std.proofs.Common.{◌≡◌, ◌∙◌, ap, sym, Ok, List}
use Rattle.lock_entry.specs.declared.entry.Entry.{Entry}
use Rattle.lock_entry.specs.Granting.{readmitted}
use Rattle.lock_entry.specs.Table.{Table}
use Rattle.lock_laws.proofs.Readmits.{IsTable-readmitted}
use Rattle.lock_index.specs.Slots.{live}
use Rattle.lock_index.proofs.index_table.IndexTableLockStore.readmit.Goals as goal

pub invariant_of-self-2 : goal.invariant_of-self-2
invariant_of-self-2 c =
    let t : Table = record { entries = live c.self.inside.shelf; limit = c.self.inside.limit } in
    let done : readmitted t c.args.asker.now c.args.entries.now ≡ Ok (live c.replace.new.shelf) =
    c.in_ok-test.ensures.granted ∙ ap (λ (l : List Entry). Ok l) (sym c.in_ok-replace.ensures.replaced) in
    IsTable-readmitted t c.args.asker.now c.args.entries.now (live c.replace.new.shelf) c.self.invariant c.requires.pair c.requires.entries done

pub returns-clause-good : goal.returns-clause-good
returns-clause-good c = invariant_of-self-2 c
