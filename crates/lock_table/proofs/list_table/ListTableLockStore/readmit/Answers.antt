use Rattle.std.proofs.Common.{◌≡◌, Ok, sym, ap, ◌∙◌}
use Rattle.lock_entry.specs.Granting.{readmitted}
use Rattle.lock_entry.specs.Table.{Table}
use Rattle.lock_laws.proofs.Readmits.{IsTable-readmitted}
use Rattle.lock_table.proofs.list_table.ListTableLockStore.readmit.Goals as goal

pub invariant_of-self-2 : goal.invariant_of-self-2
invariant_of-self-2 c =
    let t : Table = record { entries = c.self.inside.entries.items; limit = c.self.inside.limit } in
    let tested = rw c.as_slice.ensures.value at c.in_ok-test.ensures.granted in
    let done : readmitted t c.args.asker.now c.args.entries.now ≡ Ok c.replace.new.entries.items =
    tested ∙ ap (λ r. Ok r) (sym c.in_ok-replace.ensures.replaced) in
    IsTable-readmitted t c.args.asker.now c.args.entries.now c.replace.new.entries.items c.self.invariant c.requires.pair c.requires.entries done

pub returns-clause-good : goal.returns-clause-good
returns-clause-good c = invariant_of-self-2 c
