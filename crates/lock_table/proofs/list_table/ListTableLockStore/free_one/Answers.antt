use Rattle.lock_entry.specs.Table.{Table}
use Rattle.lock_entry.specs.Names.{named}
use Rattle.lock_laws.proofs.Frees.{IsTable-freed}
use Rattle.lock_table.proofs.list_table.ListTableLockStore.free_one.Goals as goal

pub invariant_of-self : goal.invariant_of-self
invariant_of-self c =
    let t : Table = record { entries = c.self.inside.entries.items; limit = c.self.inside.limit } in
    rw c.free_one.ensures.after (IsTable-freed t (named c.args.owner.now c.args.asked.now) c.self.invariant)

pub returns-clause-good : goal.returns-clause-good
returns-clause-good c = invariant_of-self c
