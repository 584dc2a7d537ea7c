use Rattle.lock_entry.specs.Table.{Table}
use Rattle.lock_laws.proofs.Frees.{IsTable-freed_owner}
use Rattle.lock_table.proofs.list_table.ListTableLockStore.free_owner.Goals as goal

pub invariant_of-self : goal.invariant_of-self
invariant_of-self c =
    let t : Table = record { entries = c.self.inside.entries.items; limit = c.self.inside.limit } in
    rw c.free_owner.ensures.after (IsTable-freed_owner t c.args.owner.now c.self.invariant)

pub returns-clause-good : goal.returns-clause-good
returns-clause-good c = invariant_of-self c
