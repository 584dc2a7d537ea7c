use Rattle.lock_entry.specs.Table.{Table}
use Rattle.lock_laws.proofs.Frees.{IsTable-handed_over}
use Rattle.lock_table.proofs.list_table.ListTableLockStore.hand.Goals as goal

pub invariant_of-self : goal.invariant_of-self
invariant_of-self c =
    let t : Table = record { entries = c.self.inside.entries.items; limit = c.self.inside.limit } in
    rw c.hand_over.ensures (IsTable-handed_over t c.args.unit.now c.self.invariant)

pub returns-clause-good : goal.returns-clause-good
returns-clause-good c = invariant_of-self c
