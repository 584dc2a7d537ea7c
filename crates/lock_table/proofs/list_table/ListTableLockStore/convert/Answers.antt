use Rattle.std.proofs.Common.{◌≡◌, Ok, rules}
use Rattle.lock_entry.specs.Table.{Table}
use Rattle.lock_entry.specs.Converting.{converted, conversion}
use Rattle.lock_laws.proofs.ConversionSound.{IsTable-converted}
use Rattle.lock_table.proofs.list_table.ListTableLockStore.convert.Goals as goal

pub invariant_of-self-2 : goal.invariant_of-self-2
invariant_of-self-2 c =
    let t : Table = record { entries = c.self.inside.entries.items; limit = c.self.inside.limit } in
    let done : converted t.entries c.args.asker.now c.args.asked.now ≡ Ok (conversion t.entries c.args.asker.now c.args.asked.now) = search rules in
    rw c.convert.ensures
    (IsTable-converted t c.args.asker.now c.args.asked.now (conversion t.entries c.args.asker.now c.args.asked.now) c.self.invariant c.requires done)

pub returns-clause-good : goal.returns-clause-good
returns-clause-good c = invariant_of-self-2 c
