use Rattle.std.proofs.Common.{◌≡◌, Ok}
use Rattle.lock_entry.specs.Table.{Table}
use Rattle.lock_entry.specs.Converting.{conversion, converted}
use Rattle.lock_laws.proofs.ConversionSound.{IsTable-converted}
use Rattle.lock_index.specs.Slots.{live}
use Rattle.lock_index.proofs.index_table.IndexTableLockStore.convert.Goals as goal

pub test-requires : goal.test-requires
test-requires c = c.self.invariant.sound.names

pub convert-requires : goal.convert-requires
convert-requires c = c.self.invariant.sound.names

pub invariant_of-self-2 : goal.invariant_of-self-2
invariant_of-self-2 c =
    let t : Table = record { entries = live c.self.inside.shelf; limit = c.self.inside.limit } in
    let done : converted t.entries c.args.asker.now c.args.asked.now ≡ Ok (conversion t.entries c.args.asker.now c.args.asked.now) = c.in_ok-test.ensures.ok in
    rw c.in_ok-removed.ensures.after
    (IsTable-converted t c.args.asker.now c.args.asked.now (conversion t.entries c.args.asker.now c.args.asked.now) c.self.invariant c.requires done)

pub returns-clause-good : goal.returns-clause-good
returns-clause-good c = invariant_of-self-2 c
