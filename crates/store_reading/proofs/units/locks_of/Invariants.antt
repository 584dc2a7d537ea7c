use Rattle.std.proofs.Common.{List, take}
use Rattle.update_records.specs.declared.stored.Record.{Record}
use Rattle.store_reading.specs.Gathered.{AreEntries, AreUsers}
use Rattle.store_reading.proofs.units.locks_of.Given as goal

abbrev pub invariant-loop-stored : goal.invariant-loop-stored
invariant-loop-stored l = (headers : List Record) → AreUsers l.users headers → AreEntries l.lists headers (take l.stored-index l.locks)
