use Rattle.std.proofs.Common.{take}
use Rattle.store_reading.specs.Gathered.{AreUsers}
use Rattle.store_reading.proofs.units.users_of.Given as goal

abbrev pub invariant-loop-stored : goal.invariant-loop-stored
invariant-loop-stored l = AreUsers l.users (take l.stored-index l.headers)
