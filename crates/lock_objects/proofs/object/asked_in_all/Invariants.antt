use Rattle.std.proofs.Common.{◌≡◌, map, take}
use Rattle.lock_objects.specs.Arguments as arguments
use Rattle.lock_objects.proofs.object.asked_in_all.Given as goal

abbrev pub invariant-loop-table : goal.invariant-loop-table
invariant-loop-table l = l.all.items ≡ map (arguments.asked_of l.fields l.values l.mode) (take l.table-index l.tables)
