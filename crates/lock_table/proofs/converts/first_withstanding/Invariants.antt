use Rattle.std.proofs.Common.{◌≡◌, drop}
use Rattle.lock_entry.specs.Converting as converting
use Rattle.lock_table.proofs.converts.first_withstanding.Given as goal

abbrev pub invariant-loop-a : goal.invariant-loop-a
invariant-loop-a l = converting.first_withstanding l.entries l.asker l.asked ≡ converting.first_withstanding l.entries l.asker (drop l.a-index l.asked)
