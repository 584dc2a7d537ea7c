use Rattle.std.proofs.Common.{◌≡◌, take, drop}
use Rattle.lock_objects.specs.Arguments as arguments
use Rattle.lock_objects.proofs.value_faults.values_fault.Given as goal

abbrev pub invariant-loop-i : goal.invariant-loop-i
invariant-loop-i l = arguments.values_fault l.fields l.values ≡ arguments.fault_after l.fields (take l.i l.values) (drop l.i l.values)
