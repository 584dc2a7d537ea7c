use Rattle.std.proofs.Common.{◌≡◌, take, drop}
use Rattle.lock_objects.specs.Objects.{first_repeat, repeat_after}
use Rattle.lock_objects.proofs.object_faults.repeated_key.Given as goal

abbrev pub invariant-loop-i : goal.invariant-loop-i
invariant-loop-i l = first_repeat l.keys ≡ repeat_after (take l.i l.keys) (drop l.i l.keys)
