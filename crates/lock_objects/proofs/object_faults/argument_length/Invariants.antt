use Rattle.std.proofs.Common.{◌≡◌, take}
use Rattle.lock_objects.specs.Objects as objects
use Rattle.lock_objects.proofs.object_faults.argument_length.Given as goal

abbrev pub invariant-loop-key : goal.invariant-loop-key
invariant-loop-key l = l.bytes ≡ objects.in_32_bits (objects.argument_length l.fields (take l.key-index l.keys))
