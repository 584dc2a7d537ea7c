use Rattle.std.proofs.Common.{◌≡◌, map, take, drop}
use Rattle.lock_objects.specs.declared.field.Field.{Field}
use Rattle.lock_objects.specs.Objects.{first_repeat, repeat_after}
use Rattle.lock_objects.proofs.object_faults.repeated_field.Given as goal

abbrev pub invariant-loop-i : goal.invariant-loop-i
invariant-loop-i l = first_repeat (map (λ (f : Field). f.name) l.fields) ≡ repeat_after (map (λ (f : Field). f.name) (take l.i l.fields))
    (map (λ (f : Field). f.name) (drop l.i l.fields))
