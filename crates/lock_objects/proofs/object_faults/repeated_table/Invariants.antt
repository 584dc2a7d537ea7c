use Rattle.std.proofs.Common.{◌≡◌, map, take, drop}
use Rattle.lock_objects.specs.declared.field.KeyTable.{KeyTable}
use Rattle.lock_objects.specs.Objects.{first_repeat, repeat_after}
use Rattle.lock_objects.proofs.object_faults.repeated_table.Given as goal

abbrev pub invariant-loop-i : goal.invariant-loop-i
invariant-loop-i l = first_repeat (map (λ (t : KeyTable). t.name) l.tables) ≡ repeat_after (map (λ (t : KeyTable). t.name) (take l.i l.tables))
    (map (λ (t : KeyTable). t.name) (drop l.i l.tables))
