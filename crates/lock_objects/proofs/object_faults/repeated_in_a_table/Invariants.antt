use Rattle.std.proofs.Common.{◌≡◌, drop}
use Rattle.lock_objects.specs.declared.field.KeyTable.{KeyTable}
use Rattle.lock_objects.specs.Objects.{first_some, first_repeat}
use Rattle.lock_objects.proofs.object_faults.repeated_in_a_table.Given as goal

abbrev pub invariant-loop-table : goal.invariant-loop-table
invariant-loop-table l = first_some (λ (t : KeyTable). first_repeat t.keys) l.tables ≡ first_some (λ (t : KeyTable). first_repeat t.keys)
    (drop l.table-index l.tables)
