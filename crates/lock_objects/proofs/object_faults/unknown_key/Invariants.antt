use Rattle.std.proofs.Common.{◌≡◌, drop}
use Rattle.lock_objects.specs.declared.field.KeyTable.{KeyTable}
use Rattle.lock_objects.specs.Objects.{first_some, first_unknown}
use Rattle.lock_objects.proofs.object_faults.unknown_key.Given as goal

abbrev pub invariant-loop-table : goal.invariant-loop-table
invariant-loop-table l = first_some (λ (t : KeyTable). first_unknown l.fields t.keys) l.tables ≡ first_some (λ (t : KeyTable). first_unknown l.fields t.keys)
    (drop l.table-index l.tables)
