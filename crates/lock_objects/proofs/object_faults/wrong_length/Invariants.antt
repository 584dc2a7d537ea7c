use Rattle.std.proofs.Common.{◌≡◌, drop}
use Rattle.lock_objects.specs.declared.field.KeyTable.{KeyTable}
use Rattle.lock_objects.specs.Objects as objects
use Rattle.lock_objects.proofs.object_faults.wrong_length.Given as goal

abbrev pub invariant-loop-table : goal.invariant-loop-table
invariant-loop-table l = objects.first_some (λ (t : KeyTable). objects.wrong_length (objects.argument_length l.fields t.keys)) l.tables ≡ objects.first_some
    (λ (t : KeyTable). objects.wrong_length (objects.argument_length l.fields t.keys)) (drop l.table-index l.tables)
