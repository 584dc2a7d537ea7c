use Rattle.std.proofs.Common.{◌≡◌, None, sym, ◌∙◌}
use Rattle.lock_objects.specs.Arguments.{values_fault}
use Rattle.lock_objects.proofs.Patterns.{arguments-are_patterns}
use Rattle.lock_objects.proofs.object.LockObject.arguments.Goals as goal

pub asked_in_all-requires : goal.asked_in_all-requires
asked_in_all-requires c =
    let none : values_fault c.self.inside.fields.items c.args.values.now ≡ None =
    rw c.as_slice-fields.ensures.value at (sym c.values_fault.ensures ∙ c.in-None.is) in
    rw (c.as_slice-fields.ensures.value, c.as_slice-tables.ensures.value)
    (arguments-are_patterns c.self.inside.fields.items c.self.inside.tables.items c.args.values.now c.self.invariant none)
