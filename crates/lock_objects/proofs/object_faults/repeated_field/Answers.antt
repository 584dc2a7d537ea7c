use Rattle.std.proofs.Common.{◌≡◌, Some, true, false, map, take, drop, sym, ◌∙◌}
use Rattle.std.specs.List.{list_any}
use Rattle.std.specs.Str.{bytes_eq}
use Rattle.lock_objects.specs.declared.field.Field.{Field}
use Rattle.lock_objects.specs.Objects.{first_repeat, repeat_after}
use Rattle.lock_objects.proofs.Repeats.{repeat-found, repeat-more}
use Rattle.lock_objects.proofs.object_faults.repeated_field.Goals as goal

pub returns-then-is_field : goal.returns-then-is_field
returns-then-is_field c =
    let xs = c.args.fields.now in
    let x = c.index-fields-i.result in
    let so_far : first_repeat (map (λ (y : Field). y.name) xs) ≡ repeat_after (map (λ (y : Field). y.name) (take c.loop-i.i xs))
    (map (λ (y : Field). y.name) (drop c.loop-i.i xs)) = c.loop-i.invariant in
    let found : list_any (λ (y : Field). bytes_eq x.name y.name) (take c.loop-i.i xs) ≡ true =
    rw (← c.index-fields-i.is) at (sym c.is_field.ensures ∙ c.if-is_field.true) in
    let answer : first_repeat (map (λ (y : Field). y.name) xs) ≡ Some x.name =
    so_far ∙ repeat-found (λ (y : Field). y.name) xs c.loop-i.i x c.loop-i-test.true c.index-fields-i.is found in
    rw (← c.index-fields-i.is) (sym answer)

pub loop-i-preserved : goal.loop-i-preserved
loop-i-preserved c =
    let xs = c.args.fields.now in
    let x = c.index-fields-i.result in
    let so_far : first_repeat (map (λ (y : Field). y.name) xs) ≡ repeat_after (map (λ (y : Field). y.name) (take c.loop-i.i xs))
    (map (λ (y : Field). y.name) (drop c.loop-i.i xs)) = c.loop-i.invariant in
    let none : list_any (λ (y : Field). bytes_eq x.name y.name) (take c.loop-i.i xs) ≡ false =
    rw (← c.index-fields-i.is) at (sym c.is_field.ensures ∙ c.if-is_field.false) in
    so_far ∙ repeat-more (λ (y : Field). y.name) xs c.loop-i.i x c.loop-i-test.true c.index-fields-i.is none
