use Rattle.std.proofs.Common.{◌≡◌, Some, true, false, map, take, drop, sym, ◌∙◌}
use Rattle.std.specs.List.{list_any}
use Rattle.std.specs.Str.{bytes_eq}
use Rattle.lock_objects.specs.declared.field.KeyTable.{KeyTable}
use Rattle.lock_objects.specs.Objects.{first_repeat, repeat_after}
use Rattle.lock_objects.proofs.Repeats.{repeat-found, repeat-more}
use Rattle.lock_objects.proofs.object_faults.repeated_table.Goals as goal

pub returns-then-is_table : goal.returns-then-is_table
returns-then-is_table c =
    let xs = c.args.tables.now in
    let x = c.index-tables-i.result in
    let so_far : first_repeat (map (λ (y : KeyTable). y.name) xs) ≡ repeat_after (map (λ (y : KeyTable). y.name) (take c.loop-i.i xs))
    (map (λ (y : KeyTable). y.name) (drop c.loop-i.i xs)) = c.loop-i.invariant in
    let found : list_any (λ (y : KeyTable). bytes_eq x.name y.name) (take c.loop-i.i xs) ≡ true =
    rw (← c.index-tables-i.is) at (sym c.is_table.ensures ∙ c.if-is_table.true) in
    let answer : first_repeat (map (λ (y : KeyTable). y.name) xs) ≡ Some x.name =
    so_far ∙ repeat-found (λ (y : KeyTable). y.name) xs c.loop-i.i x c.loop-i-test.true c.index-tables-i.is found in
    rw (← c.index-tables-i.is) (sym answer)

pub loop-i-preserved : goal.loop-i-preserved
loop-i-preserved c =
    let xs = c.args.tables.now in
    let x = c.index-tables-i.result in
    let so_far : first_repeat (map (λ (y : KeyTable). y.name) xs) ≡ repeat_after (map (λ (y : KeyTable). y.name) (take c.loop-i.i xs))
    (map (λ (y : KeyTable). y.name) (drop c.loop-i.i xs)) = c.loop-i.invariant in
    let none : list_any (λ (y : KeyTable). bytes_eq x.name y.name) (take c.loop-i.i xs) ≡ false =
    rw (← c.index-tables-i.is) at (sym c.is_table.ensures ∙ c.if-is_table.false) in
    so_far ∙ repeat-more (λ (y : KeyTable). y.name) xs c.loop-i.i x c.loop-i-test.true c.index-tables-i.is none
