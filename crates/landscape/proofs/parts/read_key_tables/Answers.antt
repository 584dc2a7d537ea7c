use Rattle.std.proofs.Common.{arith, ap, map}
use Rattle.std.proofs.lemmas.List.{drop_all}
use Rattle.std.proofs.lemmas.Result.{err_from_is_err_and}
use Rattle.toml.specs.View.{view}
use Rattle.std.specs.Global.{Vec}
use Rattle.lock_objects.specs.declared.field.KeyTable.{KeyTable}
use Rattle.landscape.specs.Objects.{key_table_of}
use Rattle.landscape.proofs.EachSteps.{each-end, each-halt, each-step}
use Rattle.landscape.proofs.Views.{next}
use Rattle.landscape.proofs.parts.read_key_tables.Goals as goal

pub returns-in_err-read_key_table : goal.returns-in_err-read_key_table
returns-in_err-read_key_table c =
    let q = next c.args.values.now c.loop-value.value-index c.value-item.result (omega arith) c.value-item.is in
    let p = err_from_is_err_and c.from_residual.result c.from_residual.ensures.1 in
    rw (p.1, p.2) (each-halt (λ (t : KeyTable). t) (λ (v : Vec KeyTable). v.items) key_table_of 7 c.loop-value.tables.items _ _ _ _ _ q
    c.in_err-read_key_table.ensures c.loop-value.invariant)

pub loop-value-preserved : goal.loop-value-preserved
loop-value-preserved c =
    let q = next c.args.values.now c.loop-value.value-index c.value-item.result (omega arith) c.value-item.is in
    rw c.in_ok-push.ensures.items (each-step key_table_of c.loop-value.tables.items _ _ _ _ _ q c.in_ok-read_key_table.ensures c.loop-value.invariant)

pub returns : goal.returns
returns c =
    let none = drop_all c.loop-value.value-index c.args.values.now (omega arith) in
    each-end key_table_of c.loop-value.tables.items _ _ (ap (map view) none) c.loop-value.invariant
