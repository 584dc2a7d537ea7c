use Rattle.std.proofs.Common.{arith, rules, refl, ap, map}
use Rattle.std.proofs.lemmas.List.{drop_all}
use Rattle.toml.specs.View.{view}
use Rattle.landscape.specs.Objects.{field_of}
use Rattle.landscape.proofs.EachSteps.{each-end, each-step, each-stop}
use Rattle.landscape.proofs.Views.{next}
use Rattle.landscape.proofs.parts.read_fields.Goals as goal

pub returns-in-None : goal.returns-in-None
returns-in-None c =
    let q = next c.args.values.now c.loop-value.value-index c.value-item.result (omega arith) c.value-item.is in
    (refl, each-stop field_of c.loop-value.fields.items _ _ _ _ q (search rules) c.loop-value.invariant)

pub loop-value-preserved : goal.loop-value-preserved
loop-value-preserved c =
    let q = next c.args.values.now c.loop-value.value-index c.value-item.result (omega arith) c.value-item.is in
    rw c.in_ok-push-in-Some.ensures.items (each-step field_of c.loop-value.fields.items c.in-Some.field _ _ _ _ q (search rules) c.loop-value.invariant)

pub returns : goal.returns
returns c =
    let none = drop_all c.loop-value.value-index c.args.values.now (omega arith) in
    each-end field_of c.loop-value.fields.items _ _ (ap (map view) none) c.loop-value.invariant
