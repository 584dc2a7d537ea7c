use Rattle.std.proofs.Common.{ℕ, List, true, subst}
use Rattle.script_lang.specs.declared.script_line.ScriptLine.TheVariants as line
use Rattle.script_runner.specs.Lines.{meaning}
use Rattle.script_runner.specs.Preparing.{IsPrepared}
use Rattle.script_runner.specs.World.{setting}
use Rattle.script_runner.proofs.preparing.prepare_other_effect.Goals as goal

pub returns-in-Del : goal.returns-in-Del
returns-in-Del c = λ objects.
    let w = setting objects c.args.sides.now.items in
    rw c.in-Del.is
    (subst (λ key. IsPrepared (meaning w (line.Del c.in-Del.session c.in-Del.part c.in-Del.table key)) true c.args.sides.now.items c.effect.new.sides.items
    c.effect.result)
    c.as_slice-key.ensures (c.effect.ensures objects))

pub returns-in-Add : goal.returns-in-Add
returns-in-Add c = λ objects.
    let w = setting objects c.args.sides.now.items in
    let of : List ℕ → List ℕ → Type 0 = λ key text. IsPrepared (meaning w (line.Add c.in-Add.session c.in-Add.part c.in-Add.table key text)) true
    c.args.sides.now.items c.effect-in-Add.new.sides.items c.effect-in-Add.result in
    rw c.in-Add.is
    (subst (λ key. of key c.in-Add.number) c.as_slice-key-in-Add.ensures
    (subst (of c.as_slice-key-in-Add.result.now) c.as_slice-text.ensures (c.effect-in-Add.ensures objects)))
