use Rattle.std.proofs.Common.{ℕ, List, true, subst}
use Rattle.script_lang.specs.declared.script_line.ScriptLine.TheVariants as line
use Rattle.script_runner.specs.Lines.{meaning}
use Rattle.script_runner.specs.Preparing.{IsPrepared}
use Rattle.script_runner.specs.World.{setting}
use Rattle.script_runner.proofs.preparing.prepare_text.Goals as goal

pub returns-in-Put : goal.returns-in-Put
returns-in-Put c = λ objects.
    let w = setting objects c.args.sides.now.items in
    let of : List ℕ → List ℕ → Type 0 = λ key text. IsPrepared (meaning w (line.Put c.in-Put.session c.in-Put.part c.in-Put.table key text)) true
    c.args.sides.now.items c.effect.new.sides.items c.effect.result in
    rw c.in-Put.is
    (subst (λ key. of key c.in-Put.text) c.as_slice-key.ensures (subst (of c.as_slice-key.result.now) c.as_slice-text.ensures (c.effect.ensures objects)))

pub returns-in-Ins : goal.returns-in-Ins
returns-in-Ins c = λ objects.
    let w = setting objects c.args.sides.now.items in
    let of : List ℕ → List ℕ → Type 0 = λ key text. IsPrepared (meaning w (line.Ins c.in-Ins.session c.in-Ins.part c.in-Ins.table key text)) true
    c.args.sides.now.items c.effect-in-Ins.new.sides.items c.effect-in-Ins.result in
    rw c.in-Ins.is
    (subst (λ key. of key c.in-Ins.text) c.as_slice-key-in-Ins.ensures
    (subst (of c.as_slice-key-in-Ins.result.now) c.as_slice-text-in-Ins.ensures (c.effect-in-Ins.ensures objects)))
