use Rattle.std.proofs.Common.{true, subst}
use Rattle.script_lang.specs.declared.script_line.ScriptLine.TheVariants as line
use Rattle.script_runner.specs.Lines.{meaning}
use Rattle.script_runner.specs.Preparing.{IsPrepared}
use Rattle.script_runner.specs.World.{setting}
use Rattle.script_runner.proofs.preparing.prepare_other_locks.Goals as goal

pub returns-in-Collect : goal.returns-in-Collect
returns-in-Collect c =
    rw c.in-Collect.is
    (subst (λ vs. IsPrepared
    (meaning (setting c.args.objects.now c.args.sides.now.items)
    (line.Collect c.in-Collect.session c.in-Collect.object c.in-Collect.mode c.in-Collect.scope vs)) true c.args.sides.now.items c.collect.new.sides.items
    c.collect.result)
    c.as_slice-values.ensures c.collect.ensures)

pub returns-in-Convert : goal.returns-in-Convert
returns-in-Convert c =
    rw c.in-Convert.is
    (subst (λ vs. IsPrepared (meaning (setting c.args.objects.now c.args.sides.now.items) (line.Convert c.in-Convert.session c.in-Convert.object vs)) true
    c.args.sides.now.items c.args.sides.now.items c.convert.result)
    c.as_slice.ensures c.convert.ensures)
