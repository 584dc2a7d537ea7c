use Rattle.std.proofs.Common.{true, subst}
use Rattle.script_lang.specs.declared.script_line.ScriptLine.TheVariants as line
use Rattle.script_runner.specs.Lines.{meaning}
use Rattle.script_runner.specs.Preparing.{IsPrepared}
use Rattle.script_runner.specs.World.{setting}
use Rattle.script_runner.proofs.preparing.prepare_request.Goals as goal

pub returns-in-Enq : goal.returns-in-Enq
returns-in-Enq c =
    rw c.in-Enq.is
    (subst (λ vs. IsPrepared
    (meaning (setting c.args.objects.now c.args.sides.now.items) (line.Enq c.in-Enq.session c.in-Enq.object c.in-Enq.mode c.in-Enq.scope vs)) true
    c.args.sides.now.items c.args.sides.now.items c.enqueue.result)
    c.as_slice-values.ensures c.enqueue.ensures)

pub returns-in-Deq : goal.returns-in-Deq
returns-in-Deq c =
    rw c.in-Deq.is
    (subst (λ vs. IsPrepared
    (meaning (setting c.args.objects.now c.args.sides.now.items) (line.Deq c.in-Deq.session c.in-Deq.object c.in-Deq.mode c.in-Deq.scope vs)) true
    c.args.sides.now.items c.args.sides.now.items c.dequeue.result)
    c.as_slice-values-in-Deq.ensures c.dequeue.ensures)
