use Rattle.std.proofs.Common.{◌+◌, ◌++◌, ◌∷◌, [], List, take, ap, sym, ◌∙◌, append_assoc, length, length-append, arith}
use Rattle.std.proofs.lemmas.List.{take_more}
use Rattle.script_actors.specs.declared.drawing.Drawing.{Drawing}
use Rattle.thread_runner.proofs.joining.copy_all.Goals as goal

pub loop-drawing-preserved : goal.loop-drawing-preserved
loop-drawing-preserved c =
    let inv = c.loop-drawing.invariant in
    let all : List Drawing = c.args.drawn.now in
    let had : List Drawing = c.args.room.now.items in
    let i = c.loop-drawing.drawing-index in
    let x : Drawing = c.drawing-item.result in
    let push = c.push_reserved.ensures in
    let was : List Drawing = c.loop-drawing.room.items in
    let more = ap length push.items in
    let one = length-append was (x ∷ []) in
    let long = inv.long in
    record {
      items = push.items ∙ ap (λ l. l ++ x ∷ []) inv.items ∙ append_assoc had (take i all) (x ∷ [])
          ∙ ap (λ l. had ++ l) (ap (λ y. take i all ++ y ∷ []) c.drawing-item.is ∙ sym (take_more all i x c.loop-drawing-test.true));
      long = omega (arith, more, one, long);
      capacity = push.capacity ∙ inv.capacity;
    }
