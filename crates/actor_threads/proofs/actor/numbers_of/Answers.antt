use Rattle.std.proofs.Common.{◌+◌, List, [], ◌∷◌, ◌++◌, length, arith, sym, ap, ◌∙◌, length-append, append-nil}
use Rattle.enq_base.specs.declared.unit.Num.{Num}
use Rattle.script_actors.specs.declared.drawing.Drawing.{Drawing}
use Rattle.actor_threads.proofs.Told.{none_told, one_told, told_more}
use Rattle.actor_threads.proofs.actor.numbers_of.Goals as goal
use Rattle.actor_threads.proofs.actor.numbers_of.Goals.{in-Some, in_default}

pub loop-note-preserved : goal.loop-note-preserved
loop-note-preserved g c =
    let note = c.note-item.result in
    let was : List Drawing = c.loop-note.room.items in
    let inv = c.loop-note.invariant in
    let notes = c.args.notes.now in
    let object = note.object in
    let nr = note.nr in
    let reply = note.reply.value in
    elim c.match-note.branch [
      | in-Some w ↦
          let num : Num = record { object = object; nr = nr; number = w.in-Some.number } in
          let one : Drawing = record { line = note.line; num = num } in
          let more =
          told_more notes c.loop-note.note-index note c.loop-note-test.true c.note-item.is (num ∷ [])
          (one_told object nr reply w.in-Some.number (sym note.tells ∙ w.in-Some.is)) in
          let pushed = w.push_reserved.ensures.items in
          let long = ap length pushed in
          let capacity = w.push_reserved.ensures.capacity in
          rw w.room-is (record {
            items = pushed ∙ ap (λ l. l ++ one ∷ []) inv.items ∙ sym more;
            few = omega (arith, long, length-append was (one ∷ []), inv.few);
            room = omega (arith, capacity, inv.room);
          })
      | in_default w ↦
          let none =
          told_more notes c.loop-note.note-index note c.loop-note-test.true c.note-item.is [] (none_told object nr reply (sym note.tells ∙ w.in_default.is)) in
          let few = inv.few in
          rw w.room-is (record {
            items = inv.items ∙ sym (none ∙ append-nil _);
            few = omega (arith, few);
            room = inv.room;
          })
    ]
