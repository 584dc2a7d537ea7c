use Rattle.std.proofs.Common.{◌++◌, ◌∷◌, [], length, take, sym, ap, ◌∙◌, subst}
use Rattle.std.proofs.lemmas.List.{take_more}
use Rattle.sorted_rows.specs.Tables.{HasPlace, HasRoom}
use Rattle.sorted_rows.proofs.Rooms.{room_kept, room_more}
use Rattle.sorted_rows.proofs.tables.make_room.Goals as goal

pub loop-change-preserved : goal.loop-change-preserved
loop-change-preserved c =
    let batch = c.args.batch.now in
    let i = c.loop-change.change-index in
    let n = length batch in
    let before = c.loop-change.invariant in
    let old = c.loop-change.tables.items in
    let new = c.make_place.new.tables.items in
    let change = c.change-item.result in
    record {
      taken = subst (λ cs. HasRoom n cs new) (ap (λ x. take i batch ++ x ∷ []) c.change-item.is ∙ sym (take_more batch i change c.loop-change-test.true))
          (room_more n (take i batch) change new (room_kept n n (take i batch) old new (c.make_place.ensures.room n) before.taken)
          (subst (λ t. HasPlace n t new) c.table_of.ensures c.in_ok-make_place.ensures.place));
      same = c.make_place.ensures.same ∙ before.same;
      room = λ m other place. c.make_place.ensures.room m other (before.room m other place);
    }
