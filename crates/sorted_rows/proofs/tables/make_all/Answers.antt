use Rattle.sorted_rows.proofs.Rooms.{room_first, room_after}
use Rattle.sorted_rows.proofs.lemmas.Views.{made_more}
use Rattle.sorted_rows.proofs.tables.make_all.Goals as goal

pub make_change-requires-clause-room : goal.make_change-requires-clause-room
make_change-requires-clause-room c = room_first c.loop-change.waiting.items c.in-Some.change c.pop_front.new.self.items c.loop-change.tables.items
    c.in-Some.ensures.items c.loop-change.invariant.room

pub loop-change-preserved : goal.loop-change-preserved
loop-change-preserved c = record {
  sorted = c.make_change.ensures.sorted;
  room = room_after c.loop-change.waiting.items c.in-Some.change c.pop_front.new.self.items c.loop-change.tables.items c.make_change.new.tables.items
      c.in-Some.ensures.items c.loop-change.invariant.room c.make_change.ensures.room;
  made = made_more c.loop-change.waiting.items c.in-Some.change c.pop_front.new.self.items c.loop-change.tables.items c.make_change.new.tables.items _
      c.in-Some.ensures.items c.make_change.ensures.made c.loop-change.invariant.made;
}
