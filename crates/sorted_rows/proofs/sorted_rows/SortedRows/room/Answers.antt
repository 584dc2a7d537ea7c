use Rattle.std.proofs.Common.{length}
use Rattle.sorted_rows.proofs.Rooms.{room_kept}
use Rattle.sorted_rows.proofs.lemmas.Views.{sorted_same}
use Rattle.sorted_rows.proofs.sorted_rows.SortedRows.room.Goals as goal

pub invariant_of-self : goal.invariant_of-self
invariant_of-self c =
    let old = c.self.inside.tables.items in
    let new = c.make_room.new.tables.items in
    let waiting = c.self.inside.waiting.items in (
      sorted_same old new c.make_room.ensures.same c.self.invariant.0,
      room_kept (length waiting) (length waiting) waiting old new
          (c.make_room.ensures.room (length waiting)) c.self.invariant.1,
    )
