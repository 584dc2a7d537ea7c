use Rattle.std.proofs.Common.{sym, ap, ◌∙◌, subst}
use Rattle.sorted_rows.specs.Tables.{entries_from, HasPlace}
use Rattle.sorted_rows.proofs.Rooms.{entries_push, place_push}
use Rattle.sorted_rows.proofs.tables.open_table.Goals as goal

pub loop-alloc-preserved : goal.loop-alloc-preserved
loop-alloc-preserved c =
    let tables = c.loop-alloc.tables.items in
    record {
      same = ap (entries_from 0) c.in_ok-push.ensures.items ∙ entries_push 0 tables c.new.result c.new.ensures.items ∙ c.loop-alloc.invariant.same;
      room = λ n other place. subst (HasPlace n other) (sym c.in_ok-push.ensures.items)
          (place_push n other tables c.new.result (c.loop-alloc.invariant.room n other place));
    }
