use Rattle.std.proofs.Common.{◌≡◌, take}
use Rattle.std.specs.Prelude.{IsTrue}
use Rattle.lock_entry.specs.Converting.{turns}
use Rattle.lock_entry.specs.Names.{has_distinct_names}
use Rattle.lock_entry.specs.Turning.{turned}
use Rattle.lock_index.specs.Slots.{live}
use Rattle.lock_index.proofs.converts.turn_all.Given as goal

abbrev pub invariant-loop-a : goal.invariant-loop-a
invariant-loop-a l = record {
  turned : live l.shelf ≡ turned (live l.fn.shelf) (turns l.asker (take l.a-index l.asked));
  distinct : IsTrue (has_distinct_names (live l.shelf));
}
