use Rattle.std.proofs.Common.{◌≡◌, take, vec_capacity}
use Rattle.thread_runner.specs.Stocking.{drawn_in_deeds}
use Rattle.thread_runner.proofs.joining.collect.Given as goal

abbrev pub invariant-loop-deed : goal.invariant-loop-deed
invariant-loop-deed l = record {
  items : l.room.items ≡ drawn_in_deeds (take l.deed-index l.deeds);
  capacity : vec_capacity l.room ≡ vec_capacity l.fn.room;
}
