use Rattle.std.proofs.Common.{◌≡◌, ◌+◌, ◌++◌, length, take, vec_capacity}
use Rattle.thread_runner.proofs.joining.copy_all.Given as goal

abbrev pub invariant-loop-drawing : goal.invariant-loop-drawing
invariant-loop-drawing l = record {
  items : l.room.items ≡ l.fn.room.items ++ take l.drawing-index l.drawn;
  long : length l.room.items ≡ length l.fn.room.items + l.drawing-index;
  capacity : vec_capacity l.room ≡ vec_capacity l.fn.room;
}
