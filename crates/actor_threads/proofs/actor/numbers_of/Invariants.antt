use Rattle.std.proofs.Common.{◌≡◌, ◌≤◌, length, map, take, vec_capacity}
use Rattle.actor_threads.specs.Working.{drawn_told}
use Rattle.turn_desks.specs.Weaving.{noted}
use Rattle.actor_threads.proofs.actor.numbers_of.Given as goal

abbrev pub invariant-loop-note : goal.invariant-loop-note
invariant-loop-note g l = record {
  items : l.room.items ≡ drawn_told (map noted (take l.note-index l.notes));
  few : length l.room.items ≤ l.note-index;
  room : length l.notes ≤ vec_capacity l.room;
}
