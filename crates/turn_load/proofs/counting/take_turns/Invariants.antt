use Rattle.std.proofs.Common.{◌≡◌, ◌≤◌}
use Rattle.turn_lock.specs.Passes.{known, IsPassOf}
use Rattle.turn_load.specs.Counting.{AddedEntries}
use Rattle.turn_load.proofs.counting.take_turns.Given as goal

abbrev pub invariant-loop : goal.invariant-loop
invariant-loop g l = record {
  own : IsPassOf l.lock l.pass;
  parts : (known l.pass).parts ≡ (known l.fn.pass).parts;
  added : AddedEntries l.fn.pass l.pass l.counted;
  few : l.counted ≤ l.counter;
}
