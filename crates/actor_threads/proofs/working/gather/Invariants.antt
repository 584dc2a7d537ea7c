use Rattle.std.proofs.Common.{◌≡◌, ◌+◌, ◌≤◌, ◌++◌, length, map, vec_capacity}
use Rattle.std.specs.List.{AllByRecursion}
use Rattle.std.specs.List.Sorted.{IsPermutation}
use Rattle.turn_lock.specs.Passes.{known, IsPassOf}
use Rattle.turn_lock.specs.Rule.{own_entries}
use Rattle.actor_threads.specs.Working.{AllSeats, AreDeeds, entries_in}
use Rattle.actor_threads.specs.declared.actor.Deed.{Deed}
use Rattle.turn_desks.specs.Watching.{IsReaderAt}
use Rattle.actor_threads.proofs.Gathered.{AllSeen}
use Rattle.actor_threads.proofs.working.gather.Given as goal

abbrev pub invariant-loop-actor : goal.invariant-loop-actor
invariant-loop-actor g l = record {
  own : IsPassOf l.lock l.pass;
  parts : (known l.pass).parts + length l.actors.items ≡ (known l.fn.pass).parts + length l.fn.actors.items;
  entries : IsPermutation (own_entries (known l.fn.pass) ++ entries_in l.fn.actors.items) (own_entries (known l.pass) ++ entries_in l.actors.items);
  joined : (done : _) × (l.fn.actors.items ≡ l.actors.items ++ done) × AllSeen (known l.pass).seen done × AreDeeds done l.left.deeds.items;
  room : length l.left.deeds.items + length l.actors.items ≤ vec_capacity l.left.deeds;
  glances : map (λ (d : Deed). d.glanced.value) l.left.deeds.items ≡ l.left.glances.items;
  readers : AllByRecursion (IsReaderAt g.N.LockName.board) l.left.glances.items;
  place : length l.left.glances.items + length l.actors.items ≤ vec_capacity l.left.glances;
  seats : AllSeats g.S.Serving.stocks l.left.deeds.items (map (λ v. v.items) l.left.seats.items);
  space : length l.left.seats.items + length l.actors.items ≤ vec_capacity l.left.seats;
}

abbrev pub decreases-loop-actor : goal.decreases-loop-actor
decreases-loop-actor g l = length l.actors.items
