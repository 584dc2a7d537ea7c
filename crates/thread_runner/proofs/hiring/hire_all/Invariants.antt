use Rattle.std.proofs.Common.{◌≡◌, ◌+◌, ◌≤◌, List, [], ◌++◌, length, map, vec_capacity}
use Rattle.std.specs.List.{AllByRecursion}
use Rattle.gauges.specs.Boards.{IsReaderOf}
use Rattle.hall_model.specs.declared.command.Who.{Who}
use Rattle.turn_lock.specs.Passes.{known, IsPassOf}
use Rattle.thread_runner.specs.Hiring.{AreHired}
use Rattle.thread_runner.specs.Kits.{IsKitFor}
use Rattle.thread_runner.proofs.hiring.hire_all.Given as goal

abbrev pub invariant-loop-kit : goal.invariant-loop-kit
invariant-loop-kit g l = record {
  own : IsPassOf l.lock l.pass;
  looks : IsReaderOf l.gauges l.glance;
  parts : (known l.pass).parts ≡ length l.kits.items + 1;
  fresh : (known l.pass).own ≡ [];
  hired : (done : List Who) × (map (λ k. k.who) l.fn.kits.items ≡ done ++ map (λ k. k.who) l.kits.items)
      × AreHired g.S.Serving.stocks g.N.LockName.intervals l.lines done l.actors.items;
  kits : AllByRecursion (IsKitFor g.N.LockName.intervals g.S.Serving.stocks l.lines) l.kits.items;
  room : length l.actors.items + length l.kits.items ≤ vec_capacity l.actors;
}

abbrev pub decreases-loop-kit : goal.decreases-loop-kit
decreases-loop-kit g l = length l.kits.items
