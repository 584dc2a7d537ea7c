use Rattle.std.proofs.Common.{◌≡◌, List, map, take}
use Rattle.std.specs.List.{AllByRecursion}
use Rattle.ledger_steps.specs.Levels.{AreApart}
use Rattle.number_ranges.specs.declared.interval.Interval.{Interval}
use Rattle.turn_desks.specs.Stocks.{AreOfLand, AreRightsAt, answered_of, fact_of, limits_of}
use Rattle.thread_runner.specs.Kits.{IsKitFor}
use Rattle.thread_runner.specs.Stocking.{Cover}
use Rattle.thread_runner.proofs.equipping.equip_all.Given as goal

abbrev pub invariant-loop-who : goal.invariant-loop-who
invariant-loop-who g l = record {
  rights : AreRightsAt (map fact_of l.stocks) l.rights.items;
  limits : limits_of l.rights.items ≡ limits_of l.fn.rights.items;
  handed : answered_of l.rights.items ≡ answered_of l.fn.rights.items;
  who : map (λ k. k.who) l.kits.items ≡ take l.who-index l.callers;
  kits : (intervals : List Interval) → AreApart intervals → AreOfLand intervals (map fact_of l.stocks)
      → Cover intervals (map fact_of l.stocks) l.lines → AllByRecursion (IsKitFor intervals (map fact_of l.stocks) l.lines) l.kits.items;
}
