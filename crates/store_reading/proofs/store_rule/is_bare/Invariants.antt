use Rattle.std.proofs.Common.{◌≡◌, drop, take}
use Rattle.std.specs.List.{list_all}
use Rattle.store_reading.specs.Stores.{has_none, is_bare}
use Rattle.store_reading.proofs.store_rule.is_bare.Given as goal

abbrev pub invariant-loop-table : goal.invariant-loop-table
invariant-loop-table l = list_all has_none (drop l.table (take 8 l.records)) ≡ is_bare l.records
