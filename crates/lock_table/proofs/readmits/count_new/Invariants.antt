use Rattle.std.proofs.Common.{◌≡◌, ◌≤◌, map, take, drop, length}
use Rattle.lock_entry.specs.Names.{asked_of}
use Rattle.lock_entry.specs.Granting.{first_bar, newcomers}
use Rattle.lock_table.proofs.readmits.count_new.Given as goal

abbrev pub invariant-loop-e : goal.invariant-loop-e
invariant-loop-e l = record {
  bars : first_bar l.entries l.asker (map asked_of l.given) ≡ first_bar l.entries l.asker (map asked_of (drop l.e-index l.given));
  counted : l.added ≡ length (newcomers l.entries (take l.e-index l.given));
  few : l.added ≤ l.e-index;
}
