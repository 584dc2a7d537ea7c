use Rattle.std.proofs.Common.{length}
use Rattle.backup_file.specs.Lists.{AreUnits, lists_behind}
use Rattle.backup_file.specs.ReadLogs.{IsReadSoFar}
use Rattle.backup_file.proofs.log_records.read_on.Given as goal

abbrev pub invariant-loop-behind : goal.invariant-loop-behind
invariant-loop-behind l = record {
  read : IsReadSoFar l.most l.bytes l.rest l.so_far.records.items;
  units : AreUnits l.so_far.units.keys (lists_behind l.so_far.records.items);
}

abbrev pub decreases-loop-behind : goal.decreases-loop-behind
decreases-loop-behind l = length l.rest
