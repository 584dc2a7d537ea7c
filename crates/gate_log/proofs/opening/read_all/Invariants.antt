use Rattle.std.proofs.Common.{◌≡◌, ◌-◌, length, take}
use Rattle.std.specs.Prelude.{IsTrue}
use Rattle.bk_disk.specs.Disk.{AddsNone}
use Rattle.gate_log.proofs.opening.read_all.Given as goal

abbrev pub invariant-loop-piece : goal.invariant-loop-piece
invariant-loop-piece g l = record {
  read : IsTrue g.D.Disk.tells → l.bytes.items ≡ take (length l.bytes.items) (g.D.Disk.reads l.initial.disk);
  same : IsTrue g.D.Disk.tells → g.D.Disk.reads l.disk ≡ g.D.Disk.reads l.initial.disk;
  left : IsTrue g.D.Disk.tells → AddsNone (g.D.Disk.may_leave l.initial.disk) (g.D.Disk.may_leave l.disk);
  quiet : g.D.Disk.faults l.disk ≡ g.D.Disk.faults l.initial.disk;
}

abbrev pub decreases-loop-piece : goal.decreases-loop-piece
decreases-loop-piece g l = l.length - length l.bytes.items
