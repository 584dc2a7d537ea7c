use Rattle.std.proofs.Common.{◌≡◌, List, false, take, IsTrue}
use Rattle.lock_entry.specs.declared.entry.UnitLocks.{UnitLocks}
use Rattle.backup_file.specs.Backup.{IsReady}
use Rattle.backup_file.specs.File.{IsNoOlder}
use Rattle.backup_file.specs.Lists.{AreUnits}
use Rattle.enq_server.specs.Recovery.{AreKnown, left}
use Rattle.enq_server.proofs.Others.{units_of}
use Rattle.enq_server.proofs.recovery.free_others.Given as goal

abbrev pub invariant-loop-handed : goal.invariant-loop-handed
invariant-loop-handed g l = record {
  usable : l.backup.failed ≡ false;
  ready : IsTrue g.D.Disk.tells → (units : List UnitLocks) → AreKnown l.known.keys units → IsReady g.D.Disk.reads g.D.Disk.may_leave l.fn.backup l.lists
      → IsReady g.D.Disk.reads g.D.Disk.may_leave l.backup (left units (units_of (take l.handed-index l.lists)) l.lists);
  worn : IsTrue g.D.Disk.tells → (units : List UnitLocks) → AreKnown l.known.keys units → IsReady g.D.Disk.reads g.D.Disk.may_leave l.fn.backup l.lists
      → IsNoOlder (g.D.Disk.reads l.fn.backup.disk) (g.D.Disk.reads l.backup.disk);
  known : (units : List UnitLocks) → AreKnown l.known.keys units → AreUnits l.fn.backup.units l.lists
      → AreUnits l.backup.units (left units (units_of (take l.handed-index l.lists)) l.lists);
  quiet : g.D.Disk.faults l.backup.disk ≡ g.D.Disk.faults l.fn.backup.disk;
}
