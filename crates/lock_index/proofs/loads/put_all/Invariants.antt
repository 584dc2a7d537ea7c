use Rattle.std.proofs.Common.{◌≡◌, map, take, drop, Some}
use Rattle.lock_entry.specs.declared.entry.Entry.{Entry}
use Rattle.lock_entry.specs.Sound.{first_clash, clash_after}
use Rattle.lock_index.proofs.loads.put_all.Given as goal

abbrev pub invariant-loop-i : goal.invariant-loop-i
invariant-loop-i l = record {
  shelved : l.shelf ≡ map (λ (e : Entry). Some e) (take l.i l.entries);
  clash : first_clash l.entries ≡ clash_after (take l.i l.entries) (drop l.i l.entries);
}
