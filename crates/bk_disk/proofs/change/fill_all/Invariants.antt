use Rattle.std.proofs.Common.{◌≡◌, drop}
use Rattle.bk_disk.specs.Images.{all_filled}
use Rattle.bk_disk.proofs.change.fill_all.Given as goal

abbrev pub invariant-loop-change : goal.invariant-loop-change
invariant-loop-change l = all_filled l.byte l.bytes.items (drop l.change-index l.changes) ≡ all_filled l.byte l.base l.changes
