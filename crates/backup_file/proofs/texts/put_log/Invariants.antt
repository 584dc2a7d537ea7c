use Rattle.std.proofs.Common.{◌≡◌, ◌++◌, take}
use Rattle.backup_file.specs.File.{compact}
use Rattle.backup_file.proofs.texts.put_log.Given as goal

abbrev pub invariant-loop-handed : goal.invariant-loop-handed
invariant-loop-handed l = l.out.items ≡ l.initial.out.items ++ compact (take l.handed-index l.lists)
