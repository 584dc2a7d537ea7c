use Rattle.std.proofs.Common.{length}
use Rattle.backup_file.proofs.ReadBack.{IsReadBack}
use Rattle.backup_file.proofs.lists.lists_of.Given as goal

abbrev pub invariant-loop-step : goal.invariant-loop-step
invariant-loop-step l = IsReadBack l.fn.records.items l.records.items l.seen.keys l.lists.items

abbrev pub decreases-loop-step : goal.decreases-loop-step
decreases-loop-step l = length l.records.items
