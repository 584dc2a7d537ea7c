use Rattle.std.proofs.Common.{◌≡◌, filter_map, take}
use Rattle.remote_sending.specs.Outbox.{system_call}
use Rattle.remote_sending.proofs.collecting.calls_of.Given as goal

abbrev pub invariant-loop-row : goal.invariant-loop-row
invariant-loop-row l = l.calls.items ≡ filter_map system_call (take l.row-index l.rows)
