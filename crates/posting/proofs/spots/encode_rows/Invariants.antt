use Rattle.std.proofs.Common.{◌≡◌, take}
use Rattle.ledger_steps.specs.Posts.{row_changes}
use Rattle.posting.proofs.spots.encode_rows.Given as goal

abbrev pub invariant-loop-spot : goal.invariant-loop-spot
invariant-loop-spot l = l.batch.items ≡ row_changes (take l.spot-index l.spots)
