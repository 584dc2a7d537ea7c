use Rattle.std.proofs.Common.{sym}
use Rattle.lock_index.proofs.Changed.{set-empty}
use Rattle.lock_index.proofs.changes.clear_at.Goals as goal

pub returns-in-None : goal.returns-in-None
returns-in-None c = set-empty c.args.shelf.now c.args.place (sym c.in-None.ensures)
