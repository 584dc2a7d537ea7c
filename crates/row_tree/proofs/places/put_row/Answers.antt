use Rattle.row_tree.specs.Keys.{key_at}
use Rattle.row_tree.proofs.Held.{put_rows}
use Rattle.row_tree.proofs.places.put_row.Goals as goal

pub returns-clause-rows : goal.returns-clause-rows
returns-clause-rows c =
    put_rows c.args.places.now.entries c.insert.new.self.entries c.requires.order c.insert.ensures.ordered c.args.key c.args.value
    (λ q. c.in-Ok.ensures.updates.0 (key_at q))
