use Rattle.row_tree.specs.Keys.{key_at}
use Rattle.row_tree.proofs.Held.{removed_rows, other_stays}
use Rattle.row_tree.proofs.places.remove_row.Goals as goal

pub returns-clause-rows : goal.returns-clause-rows
returns-clause-rows c = removed_rows c.args.places.now.entries c.remove.new.self.entries c.requires c.remove.ensures.ordered c.args.key.now
    (λ q. c.remove.ensures.updates.0 (key_at q))

pub returns-clause-others : goal.returns-clause-others
returns-clause-others c = other_stays c.args.places.now.entries c.remove.new.self.entries c.args.key.now (λ q. c.remove.ensures.updates.0 (key_at q))
