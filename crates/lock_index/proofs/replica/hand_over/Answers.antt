use Rattle.std.proofs.Common.{◌∙◌, ap}
use Rattle.lock_entry.specs.Names.{has_distinct_names}
use Rattle.lock_index.specs.Slots.{live}
use Rattle.lock_index.proofs.Shipped.{distinct-handed}
use Rattle.lock_index.proofs.replica.hand_over.Goals as goal

pub returns-clause-distinct : goal.returns-clause-distinct
returns-clause-distinct c = ap has_distinct_names c.hand.ensures.after ∙ distinct-handed (live c.args.shelf.now) c.args.unit.now c.requires
