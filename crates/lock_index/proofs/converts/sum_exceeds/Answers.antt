use Rattle.std.proofs.Common.{◌∙◌}
use Rattle.lock_index.specs.Slots.{live}
use Rattle.lock_index.proofs.Conversions.{exceeds-is}
use Rattle.lock_index.proofs.converts.sum_exceeds.Goals as goal

pub returns : goal.returns
returns c = c.one_exceeds.ensures ∙ exceeds-is (live c.args.shelf.now) c.args.asker.now c.requires c.args.asked.now
