use Rattle.std.proofs.Common.{◌∷◌, [], List, sym, ap}
use Rattle.module_effects.specs.Spots.{with_spots}
use Rattle.module_effects.specs.declared.spot.Spot.{Spot}
use Rattle.posting.specs.Mirrors.{business}
use Rattle.posting.proofs.BatchRows.{level_is_batch, level_makes}
use Rattle.posting.proofs.books.Books.prepare_level.Goals as goal

pub prepare-requires-clause-batch : goal.prepare-requires-clause-batch
prepare-requires-clause-batch g c = level_is_batch (c.args.interval.now ∷ []) c.in_ok-batch.batch.items c.requires.store.distinct c.in_ok-batch.ensures

pub prepare-requires-clause-makes : goal.prepare-requires-clause-makes
prepare-requires-clause-makes g c =
    level_makes (g.K.Keeper.held c.args.self.now.keeper) c.args.self.now.ledger c.args.interval.now c.in_ok-batch.batch.items c.requires.started
    c.requires.store c.in_ok-batch.ensures c.requires.usable.stands

pub prepare-requires-clause-leaves : goal.prepare-requires-clause-leaves
prepare-requires-clause-leaves g c = sym (ap (λ (ss : List Spot). with_spots ss (business c.args.self.now.ledger)) c.new.ensures.items)
