use Rattle.std.proofs.Common.{List, sym, ap, ◌∙◌}
use Rattle.module_effects.specs.Spots.{with_spots}
use Rattle.module_effects.specs.declared.spot.Spot.{Spot}
use Rattle.posting.specs.Mirrors.{business}
use Rattle.posting.proofs.LeftRows.{unit_leaves}
use Rattle.posting.proofs.BatchRows.{unit_is_batch, unit_makes}
use Rattle.posting.proofs.books.Books.prepare_unit.Goals as goal

pub prepare-requires-clause-batch : goal.prepare-requires-clause-batch
prepare-requires-clause-batch g c = unit_is_batch c.args.self.now.ledger c.args.unit c.args.levels.now c.in-Ok.batch.items _ _ c.requires.unit
    c.requires.store.distinct c.in-Ok.ensures.rows

pub prepare-requires-clause-makes : goal.prepare-requires-clause-makes
prepare-requires-clause-makes g c =
    unit_makes (g.K.Keeper.held c.args.self.now.keeper) c.args.self.now.ledger c.args.unit c.args.levels.now c.from_vec-levels.result c.in-Ok.batch.items
    _ _
    c.requires.marks c.requires.unit c.requires.store c.in-Ok.ensures.spelt
    c.start.ensures c.marks.ensures (c.from_vec-levels.ensures ∙ c.in-Ok-from_slice.ensures.items) c.in-Ok.ensures.rows c.requires.usable.stands

pub prepare-requires-clause-leaves : goal.prepare-requires-clause-leaves
prepare-requires-clause-leaves g c =
    unit_leaves c.args.self.now.ledger c.args.unit c.from_vec-levels.result c.requires.unit
    ∙ sym (ap (λ (ss : List Spot). with_spots ss (business c.args.self.now.ledger)) c.new.ensures.items)
