use Rattle.std.proofs.Common.{◌≡◌, ℕ, ◌+◌, List, sym, ap, ◌∙◌}
use Rattle.module_effects.specs.Spots.{with_spots}
use Rattle.module_effects.specs.declared.spot.Spot.{Spot}
use Rattle.posting.specs.Mirrors.{business}
use Rattle.posting.proofs.LeftRows.{draw_leaves}
use Rattle.enq_base.specs.declared.unit.Num.{Num as Number}
use Rattle.update_records.specs.Growing.{next_mark}
use Rattle.update_records.specs.declared.records.MarkKind.TheVariants.{Num}
use Rattle.posting.proofs.BatchRows.{draw_is_batch, draw_makes}
use Rattle.posting.proofs.books.Books.prepare_numbers.Goals as goal

pub prepare-requires-clause-batch : goal.prepare-requires-clause-batch
prepare-requires-clause-batch g c = draw_is_batch c.start.result c.mark_behind-mark.result c.args.levels.now c.in_ok-batch.batch.items c.requires.store.distinct
    c.in_ok-batch.ensures.rows

pub prepare-requires-clause-makes : goal.prepare-requires-clause-makes
prepare-requires-clause-makes g c =
    let ledger = c.args.self.now.ledger in
    let key = c.args.unit.now in
    let numbers = c.args.numbers.now in
    let drawn = c.from_vec-drawn.ensures ∙ c.in_ok-from_slice.ensures.items in
    let is : c.mark_behind-mark.result ≡ next_mark ledger key (Num numbers) =
    c.mark_behind-mark.ensures ∙ ap (λ (n : ℕ). record { seq = n + 1; unit = key; kind = Num c.from_vec-drawn.result }) c.marks.ensures
    ∙ ap (λ (ns : List Number). next_mark ledger key (Num ns)) drawn in
    draw_makes (g.K.Keeper.held c.args.self.now.keeper) ledger key numbers c.from_vec.result c.args.levels.now c.from_vec-2.result c.in_ok-batch.batch.items
    c.start.result c.mark_behind-mark.result
    c.requires.marks c.requires.drawing c.requires.store c.in_ok-batch.ensures.key c.in_ok-batch.ensures.fields c.start.ensures is
    (c.from_vec.ensures ∙ c.in_ok-from_slice-2.ensures.items) (c.from_vec-2.ensures ∙ c.in_ok-from_slice-3.ensures.items) c.in_ok-batch.ensures.rows
    c.requires.usable.stands

pub prepare-requires-clause-leaves : goal.prepare-requires-clause-leaves
prepare-requires-clause-leaves g c =
    draw_leaves c.args.self.now.ledger c.args.unit.now c.from_vec.result c.from_vec-2.result
    ∙ sym (ap (λ (ss : List Spot). with_spots ss (business c.args.self.now.ledger)) c.new.ensures.items)
