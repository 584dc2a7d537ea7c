use Rattle.std.proofs.Common.{◌≡◌, ℕ, ◌+◌, List, IfSome, sym, ap, subst, ◌∙◌}
use Rattle.keeper_api.specs.Batch.{changed}
use Rattle.module_effects.specs.Spots.{with_spots}
use Rattle.module_effects.specs.declared.spot.Spot.{Spot}
use Rattle.update_records.specs.Growing.{with_mark}
use Rattle.update_records.specs.Ledger.{StandFor}
use Rattle.update_records.specs.Spelling.{HasFields}
use Rattle.update_records.specs.declared.records.Mark.{Mark}
use Rattle.ledger_steps.specs.Posts.{note_changes}
use Rattle.posting.specs.Mirrors.{business}
use Rattle.posting.proofs.BatchRows.{note_is_batch, note_makes}
use Rattle.posting.proofs.LeftRows.{note_leaves}
use Rattle.posting.proofs.books.Books.prepare_note.Goals as goal

pub prepare-requires-clause-batch : goal.prepare-requires-clause-batch
prepare-requires-clause-batch g c =
    let made = c.in_ok-batch.ensures.rows ∙ ap (λ (ss : List Spot). note_changes c.start.result ss c.mark_behind-mark.result) c.as_slice.ensures.value in
    note_is_batch c.start.result c.args.spots.items c.mark_behind-mark.result c.in_ok-batch.batch.items c.requires.distinct made

pub prepare-requires-clause-makes : goal.prepare-requires-clause-makes
prepare-requires-clause-makes g c =
    let ledger = c.args.self.now.ledger in
    let held = g.K.Keeper.held c.args.self.now.keeper in
    let unit = c.args.unit.now in
    let kind = c.args.kind in
    let batch = c.in_ok-batch.batch.items in
    let is = c.mark_behind-mark.ensures ∙ ap (λ (n : ℕ). record { seq = n + 1; unit = unit; kind = kind }) c.marks.ensures in
    let made = c.in_ok-batch.ensures.rows ∙ ap (λ (ss : List Spot). note_changes c.start.result ss c.mark_behind-mark.result) c.as_slice.ensures.value in
    subst (λ (m : Mark). IfSome held (λ rows. StandFor (changed batch rows) (with_mark ledger m.unit m.kind))) (sym is)
    (note_makes held ledger unit kind c.args.spots.items batch c.start.result c.mark_behind-mark.result c.requires.marks c.requires.follows
    (subst (λ (m : Mark). HasFields m.kind) is c.in_ok-batch.ensures.fields) c.requires.distinct
    c.start.ensures is made c.requires.note c.requires.usable.stands)

pub prepare-requires-clause-leaves : goal.prepare-requires-clause-leaves
prepare-requires-clause-leaves g c =
    let ledger = c.args.self.now.ledger in
    let spots = c.args.spots.items in
    let is = c.mark_behind-mark.ensures ∙ ap (λ (n : ℕ). record { seq = n + 1; unit = c.args.unit.now; kind = c.args.kind }) c.marks.ensures in
    subst (λ (m : Mark). business (with_mark ledger m.unit m.kind) ≡ with_spots spots (business ledger)) (sym is)
    (note_leaves ledger c.args.unit.now c.args.kind spots c.requires.note)
