use Rattle.std.proofs.Common.{◌+◌, ◌^◌, ◌<◌, ◌∷◌, [], List, true, sym, ap, ◌∙◌, arith}
use Rattle.module_effects.specs.Spots.{with_spots}
use Rattle.module_effects.specs.declared.spot.Spot.{Spot}
use Rattle.posting.specs.Mirrors.{business}
use Rattle.update_records.specs.Growing.{with_start}
use Rattle.update_records.specs.RecordRows.{meta_row}
use Rattle.ledger_steps.specs.Starts.{raised}
use Rattle.ledger_steps.specs.Steps.{after_step}
use Rattle.posting.proofs.LaterStart.{start_makes}
use Rattle.posting.proofs.UsableBooks.{one_batch, raised_from}
use Rattle.posting.proofs.books.Books.raise.Goals as goal

pub prepare-requires-clause-batch : goal.prepare-requires-clause-batch
prepare-requires-clause-batch g c = one_batch (c.start-start.result + 1) c.marks.result c.in-Ok.batch.items c.in-Ok.ensures

pub prepare-requires-clause-makes : goal.prepare-requires-clause-makes
prepare-requires-clause-makes g c =
    let small : c.start-start.result + 1 < 2 ^ 32 = omega (arith, c.if-start.false) in
    start_makes (g.K.Keeper.held c.args.self.now.keeper) c.in-Ok.batch.items c.args.self.now.ledger (c.start-start.result + 1)
    (ap (λ n. n + 1) c.start-start.ensures) small
    (c.in-Ok.ensures ∙ ap (λ n. meta_row (c.start-start.result + 1) n ∷ []) c.marks.ensures) c.requires.usable.stands

pub prepare-requires-clause-leaves : goal.prepare-requires-clause-leaves
prepare-requires-clause-leaves g c = sym (ap (λ (ss : List Spot). with_spots ss (business c.args.self.now.ledger)) c.new.ensures.items)

pub returns-in-Ok-write-clause-left : goal.returns-in-Ok-write-clause-left
returns-in-Ok-write-clause-left g c =
    raised_from _ _ (g.K.Keeper.may_leave c.args.self.now.keeper) (g.K.Keeper.may_leave c.write.new.self.keeper) _
    (raised true c.args.self.now.ledger) c.in-Ok-prepare.ensures.unmoved.rows
    (ap (after_step c.prepare.new.self.ledger) c.in-Ok-prepare.ensures.step ∙ ap (λ n. with_start c.prepare.new.self.ledger (n + 1)) c.start-start.ensures
    ∙ ap (λ l. with_start l (c.args.self.now.ledger.start + 1)) c.in-Ok-prepare.ensures.unmoved.ledger)
    (g.met.K.Keeper.settled c.args.self.now.keeper c.requires.usable.opened) c.in-Ok-write.ensures.same

pub returns-in-Err-clause-left : goal.returns-in-Err-clause-left
returns-in-Err-clause-left g c =
    raised_from _ _ (g.K.Keeper.may_leave c.args.self.now.keeper) (g.K.Keeper.may_leave c.write.new.self.keeper) _
    (raised true c.args.self.now.ledger) c.in-Ok-prepare.ensures.unmoved.rows
    (ap (after_step c.prepare.new.self.ledger) c.in-Ok-prepare.ensures.step ∙ ap (λ n. with_start c.prepare.new.self.ledger (n + 1)) c.start-start.ensures
    ∙ ap (λ l. with_start l (c.args.self.now.ledger.start + 1)) c.in-Ok-prepare.ensures.unmoved.ledger)
    (g.met.K.Keeper.settled c.args.self.now.keeper c.requires.usable.opened) c.in-Err.ensures.same
