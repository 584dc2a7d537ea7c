use Rattle.std.proofs.Common.{◌||◌, ap, subst, ◌∙◌}
use Rattle.enq_base.specs.Owners.{same_unit}
use Rattle.backup_file.specs.declared.handed.Handed.{Handed}
use Rattle.backup_file.specs.declared.handed.Record.{Record}
use Rattle.backup_file.specs.declared.handed.Record.TheVariants.{Hand}
use Rattle.backup_file.specs.Spelling.{spelling, user_of}
use Rattle.backup_file.specs.Lists.{is_known}
use Rattle.backup_file.specs.Handing.{handed_of}
use Rattle.backup_file.proofs.lemmas.Adding.{either, ready_after}
use Rattle.backup_file.proofs.Handover.{distinct_handed}
use Rattle.backup_file.proofs.lemmas.Units.{units-hand}
use Rattle.backup_file.proofs.backup.Backup.write_hand.Goals as goal

pub returns-in_err-add-clause-images : goal.returns-in_err-add-clause-images
returns-in_err-add-clause-images g c = λ t unit es ready_for l ready image left.
    let r : Record = Hand (handed_of unit es) in
    let text = c.deref.ensures.value ∙ ap (λ r. r.text) c.ready.view_is ∙ ready_for.text in
    either l r ready.front ready.is_front ready_for.is_record (distinct_handed (user_of es) es ready_for.distinct) image
    (c.add.ensures.images t ready.front (spelling r) ready.at_rest text image left)

pub returns-clause-images : goal.returns-clause-images
returns-clause-images g c = λ t unit es ready_for l ready image left.
    let r : Record = Hand (handed_of unit es) in
    let text = c.deref.ensures.value ∙ ap (λ r. r.text) c.ready.view_is ∙ ready_for.text in
    let before = subst (λ d. g.D.Disk.may_leave d image) c.keep.ensures.disk left in
    either l r ready.front ready.is_front ready_for.is_record (distinct_handed (user_of es) es ready_for.distinct) image
    (c.add.ensures.images t ready.front (spelling r) ready.at_rest text image before)

pub returns-clause-units : goal.returns-clause-units
returns-clause-units g c = λ unit es ready_for other.
    c.keep.ensures.units other
    ∙ ap (λ u. same_unit u other || is_known other c.add.new.self.units) (ap (λ r. r.unit) c.ready.view_is ∙ ready_for.owned)
    ∙ ap (λ us. same_unit unit other || is_known other us) c.add.ensures.units

pub returns-clause-handed : goal.returns-clause-handed
returns-clause-handed g c = λ t unit es ready_for l ready.
    let h : Handed = handed_of unit es in
    let r : Record = Hand h in
    let text = c.deref.ensures.value ∙ ap (λ r. r.text) c.ready.view_is ∙ ready_for.text in
    let added = c.in_ok-add.ensures.added t ready.front (spelling r) ready.at_rest text in
    ready_after g.D.Disk.reads g.D.Disk.may_leave l r ready.front ready.is_front ready_for.is_record
    (distinct_handed (user_of es) es ready_for.distinct) c.keep.new.self (rw (c.keep.ensures.disk, c.keep.ensures.gate) added)
    (units-hand c.args.self.now.units c.keep.new.self.units l h ready.units (returns-clause-units g c unit es ready_for))
    (c.keep.ensures.compact ∙ c.add.ensures.unknown)
