use Rattle.std.proofs.Common.{◌&&◌, not, ap, subst, sym, ◌∙◌}
use Rattle.enq_base.specs.Owners.{same_unit}
use Rattle.backup_file.specs.declared.handed.Record.{Record}
use Rattle.backup_file.specs.declared.handed.Record.TheVariants.{Free}
use Rattle.backup_file.specs.Lists.{is_known}
use Rattle.backup_file.specs.Spelling.{spelling}
use Rattle.backup_file.specs.File.{IsNoOlder}
use Rattle.backup_file.proofs.lemmas.Adding.{either, ready_after, worn_after}
use Rattle.backup_file.proofs.lemmas.Units.{units-free, stands_among}
use Rattle.backup_file.proofs.backup.Backup.free.Goals as goal

pub returns-in_err-add-clause-images : goal.returns-in_err-add-clause-images
returns-in_err-add-clause-images g c = λ t l ready image left.
    let r : Record = Free c.args.unit.now in
    either l r ready.front ready.is_front c.free_text.ensures.is_record (stands_among c.args.unit.now l c.args.self.now.units ready.units c.requires.stands)
    image (c.add.ensures.images t ready.front (spelling r) ready.at_rest c.free_text.ensures.spelled image left)

pub returns-clause-images : goal.returns-clause-images
returns-clause-images g c = λ t l ready image left.
    let r : Record = Free c.args.unit.now in
    let before = subst (λ d. g.D.Disk.may_leave d image) c.forget.ensures.disk left in
    either l r ready.front ready.is_front c.free_text.ensures.is_record (stands_among c.args.unit.now l c.args.self.now.units ready.units c.requires.stands)
    image (c.add.ensures.images t ready.front (spelling r) ready.at_rest c.free_text.ensures.spelled image before)

pub returns-clause-units : goal.returns-clause-units
returns-clause-units g c = λ other.
    c.forget.ensures.units other ∙ ap (λ us. not (same_unit c.args.unit.now other) && is_known other us) c.add.ensures.units

pub returns-clause-freed : goal.returns-clause-freed
returns-clause-freed g c = λ t l ready.
    let unit = c.args.unit.now in
    let r : Record = Free unit in
    let added = c.in_ok-add.ensures.added t ready.front (spelling r) ready.at_rest c.free_text.ensures.spelled in
    ready_after g.D.Disk.reads g.D.Disk.may_leave l r ready.front ready.is_front c.free_text.ensures.is_record
    (stands_among unit l c.args.self.now.units ready.units c.requires.stands) c.forget.new.self (rw (c.forget.ensures.disk, c.forget.ensures.gate) added)
    (units-free c.args.self.now.units c.forget.new.self.units l unit ready.units (returns-clause-units g c)) (c.forget.ensures.compact ∙ c.add.ensures.unknown)

pub returns-clause-worn : goal.returns-clause-worn
returns-clause-worn g c = λ t l ready.
    let unit = c.args.unit.now in
    let r : Record = Free unit in
    let reads = g.D.Disk.reads in
    let added = c.in_ok-add.ensures.added t ready.front (spelling r) ready.at_rest c.free_text.ensures.spelled in
    subst (λ d. IsNoOlder (reads c.args.self.now.disk) (reads d)) (sym c.forget.ensures.disk)
    (worn_after l r ready.front ready.is_front c.free_text.ensures.is_record (stands_among unit l c.args.self.now.units ready.units c.requires.stands)
    (reads c.args.self.now.disk) (reads c.add.new.self.disk) (g.D.Disk.may_leave c.args.self.now.disk) (g.D.Disk.may_leave c.add.new.self.disk)
    c.args.self.now.gate c.add.new.self.gate ready.at_rest added)
