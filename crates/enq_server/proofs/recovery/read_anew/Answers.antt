use Rattle.std.proofs.Common.{◌≡◌, List, ap, sym, subst, arith, ◌∙◌}
use Rattle.std.specs.Prelude.{IsErrOf}
use Rattle.enq_base.specs.Causes.{Rose}
use Rattle.backup_file.proofs.lemmas.Adding.{left_shortened}
use Rattle.backup_file.specs.declared.handed.Handed.{Handed}
use Rattle.backup_file.specs.Backup.{UnlessFailed}
use Rattle.enq_server.specs.Recovery.{AreKnown, lists_among, locking}
use Rattle.enq_server.proofs.Images.{all_left}
use Rattle.enq_server.proofs.recovery.read_anew.Goals as goal

-- ---- the log was written anew

pub returns-in-Ok-compact-clause-file : goal.returns-in-Ok-compact-clause-file
returns-in-Ok-compact-clause-file g c = λ t.
    let r = c.in-Ok.ensures.file t in
    let lists : List Handed = lists_among c.args.units.now r.lists in
    record {
      freed = record { lists = r.lists; stood = r.stood; agree = r.agree; ready = c.in-Ok-compact.ensures.ready t lists r.ready };
      shortened = left_shortened (g.D.Disk.reads c.args.backup.now.disk) (g.D.Disk.reads c.read_freed.new.backup.disk)
          (g.D.Disk.reads c.compact.new.self.disk) lists (c.in-Ok.ensures.worn t) (c.in-Ok-compact.ensures.done t lists r.ready);
    }

pub returns-in-Ok-compact-clause-known : goal.returns-in-Ok-compact-clause-known
returns-in-Ok-compact-clause-known g c = subst (λ us. AreKnown us (locking c.args.units.now)) (sym c.compact.ensures.units) c.in-Ok.ensures.known

pub returns-in-Ok-compact-clause-images : goal.returns-in-Ok-compact-clause-images
returns-in-Ok-compact-clause-images g c = λ t.
    let r = c.in-Ok.ensures.file t in
    all_left c.args.units.now (g.D.Disk.reads c.args.backup.now.disk) r.lists (g.D.Disk.may_leave c.args.backup.now.disk) _ r.stood
    (g.met.D.Disk.reads_left c.args.backup.now.disk t) (c.compact.ensures.images t (lists_among c.args.units.now r.lists) r.ready)

pub returns-in-Ok-compact-clause-quiet : goal.returns-in-Ok-compact-clause-quiet
returns-in-Ok-compact-clause-quiet g c = c.in-Ok-compact.ensures.cause.quiet ∙ c.in-Ok.ensures.quiet

-- ---- the disk failed

pub returns-in-Err-Failed-clause-images : goal.returns-in-Err-Failed-clause-images
returns-in-Err-Failed-clause-images g c = λ t.
    let r = c.in-Ok.ensures.file t in
    all_left c.args.units.now (g.D.Disk.reads c.args.backup.now.disk) r.lists (g.D.Disk.may_leave c.args.backup.now.disk) _ r.stood
    (g.met.D.Disk.reads_left c.args.backup.now.disk t) (c.compact.ensures.images t (lists_among c.args.units.now r.lists) r.ready)

pub returns-in-Err-Failed-clause-shut : goal.returns-in-Err-Failed-clause-shut
returns-in-Err-Failed-clause-shut g c = c.compact.ensures.failed (subst (λ e. IsErrOf c.compact.result e) c.in-Err-Failed.field-0-is c.in-Err-Failed.is)

pub returns-in-Err-Failed-clause-cause : goal.returns-in-Err-Failed-clause-cause
returns-in-Err-Failed-clause-cause g c = (
  omega (arith, c.in-Ok.ensures.quiet, c.compact.ensures.cause.later),
  subst (λ n. Rose n (g.D.Disk.faults c.compact.new.self.disk)) c.in-Ok.ensures.quiet
      (c.compact.ensures.cause.failed (subst (λ e. IsErrOf c.compact.result e) c.in-Err-Failed.field-0-is c.in-Err-Failed.is)),
)

-- ---- memory was wanting

pub returns-clause-images : goal.returns-clause-images
returns-clause-images g c = λ t.
    let r = c.in-Ok.ensures.file t in
    all_left c.args.units.now (g.D.Disk.reads c.args.backup.now.disk) r.lists (g.D.Disk.may_leave c.args.backup.now.disk) _ r.stood
    (g.met.D.Disk.reads_left c.args.backup.now.disk t) (λ image may. c.compact.ensures.images t (lists_among c.args.units.now r.lists) r.ready image
    (subst (λ d. g.D.Disk.may_leave d image) c.shut.ensures.disk may))

pub returns-clause-cause : goal.returns-clause-cause
returns-clause-cause g c =
    let none = subst (λ e. IsErrOf c.compact.result e) c.in-Err-NoMemory.field-0-is c.in-Err-NoMemory.is in
    ap g.D.Disk.faults c.shut.ensures.disk
    ∙ subst (λ r. UnlessFailed r (g.D.Disk.faults c.compact.new.self.disk ≡ g.D.Disk.faults c.read_freed.new.backup.disk)) none c.compact.ensures.cause.quiet
    ∙ c.in-Ok.ensures.quiet
