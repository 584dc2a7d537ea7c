use Rattle.std.proofs.Common.{◌||◌, ap, inl, refl, subst, ◌∙◌, arith}
use Rattle.enq_base.specs.Causes.{Rose}
use Rattle.enq_base.specs.Owners.{same_unit}
use Rattle.backup_file.proofs.lemmas.Adding.{no_fault, ready_same, same_left, without_memory, written}
use Rattle.backup_file.proofs.backup.Backup.hand.Goals as goal

-- ---- there is no memory for it

pub returns-in_default-clause-images : goal.returns-in_default-clause-images
returns-in_default-clause-images g c = λ t l ready image left.
    inl (same_left g.D.Disk.reads g.D.Disk.may_leave l c.args.self.now c.ready_hand.new.self c.ready_hand.ensures.same ready image left)

pub returns-in_default-clause-no_memory : goal.returns-in_default-clause-no_memory
returns-in_default-clause-no_memory g c = λ _. c.ready_hand.ensures.same

pub returns-in_default-clause-cause : goal.returns-in_default-clause-cause
returns-in_default-clause-cause g c =
    no_fault (g.D.Disk.faults c.args.self.now.disk) (g.D.Disk.faults c.ready_hand.new.self.disk) _
    (ap g.D.Disk.faults c.ready_hand.ensures.same.disk) (λ failed. without_memory _ refl failed)

-- ---- it isn't written

pub returns-in-Err-clause-images : goal.returns-in-Err-clause-images
returns-in-Err-clause-images g c = λ t l ready.
    c.write_hand.ensures.images t c.args.unit.now c.args.entries.now c.in-Ok.ensures.ready l
    (ready_same g.D.Disk.reads g.D.Disk.may_leave l c.args.self.now c.ready_hand.new.self c.ready_hand.ensures.same ready)

pub returns-in-Err-clause-failed : goal.returns-in-Err-clause-failed
returns-in-Err-clause-failed g c = λ _. c.in-Err.ensures.failed

pub returns-in-Err-clause-cause : goal.returns-in-Err-clause-cause
returns-in-Err-clause-cause g c =
    let same = ap g.D.Disk.faults c.ready_hand.ensures.same.disk in
    let cause = c.in-Err.ensures.cause in
    record {
      later = omega (arith, same, cause.later);
      failed = λ _. subst (λ n. Rose n (g.D.Disk.faults c.write_hand.new.self.disk)) same cause.failed;
      quiet = tt;
    }

-- ---- it is written

pub returns-in-Ok-write_hand-clause-handed : goal.returns-in-Ok-write_hand-clause-handed
returns-in-Ok-write_hand-clause-handed g c = λ t l ready.
    c.in-Ok-write_hand.ensures.handed t c.args.unit.now c.args.entries.now c.in-Ok.ensures.ready l
    (ready_same g.D.Disk.reads g.D.Disk.may_leave l c.args.self.now c.ready_hand.new.self c.ready_hand.ensures.same ready)

pub returns-in-Ok-write_hand-clause-units : goal.returns-in-Ok-write_hand-clause-units
returns-in-Ok-write_hand-clause-units g c = λ other.
    c.in-Ok-write_hand.ensures.units c.args.unit.now c.args.entries.now c.in-Ok.ensures.ready other
    ∙ ap (λ b. same_unit c.args.unit.now other || b) (c.ready_hand.ensures.same.units other)

pub returns-in-Ok-write_hand-clause-images : goal.returns-in-Ok-write_hand-clause-images
returns-in-Ok-write_hand-clause-images g c = λ t l ready.
    c.write_hand.ensures.images t c.args.unit.now c.args.entries.now c.in-Ok.ensures.ready l
    (ready_same g.D.Disk.reads g.D.Disk.may_leave l c.args.self.now c.ready_hand.new.self c.ready_hand.ensures.same ready)

pub returns-in-Ok-write_hand-clause-cause : goal.returns-in-Ok-write_hand-clause-cause
returns-in-Ok-write_hand-clause-cause g c =
    no_fault (g.D.Disk.faults c.args.self.now.disk) (g.D.Disk.faults c.write_hand.new.self.disk) _
    (c.in-Ok-write_hand.ensures.cause.quiet ∙ ap g.D.Disk.faults c.ready_hand.ensures.same.disk) (λ failed. written _ _ refl failed)
