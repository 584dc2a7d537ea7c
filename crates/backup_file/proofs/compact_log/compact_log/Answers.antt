use Rattle.std.specs.Prelude.{IfNone, IfSome}
use Rattle.std.proofs.Common.{ℕ, List, Option, subst, sym, ◌∙◌}
use Rattle.std.proofs.lemmas.Result.{IfOk-weaker}
use Rattle.bk_disk.specs.Disk.{Only}
use Rattle.backup_file.specs.Plans.{IsCompacted, IsDone, IsPlan, MayBeCarried}
use Rattle.backup_file.specs.declared.handed.Handed.{Handed}
use Rattle.backup_file.specs.File.{IsVersion2, Stands}
use Rattle.backup_file.proofs.Planned.{cause_again, done_planned, if_some, no_memory_again, plan_version, planned_lists, same_done, still_stands}
use Rattle.backup_file.proofs.compact_log.compact_log.Goals as goal

-- ---- something is planned

pub carry_out-requires : goal.carry_out-requires
carry_out-requires g c = subst (λ p. IfSome p MayBeCarried) c.in-Ok-Some.field-0-is c.in-Ok-Some.ensures.carried

pub returns-in-Ok-Some-clause-done : goal.returns-in-Ok-Some-clause-done
returns-in-Ok-Some-clause-done g c = λ t l second only.
    let was = g.D.Disk.reads c.args.disk.now in
    let mid = g.D.Disk.reads c.read_plan.new.disk in
    let same = c.in-Ok-Some.ensures.same t in
    let plan = c.in-Ok-Some.plan in
    let is = subst (λ b. IsPlan b plan) (sym same)
    (subst (λ p. IfSome p (IsPlan (g.D.Disk.reads c.args.disk.now))) c.in-Ok-Some.field-0-is (c.in-Ok-Some.ensures.some t)) in
    let still : Only mid (g.D.Disk.may_leave c.read_plan.new.disk) = λ image left. only image (c.read_plan.ensures.left t image left) ∙ sym same in
    let lists = planned_lists plan mid (g.D.Disk.may_leave c.read_plan.new.disk) is still l (subst (λ b. IsVersion2 b l) (sym same) second) in
    IfOk-weaker c.carry_out.result
    (IsCompacted mid (g.D.Disk.reads c.carry_out.new.disk) (g.D.Disk.may_leave c.carry_out.new.disk) is.lists)
    (IsCompacted was (g.D.Disk.reads c.carry_out.new.disk) (g.D.Disk.may_leave c.carry_out.new.disk) l)
    (λ r done. done_planned was mid (g.D.Disk.reads c.carry_out.new.disk) (g.D.Disk.may_leave c.carry_out.new.disk) is.lists l r same lists done)
    (c.carry_out.ensures.done t is still)

pub returns-in-Ok-Some-clause-images : goal.returns-in-Ok-Some-clause-images
returns-in-Ok-Some-clause-images g c = λ t l second only image left.
    let mid = g.D.Disk.reads c.read_plan.new.disk in
    let same = c.in-Ok-Some.ensures.same t in
    let plan = c.in-Ok-Some.plan in
    let is = subst (λ b. IsPlan b plan) (sym same)
    (subst (λ p. IfSome p (IsPlan (g.D.Disk.reads c.args.disk.now))) c.in-Ok-Some.field-0-is (c.in-Ok-Some.ensures.some t)) in
    let still : Only mid (g.D.Disk.may_leave c.read_plan.new.disk) = λ image left. only image (c.read_plan.ensures.left t image left) ∙ sym same in
    let lists = planned_lists plan mid (g.D.Disk.may_leave c.read_plan.new.disk) is still l (subst (λ b. IsVersion2 b l) (sym same) second) in
    subst (Stands image) lists (c.carry_out.ensures.images t is still image left)

pub returns-in-Ok-Some-clause-needed : goal.returns-in-Ok-Some-clause-needed
returns-in-Ok-Some-clause-needed g c = λ t.
    let was = g.D.Disk.reads c.args.disk.now in
    let is = subst (λ p. IfSome p (IsPlan was)) c.in-Ok-Some.field-0-is (c.in-Ok-Some.ensures.some t) in
    if_some c.carry_out.result _ (λ l also. is.needed (same_done was is.lists l (plan_version c.in-Ok-Some.plan was is) also))

-- ---- nothing is to be done

pub returns-in-Ok-None-clause-done : goal.returns-in-Ok-None-clause-done
returns-in-Ok-None-clause-done g c = λ t l second only.
    let same = c.in-Ok-None.ensures.same t in (
      same,
      λ image left. only image (c.read_plan.ensures.left t image left) ∙ sym same,
      subst (λ p. IfNone p ((k : List Handed) → IsVersion2 (g.D.Disk.reads c.args.disk.now) k → IsDone (g.D.Disk.reads c.args.disk.now) k))
          c.in-Ok-None.field-0-is (c.in-Ok-None.ensures.none t) l second,
    )

pub returns-in-Ok-None-clause-images : goal.returns-in-Ok-None-clause-images
returns-in-Ok-None-clause-images g c = λ t l second only.
    let disk = c.args.disk.now in
    still_stands (g.D.Disk.reads disk) (g.D.Disk.may_leave disk) l second only (g.D.Disk.may_leave c.read_plan.new.disk) (c.read_plan.ensures.left t)

-- ---- it can't be read

pub returns-in-Err-clause-no_memory : goal.returns-in-Err-clause-no_memory
returns-in-Err-clause-no_memory g c = λ t.
    no_memory_again (Option ℕ) c.read_plan.result c.in-Err.fault c.in-Err.is _ _ (c.read_plan.ensures.same t) (c.read_plan.ensures.left t)

pub returns-in-Err-clause-images : goal.returns-in-Err-clause-images
returns-in-Err-clause-images g c = λ t l second only.
    let disk = c.args.disk.now in
    still_stands (g.D.Disk.reads disk) (g.D.Disk.may_leave disk) l second only (g.D.Disk.may_leave c.read_plan.new.disk) (c.read_plan.ensures.left t)

pub returns-in-Err-clause-cause : goal.returns-in-Err-clause-cause
returns-in-Err-clause-cause g c =
    cause_again (Option ℕ) c.read_plan.result c.in-Err.fault c.in-Err.is (g.D.Disk.faults c.args.disk.now)
    (g.D.Disk.faults c.read_plan.new.disk) c.read_plan.ensures.cause
