use Rattle.std.proofs.Common.{ℕ, List, Option, length, ap, arith, subst, ◌∙◌}
use Rattle.std.proofs.lemmas.Option.{IfSome_then}
use Rattle.std.specs.Prelude.{IfSome}
use Rattle.backup_file.specs.declared.plan.Plan.{Plan}
use Rattle.backup_file.specs.Plans.{IsPlan}
use Rattle.backup_file.proofs.Planned.{cause_read, same_read}
use Rattle.backup_file.proofs.Sizes.{vec_few}
use Rattle.backup_file.proofs.compact_log.read_plan.Goals as goal

pub plan_of-requires : goal.plan_of-requires
plan_of-requires g c = omega (arith, vec_few c.in-Ok.bytes, ap (λ (b : List ℕ). length b) c.as_slice.ensures.value)

pub returns-in-Err-clause-same : goal.returns-in-Err-clause-same
returns-in-Err-clause-same g c = λ t.
    same_read (Option Plan) c.read_all.result c.in-Err.fault c.from.result c.in-Err.is c.from.ensures _ (c.read_all.ensures.stays t)

pub returns-in-Err-clause-cause : goal.returns-in-Err-clause-cause
returns-in-Err-clause-cause g c =
    cause_read (Option Plan) c.read_all.result c.in-Err.fault c.from.result c.in-Err.is c.from.ensures (g.D.Disk.faults c.args.disk.now)
    (g.D.Disk.faults c.read_all.new.disk) c.read_all.ensures.cause

pub returns-in-Ok-plan_of-clause-some : goal.returns-in-Ok-plan_of-clause-some
returns-in-Ok-plan_of-clause-some g c = λ t.
    subst (λ b. IfSome c.in-Ok-plan_of.planned (IsPlan b)) (c.as_slice.ensures.value ∙ c.in-Ok.ensures.value t) c.in-Ok-plan_of.ensures.some

pub returns-in-Ok-plan_of-clause-carried : goal.returns-in-Ok-plan_of-clause-carried
returns-in-Ok-plan_of-clause-carried g c = IfSome_then c.in-Ok-plan_of.planned c.in-Ok-plan_of.ensures.some (λ plan is. is.carried)
