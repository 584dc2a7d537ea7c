use Rattle.std.proofs.Common.{ℕ, ◌+◌, ◌<◌, ◌^◌, ◌∷◌, [], List, ap, arith, length, length-append, subst, sym, ◌∙◌}
use Rattle.backup_file.specs.Compacting.{IsFree}
use Rattle.backup_file.specs.File.{compact}
use Rattle.backup_file.proofs.Planned.{opened_rewritten, plan_at_rest}
use Rattle.backup_file.proofs.Sizes.{vec_size}
use Rattle.backup_file.proofs.compact_log.carry_out.Goals as goal

pub returns-in-Ok-clause-done : goal.returns-in-Ok-clause-done
returns-in-Ok-clause-done g c = λ t is only.
    let plan = c.args.plan in
    let disk = c.args.disk.now in
    let text = c.as_slice.ensures.value ∙ is.text in
    opened_rewritten plan (g.D.Disk.reads disk) (g.D.Disk.may_leave disk) is only _ (g.D.Disk.reads c.rewrite.new.disk)
    (g.D.Disk.may_leave c.rewrite.new.disk) (omega (arith, ap length is.text, length-append (compact is.lists) (0 ∷ []), c.len.ensures, vec_size plan.text))
    (c.in-Ok.ensures.rewritten t is.front is.lists is.is_front
    (plan_at_rest plan (g.D.Disk.reads disk) (g.D.Disk.may_leave disk) is only) text is.leads)

pub returns-in-Ok-clause-images : goal.returns-in-Ok-clause-images
returns-in-Ok-clause-images g c = λ t is only.
    let disk = c.args.disk.now in
    c.rewrite.ensures.images t is.front is.lists is.is_front
    (plan_at_rest c.args.plan (g.D.Disk.reads disk) (g.D.Disk.may_leave disk) is only) (c.as_slice.ensures.value ∙ is.text) is.leads

pub returns-clause-images : goal.returns-clause-images
returns-clause-images g c = λ t is only.
    let disk = c.args.disk.now in
    c.rewrite.ensures.images t is.front is.lists is.is_front
    (plan_at_rest c.args.plan (g.D.Disk.reads disk) (g.D.Disk.may_leave disk) is only) (c.as_slice.ensures.value ∙ is.text) is.leads

pub rewrite-requires-clause-free : goal.rewrite-requires-clause-free
rewrite-requires-clause-free g c =
    let plan = c.args.plan in
    subst (λ b. IsFree plan.place plan.gate plan.at (length b)) (sym c.as_slice.ensures.value) c.requires.free

pub rewrite-requires-clause-short : goal.rewrite-requires-clause-short
rewrite-requires-clause-short g c =
    subst (λ (b : List ℕ). c.args.plan.at + length b < 2 ^ 64) (sym c.as_slice.ensures.value) c.requires.short
