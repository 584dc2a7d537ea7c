use Rattle.std.proofs.Common.{refl, subst}
use Rattle.backup_file.specs.ReadLogs.{IsNotedWithin}
use Rattle.backup_file.proofs.ReadLogs.{fails_within, if_bad, illegal_within}
use Rattle.backup_file.proofs.log_records.read_next.Goals as goal

pub returns-else-not-noted-clause-read : goal.returns-else-not-noted-clause-read
returns-else-not-noted-clause-read c =
    let old = c.args.so_far.now.records.items in
    let new = c.note_within.new.so_far.records.items in
    let noted = subst (λ b. IsNotedWithin c.args.most b old c.in-Ok.step new) c.if-not-noted.false c.in-Ok-note_within.ensures.noted in
    record { step = c.in-Ok.step; read = c.in-Ok.ensures; legal = noted.0; noted = noted.1 }

pub returns-then-not-noted-clause-bad : goal.returns-then-not-noted-clause-bad
returns-then-not-noted-clause-bad c =
    let old = c.args.so_far.now.records.items in
    let new = c.note_within.new.so_far.records.items in
    illegal_within c.args.most c.args.behind.now old c.in-Ok.step c.in-Ok.after.now c.in-Ok.ensures
    (subst (λ b. IsNotedWithin c.args.most b old c.in-Ok.step new) c.if-not-noted.true c.in-Ok-note_within.ensures.noted)

pub returns-in-Err-clause-bad : goal.returns-in-Err-clause-bad
returns-in-Err-clause-bad c = fails_within c.args.most c.args.behind.now c.args.so_far.now.records.items c.in-Err.fault c.in-Err.ensures

pub returns-in-Err-clause-kept : goal.returns-in-Err-clause-kept
returns-in-Err-clause-kept c = if_bad _ c.in-Err.fault refl

pub returns-in-Err-clause-kept_units : goal.returns-in-Err-clause-kept_units
returns-in-Err-clause-kept_units c = if_bad _ c.in-Err.fault c.requires
