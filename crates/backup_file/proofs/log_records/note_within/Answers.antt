use Rattle.std.proofs.Common.{subst, sym}
use Rattle.backup_file.specs.Lists.{AreUnits, lists_behind}
use Rattle.backup_file.proofs.ReadLogs.{noted_after}
use Rattle.backup_file.proofs.log_records.note_within.Goals as goal

pub returns-then-not-may-clause-noted : goal.returns-then-not-may-clause-noted
returns-then-not-may-clause-noted c = λ legal.
    let yes = (c.in-Ok.ensures (lists_behind c.args.so_far.now.records.items) c.requires).1 legal in let no = c.if-not-may.true in cc

pub returns-clause-noted : goal.returns-clause-noted
returns-clause-noted c = (
  (c.in-Ok.ensures (lists_behind c.args.so_far.now.records.items) c.requires).0 c.if-not-may.false,
  c.in_ok-push.ensures.items,
)

pub returns-clause-units : goal.returns-clause-units
returns-clause-units c =
    let old = c.args.so_far.now.records.items in
    subst (AreUnits c.follow.new.units.keys) (sym (noted_after old c.args.step c.push.new.self.items c.in_ok-push.ensures.items))
    (c.in-Ok-follow.ensures (lists_behind old) c.requires)
