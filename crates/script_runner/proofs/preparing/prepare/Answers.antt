use Rattle.std.proofs.Common.{true, subst}
use Rattle.script_runner.specs.Lines.{reading}
use Rattle.script_runner.specs.Preparing.{IsPrepared}
use Rattle.script_runner.specs.World.{setting}
use Rattle.script_runner.proofs.preparing.prepare.Goals as goal

pub returns-in-Logon-clause-prepared : goal.returns-in-Logon-clause-prepared
returns-in-Logon-clause-prepared c = rw c.in-Logon.is (c.log_on.ensures.prepared c.args.objects.now)

pub returns-in-Logoff-clause-prepared : goal.returns-in-Logoff-clause-prepared
returns-in-Logoff-clause-prepared c = rw c.in-Logoff.is (c.log_off.ensures c.args.objects.now)

pub returns-in-DeqAll-clause-prepared : goal.returns-in-DeqAll-clause-prepared
returns-in-DeqAll-clause-prepared c = rw c.in-DeqAll.is (c.free_all.ensures c.args.objects.now)

pub returns-in-Rollback-clause-prepared : goal.returns-in-Rollback-clause-prepared
returns-in-Rollback-clause-prepared c = rw c.in-Rollback.is (c.roll_back.ensures c.args.objects.now)

pub returns-in-Flush-clause-prepared : goal.returns-in-Flush-clause-prepared
returns-in-Flush-clause-prepared c = rw c.in-Flush.is (c.flush.ensures c.args.objects.now)

pub returns-in-Reset-clause-prepared : goal.returns-in-Reset-clause-prepared
returns-in-Reset-clause-prepared c = rw c.in-Reset.is (c.empty.ensures c.args.objects.now)

pub returns-in-Commit-clause-prepared : goal.returns-in-Commit-clause-prepared
returns-in-Commit-clause-prepared c = rw c.in-Commit.is (c.commit.ensures c.args.objects.now)

pub returns-in-Put-clause-prepared : goal.returns-in-Put-clause-prepared
returns-in-Put-clause-prepared c = c.prepare_text.ensures c.args.objects.now

pub returns-in-Del-clause-prepared : goal.returns-in-Del-clause-prepared
returns-in-Del-clause-prepared c = c.prepare_other_effect.ensures c.args.objects.now

pub returns-in-Num-clause-prepared : goal.returns-in-Num-clause-prepared
returns-in-Num-clause-prepared c = rw c.in-Num.is (c.draw.ensures.prepared c.args.objects.now)

pub returns-in-Read-clause-prepared : goal.returns-in-Read-clause-prepared
returns-in-Read-clause-prepared c =
    let w = setting c.args.objects.now c.args.sides.now.items in
    rw c.in-Read.is
    (subst (λ key. IsPrepared (reading w c.in-Read.session c.in-Read.table key) true c.args.sides.now.items c.read.new.sides.items c.read.result)
    c.as_slice.ensures (c.read.ensures.prepared c.args.objects.now))
