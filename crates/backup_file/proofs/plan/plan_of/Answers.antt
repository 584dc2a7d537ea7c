use Rattle.std.proofs.Common.{◌≤◌, length, arith, inr, subst}
use Rattle.backup_file.specs.Opening.{OnBad}
use Rattle.backup_file.specs.File.{IsBad}
use Rattle.backup_file.proofs.Planned.{never_short}
use Rattle.backup_file.proofs.lemmas.Meaning.{both_unbroken}
use Rattle.backup_file.proofs.plan.plan_of.Goals as goal

pub returns-then-bytes-le9-clause-none : goal.returns-then-bytes-le9-clause-none
returns-then-bytes-le9-clause-none c = λ l second.
    let short : length c.args.bytes.now ≤ 9 = omega arith in absurd (never_short c.args.bytes.now l short second)

pub returns-in-Err-Bad-clause-none : goal.returns-in-Err-Bad-clause-none
returns-in-Err-Bad-clause-none c = λ l second.
    let bad = subst (OnBad (IsBad c.args.bytes.now)) c.in-Err-Bad.field-0-is c.in-Err-Bad.ensures.bad in
    absurd (both_unbroken c.args.bytes.now l c.in-Err-Bad._at (inr second) bad)
