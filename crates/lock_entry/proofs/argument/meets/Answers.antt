use Rattle.std.proofs.Common.{◌≡◌, sym, ◌∙◌}
use Rattle.lock_entry.proofs.Arguments.{meets-Decides}
use Rattle.lock_entry.specs.Argument.{meets, Meets}
use Rattle.lock_entry.proofs.argument.meets.Goals as goal

pub returns-clause-test : goal.returns-clause-test
returns-clause-test c = rw (c.bytes.ensures.same, c.bytes-2.ensures.same) at c.all_meet.ensures

pub returns-clause-meets : goal.returns-clause-meets
returns-clause-meets c =
    let test : c.all_meet.result ≡ meets c.args.a.now c.args.b.now = returns-clause-test c in
    let d = meets-Decides c.args.a.now c.args.b.now c.bytes.ensures.grammar c.bytes-2.ensures.grammar in
    (λ h. d.0 (sym test ∙ h), λ (m : Meets c.args.a.now c.args.b.now). test ∙ d.1 m)
