use Rattle.std.proofs.Common.{refl, subst}
use Rattle.std.specs.Option.{option_copied}
use Rattle.posting.specs.Settling.{IsOther, IsSettled}
use Rattle.posting.proofs.settling.found_anew.Goals as goal

pub returns-in-Ok-Some-clause-settled : goal.returns-in-Ok-Some-clause-settled
returns-in-Ok-Some-clause-settled c =
    let change = option_copied c.args.change in
    let taken = c.in-Ok-Some.taken in
    subst (λ l. IsSettled l change taken c.args.mirror.ledger) c.register.ensures
    (subst (λ l. IsSettled c.register.result.now.ledger change taken l) c.register-2.ensures
    (rw c.in-Ok-Some.field-0-is at c.in-Ok-Some.ensures.settled))

pub returns-in-Ok-None-clause-unlike : goal.returns-in-Ok-None-clause-unlike
returns-in-Ok-None-clause-unlike c =
    let change = option_copied c.args.change in (
      refl,
      subst (λ l. IsOther l change c.args.mirror.ledger) c.register.ensures
          (subst (λ l. IsOther c.register.result.now.ledger change l) c.register-2.ensures
          (rw c.in-Ok-None.field-0-is at c.in-Ok-None.ensures.other)),
    )
