use Rattle.std.proofs.Common.{arith}
use Rattle.module_effects.proofs.lemmas.Integers.{same_number}
use Rattle.module_effects.proofs.integer.natural.Goals as goal

pub returns-else-number-clause-none : goal.returns-else-number-clause-none
returns-else-number-clause-none c =
    λ n h e. absurd (omega (arith, same_number c.args.digits.now c.in_ok-number.number n (omega arith) (omega arith) c.in_ok-number.ensures.spelled e))
