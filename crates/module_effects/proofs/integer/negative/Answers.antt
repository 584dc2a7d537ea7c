use Rattle.std.proofs.Common.{arith}
use Rattle.module_effects.proofs.lemmas.Integers.{same_number}
use Rattle.module_effects.proofs.integer.negative.Goals as goal
use Rattle.module_effects.proofs.integer.negative.Goals.{else-number-ge1-via-then-number-ge1+else-number, else-number-ge1-via-else-number-ge1}

pub returns-else-number-ge1-clause-none : goal.returns-else-number-ge1-clause-none
returns-else-number-ge1-clause-none c = λ n l h e.
    let same = same_number c.args.digits.now c.in_ok-number.number n (omega arith) (omega arith) c.in_ok-number.ensures.spelled e in
    elim c.else-number-ge1.branch
    [ else-number-ge1-via-then-number-ge1+else-number w ↦ absurd (omega arith) | else-number-ge1-via-else-number-ge1 w ↦ absurd (omega arith) ]
