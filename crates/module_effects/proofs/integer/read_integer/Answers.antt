use Rattle.std.proofs.Common.{ℕ, arith}
use Rattle.std.proofs.lemmas.List.{take_all, length-drop}
use Rattle.module_effects.proofs.lemmas.Integers.{not_empty, none_negative}
use Rattle.module_effects.proofs.integer.read_integer.Goals as goal

pub returns-in-empty-clause-none : goal.returns-in-empty-clause-none
returns-in-empty-clause-none c = λ z fits is. not_empty c.args.text.now z c.in-empty.len_below fits is

pub returns-in-45-clause-none : goal.returns-in-45-clause-none
returns-in-45-clause-none c = none_negative c.negative.result c.args.text.now _ c.in-45.len_at_least (omega arith)
    (take_all _ _ (omega (arith, length-drop {A = ℕ}))) c.negative.ensures.none
