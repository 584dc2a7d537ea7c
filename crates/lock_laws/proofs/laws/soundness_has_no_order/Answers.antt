use Rattle.lock_laws.proofs.Orders.{IsSound-owners, IsSound-permutation, are_apart-sym}
use Rattle.lock_laws.proofs.Sounds.{IsSound-filter}
use Rattle.lock_laws.proofs.laws.soundness_has_no_order.Goals as goal

pub returns-clause-apart : goal.returns-clause-apart
returns-clause-apart c = are_apart-sym

pub returns-clause-order : goal.returns-clause-order
returns-clause-order c = IsSound-permutation

pub returns-clause-some : goal.returns-clause-some
returns-clause-some c = IsSound-filter

pub returns-clause-owners : goal.returns-clause-owners
returns-clause-owners c = λ owners xs distinct sound. IsSound-owners owners xs distinct sound
