-- A batch of one change.
use Rattle.std.proofs.Common.{◌≡◌, ℕ, ◌≤◌, Bool, false, nat_eq, List, [], ◌∷◌, length, sym, subst, arith}
use Rattle.std.specs.List.{IsDistinct}
use Rattle.keeper_api.specs.declared.rows.Change.{Change}
use Rattle.keeper_api.specs.declared.rows.Change.TheVariants.{Put}
use Rattle.keeper_api.specs.Batch.{IsBatch}

long : (key : List ℕ) (b : Bool) → b ≡ nat_eq (length key) 0 → b ≡ false → 1 ≤ length key
long [] b test fails = cc
long (x ∷ key) b test fails = omega arith

pub one_put : (batch : List Change) (table : ℕ) (key own value : List ℕ) (b : Bool) → batch ≡ Put table key value ∷ [] → key ≡ own → b ≡ nat_eq (length own) 0
    → b ≡ false → IsBatch batch
unfolding IsDistinct
one_put batch table key own value b is same test fails =
    subst IsBatch (sym is) (record { keys = (subst (λ k. 1 ≤ length k) (sym same) (long own b test fails), tt); distinct = (tt, tt) })
