-- Modes by their numbers.
use Rattle.std.proofs.Common.{◌≡◌, ℕ, ◌<◌, Bool, true, false, not, cond, eqb, nat_eq, Option, Some, None, refl, subst, arith}
use Rattle.std.proofs.lemmas.Bool.{eqb-true}
use Rattle.mode_rules.specs.Modes.{mode_number, mode_of, same_mode}
use Rattle.mode_rules.specs.declared.Mode.{Mode}
use Rattle.mode_rules.specs.declared.Mode.TheVariants.{S, E, X, O}

-- two modes are one where their numbers are
pub numbers_tell : (a b : Mode) → nat_eq (mode_number a) (mode_number b) ≡ same_mode a b
numbers_tell S S = refl
numbers_tell S E = refl
numbers_tell S X = refl
numbers_tell S O = refl
numbers_tell E S = refl
numbers_tell E E = refl
numbers_tell E X = refl
numbers_tell E O = refl
numbers_tell X S = refl
numbers_tell X E = refl
numbers_tell X X = refl
numbers_tell X O = refl
numbers_tell O S = refl
numbers_tell O E = refl
numbers_tell O X = refl
numbers_tell O O = refl

-- all but the optimistic mode have a number past 0
pub lasts : (m : Mode) → not (same_mode m O) ≡ true → 0 < mode_number m
lasts S h = omega arith
lasts E h = omega arith
lasts X h = omega arith
lasts O h = absurd (cc)

-- such a number is read again
pub again : (mode : Mode) (n : ℕ) → mode_number mode ≡ n → 0 < n → mode_of n ≡ Some mode
again S n told past = subst (λ (k : ℕ). mode_of k ≡ Some S) told refl
again E n told past = subst (λ (k : ℕ). mode_of k ≡ Some E) told refl
again X n told past = subst (λ (k : ℕ). mode_of k ≡ Some X) told refl
again O n told past = absurd (omega (arith, told, past))

some_is : (a b : Mode) → Some a ≡ Some b → a ≡ b
some_is a b e = cc

one_more : (P : Mode → Type 0) (n k : ℕ) (a m : Mode) (other : Option Mode) → (n ≡ k → P a) → (other ≡ Some m → P m)
    → cond (eqb n k) (Some a) other ≡ Some m → P m
one_more P n k a m other here there e =
    elim (eqb n k) as (λ (b : Bool). eqb n k ≡ b → cond b (Some a) other ≡ Some m → P m) [
      | true ↦ λ is e. subst P (some_is a m e) (here (eqb-true n k is))
      | false ↦ λ is e. there e
    ] refl e

-- and what is read is told by the number
pub read : (n : ℕ) (m : Mode) → mode_of n ≡ Some m → (n ≡ mode_number m) × (0 < mode_number m)
read n m e =
    let P : Mode → Type 0 = λ mode. (n ≡ mode_number mode) × (0 < mode_number mode) in
    one_more P n 1 S m _ (λ is. (is, omega arith)) (one_more P n 2 E m _ (λ is. (is, omega arith))
    (one_more P n 3 X m None (λ is. (is, omega arith)) (λ e. absurd cc))) e
