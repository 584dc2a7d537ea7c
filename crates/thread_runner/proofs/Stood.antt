-- A worker's calls at the last desk, and one deed of many.
use Rattle.std.proofs.Common.{◌≡◌, ℕ, zero, suc, ◌<◌, Bool, List, [], ◌∷◌, ◌++◌, length, take, drop, get_or, refl, sym, ap, arith, slice_set}
use Rattle.order_workers.specs.Orders.{DidWork, Leads, Made, Stays, Then}

module _ {K L : Type 0} (f : K → L) (p : K → Made → K → Type 0) (q : L → Made → L → Type 0) (h : (k : K) (m : Made) (l : K) → p k m l → q (f k) m (f l)) where
  leads_stood : (k l : K) (calls : List Made) → Leads p k calls l → Leads q (f k) calls (f l)
  leads_stood k l calls (Stays x) = Stays (f k)
  leads_stood k l calls (Then x m y cs c done more) = Then (f k) (f m) (f l) cs c (leads_stood k m cs done) (h m c l more)

  pub work_stood : (w : ℕ) (rests : Bool) (k l : K) → DidWork p w rests k l → DidWork q w rests (f k) (f l)
  work_stood w rests k l d = (d.0, leads_stood k l d.0 d.1, d.2)

pub split_at : {X : Type 0} (xs : List X) (i : ℕ) (x : X) → i < length xs → x ≡ get_or xs i x → xs ≡ take i xs ++ x ∷ drop (suc i) xs
split_at [] i x lt is = absurd (omega (arith, lt))
split_at (y ∷ xs) zero x lt is = λ k. sym is k ∷ xs
split_at (y ∷ xs) (suc i) x lt is = ap (λ l. y ∷ l) (split_at xs i x (omega (arith, lt)) is)

pub set_at : {X : Type 0} (xs : List X) (i : ℕ) (x : X) → i < length xs → slice_set xs i x ≡ take i xs ++ x ∷ drop (suc i) xs
set_at [] i x lt = absurd (omega (arith, lt))
set_at (y ∷ xs) zero x lt = refl
set_at (y ∷ xs) (suc i) x lt = ap (λ l. y ∷ l) (set_at xs i x (omega (arith, lt)))
