-- A vector whose elements were lent and came back.
use Rattle.std.proofs.Common.{◌≡◌, ℕ, List, ◌++◌, length, take, drop, sym, ap, ◌∙◌}
use Rattle.std.proofs.Math.Seq.{take-append_seam}

pub refilled : {X : Type 0} (n : ℕ) (now was : List X) → length now ≡ n → take n (now ++ drop (length now) was) ≡ now
refilled n now was long = ap (λ m. take m (now ++ drop (length now) was)) (sym long) ∙ take-append_seam now (drop (length now) was)
