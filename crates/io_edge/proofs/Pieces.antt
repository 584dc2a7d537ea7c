-- What a read of the first bytes gives.
use Rattle.std.proofs.Common.{◌≡◌, ℕ, ◌+◌, ◌-◌, ◌<◌, min, List, [], ◌++◌, length, take, drop, sym, ap, ◌∙◌, arith}
use Rattle.std.proofs.lemmas.List.{take_all, length-take-le, take-append-le, take-append-drop, length-append, length-drop}
use Rattle.std.proofs.Math.ListN.{drop_of_length-le}

-- the first n bytes of l were copied over those of old
pub read_first : (l old new rest : List ℕ) (n : ℕ) → n ≡ min (length l) (length old) → new ≡ take n l ++ drop n old → rest ≡ drop n l → (l ≡ take n new ++ rest)
    × (n ≡ 0 → 0 < length new → rest ≡ [])
read_first l old new rest n count copied left =
    let fits : length (take n l) ≡ n = length-take-le n l (omega arith) in
    let front : take n new ≡ take n l = ap (take n) copied ∙ take-append-le n (take n l) (drop n old) (omega arith) ∙ take_all n (take n l) (omega arith) in
    let whole : l ≡ take n new ++ rest = sym (take-append-drop n l) ∙ ap (λ x. x ++ drop n l) (sym front) ∙ ap (λ x. take n new ++ x) (sym left) in
    let long : length new ≡ n + (length old - n) = ap length copied ∙ length-append (take n l) (drop n old) ∙ omega (arith, length-drop n old) in
    (whole, λ none some. left ∙ drop_of_length-le l {i = n} (omega arith))
