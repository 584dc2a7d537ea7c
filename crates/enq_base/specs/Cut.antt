-- Cutting bytes at the first of some byte.
use Rattle.std.specs.Prelude.{ℕ, Bool, not, nat_eq, List, [], ◌∷◌, if◌then◌else◌, Option, Some, None, option_map}
use Rattle.std.specs.List.{list_all}

-- one more byte in front
abbrev pub onto : ℕ → List ℕ × List ℕ → List ℕ × List ℕ
onto b x = (b ∷ x.0, x.1)

-- the bytes before the first c, and those behind it
unfoldable pub cut : ℕ → List ℕ → Option (List ℕ × List ℕ)
cut c [] = None
cut c (b ∷ bs) = if nat_eq b c then Some ([], bs) else option_map (onto b) (cut c bs)

-- none of the bytes is c
abbrev pub is_free : ℕ → List ℕ → Bool
is_free c bs = list_all (λ b. not (nat_eq b c)) bs
