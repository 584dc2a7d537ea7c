-- Values that are found by a name of their own.
use Rattle.std.specs.Prelude.{◌≡◌, ℕ, List}
use Rattle.std.specs.List.{AllByRecursion}

-- each value stands at its own name
abbrev pub AreNamed : {V : Type 0} → (V → List ℕ) → List (List ℕ × V) → Type 0
AreNamed name entries = AllByRecursion (λ e. e.0 ≡ name e.1) entries
