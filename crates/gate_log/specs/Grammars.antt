-- Records as bytes, and what they do to a state.
use Rattle.std.specs.Prelude.{◌≡◌, ℕ, ◌<◌, List, ◌++◌, get_or, Option, Some}

-- The name that a log begins with, the state without records, how a record is spelled, which records have a spelling,
-- which may follow a state, and the state after one.
pub record Grammar (R S : Type 0) : Type 1 where
  pub name : List ℕ
  pub first : S
  pub spelling : R → List ℕ
  pub is_record : R → Type 0
  pub is_legal : S → R → Type 0
  pub after : S → R → S

abbrev pub IsBytes : List ℕ → Type 0
IsBytes bytes = (i : ℕ) → get_or bytes i 0 < 256

-- what is read at the front is what is spelled there
pub record IsReader {R S : Type 0} (g : Grammar R S) (read : List ℕ → Option (R × List ℕ)) : Type 0 where
  pub takes : (bytes : List ℕ) (r : R) (rest : List ℕ) → IsBytes bytes → read bytes ≡ Some (r, rest)
      → (bytes ≡ g.spelling r ++ rest) × g.is_record r
  pub again : (r : R) (rest : List ℕ) → g.is_record r → read (g.spelling r ++ rest) ≡ Some (r, rest)
