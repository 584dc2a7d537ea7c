-- Lock arguments: the keys that fit one, and the arguments that meet.
use Rattle.std.specs.Prelude.{◌≡◌, ◌⊎◌, ℕ, Bool, not, ◌&&◌, ◌||◌, nat_eq, List, [], ◌∷◌, IsTrue}
use Rattle.std.specs.List.{list_all}
use Rattle.std.specs.Cmp.Lexicographic.{pointwise}
use Rattle.enq_base.specs.Grammar.{is_text_byte}

-- `@`, which stands for each byte
abbrev pub generic : ℕ
generic = 64

-- 0x20 to 0x7E without `@`
abbrev pub is_plain_byte : ℕ → Bool
is_plain_byte b = is_text_byte b && not (nat_eq b generic)

-- key and argument have one length, and at each place the argument is `@` or has the key's byte
abbrev pub Fits : (key argument : List ℕ) → Type 0
Fits [] [] = Unit {0}
Fits [] (p ∷ ps) = ⊥
Fits (k ∷ ks) [] = ⊥
Fits (k ∷ ks) (p ∷ ps) = ((p ≡ generic) ⊎ (p ≡ k)) × Fits ks ps

-- some key, of plain bytes, fits both arguments
pub record Meets (p q : List ℕ) : Type 0 where
  pub key : List ℕ
  pub plain : IsTrue (list_all is_plain_byte key)
  pub first : Fits key p
  pub second : Fits key q

-- the test of `Fits`
abbrev pub byte_fits : (key argument : ℕ) → Bool
byte_fits k p = nat_eq p generic || nat_eq p k

abbrev pub fits : (key argument : List ℕ) → Bool
fits key argument = pointwise byte_fits key argument

-- the bytes are equal, or one of them is `@`
abbrev pub bytes_meet : ℕ → ℕ → Bool
bytes_meet a b = nat_eq a b || (nat_eq a generic || nat_eq b generic)

-- the test of `Meets`: one length, and bytes that meet at each place
abbrev pub meets : List ℕ → List ℕ → Bool
meets p q = pointwise bytes_meet p q
