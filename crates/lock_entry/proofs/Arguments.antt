-- Tests of arguments by their bytes, and what they say of keys.
use Rattle.std.proofs.Common.{◌≡◌, ◌⊎◌, ℕ, List, [], ◌∷◌, Bool, true, cond, ◌&&◌, nat_eq, length, IsTrue, ap, refl, arith, inl, inr}
use Rattle.std.specs.List.{list_all, zip}
use Rattle.std.specs.Bool.{Decides}
use Rattle.std.specs.Cmp.Lexicographic.{pointwise}
use Rattle.std.proofs.lemmas.Bool.Decides.{nat_tests}
use Rattle.std.proofs.lemmas.Bool.{and_parts, and_from, or_cases, or_left, or_right, eqb-true, eq-eqb}
use Rattle.enq_base.specs.Grammar.{is_text_byte, is_pattern}
use Rattle.lock_entry.specs.Argument.{generic, is_plain_byte, byte_fits, fits, Fits, Meets, bytes_meet, meets}

-- at lists of one length the test of all pairs is the test place by place
pub pointwise-zip : (f : ℕ → ℕ → Bool) (xs ys : List ℕ) → length xs ≡ length ys → list_all (λ (p : ℕ × ℕ). f p.0 p.1) (zip xs ys) ≡ pointwise f xs ys
pointwise-zip f [] [] h = refl
pointwise-zip f [] (y ∷ ys) h = absurd (omega arith)
pointwise-zip f (x ∷ xs) [] h = absurd (omega arith)
pointwise-zip f (x ∷ xs) (y ∷ ys) h = let e : length xs ≡ length ys = omega arith in ap (λ (r : Bool). f x y && r) (pointwise-zip f xs ys e)

byte_fits-from : (k p : ℕ) → (p ≡ generic) ⊎ (p ≡ k) → byte_fits k p ≡ true
byte_fits-from k p (inl e) = or_left _ _ (eq-eqb p generic e)
byte_fits-from k p (inr e) = or_right (nat_eq p generic) _ (eq-eqb p k e)

byte_fits-parts : (k p : ℕ) → byte_fits k p ≡ true → (p ≡ generic) ⊎ (p ≡ k)
byte_fits-parts k p h =
    elim (or_cases (nat_eq p generic) (nat_eq p k) h) [
      | inl e ↦ inl (eqb-true p generic e)
      | inr e ↦ inr (eqb-true p k e)
    ]

fits-to : (key p : List ℕ) → fits key p ≡ true → Fits key p
fits-to [] [] h = tt
fits-to [] (x ∷ xs) h = absurd (cc)
fits-to (k ∷ ks) [] h = absurd (cc)
fits-to (k ∷ ks) (x ∷ xs) h = let hs = and_parts (byte_fits k x) (fits ks xs) h in (byte_fits-parts k x hs.0, fits-to ks xs hs.1)

fits-from : (key p : List ℕ) → Fits key p → fits key p ≡ true
fits-from [] [] h = refl
fits-from [] (x ∷ xs) h = absurd h
fits-from (k ∷ ks) [] h = absurd h
fits-from (k ∷ ks) (x ∷ xs) h = and_from (byte_fits k x) (fits ks xs) (byte_fits-from k x h.0) (fits-from ks xs h.1)

-- the test by bytes decides whether the key fits
pub fits-Decides : (key p : List ℕ) → Decides (fits key p) (Fits key p)
fits-Decides key p = (fits-to key p, fits-from key p)

-- a byte of a key that fits both bytes
abbrev common_byte : ℕ → ℕ → ℕ
common_byte a b = cond (nat_eq a 64) (cond (nat_eq b 64) 32 b) a

common_byte-cases : (a b : ℕ) → bytes_meet a b ≡ true → is_text_byte a ≡ true → is_text_byte b ≡ true → (byte_fits (common_byte a b) a ≡ true)
    × (byte_fits (common_byte a b) b ≡ true) × (is_plain_byte (common_byte a b) ≡ true)
common_byte-cases a b m ta tb = grind (arith, nat_tests)

common_key : (p q : List ℕ) → meets p q ≡ true → list_all is_text_byte p ≡ true → list_all is_text_byte q ≡ true → Meets p q
common_key [] [] m tp tq = record { key = []; plain = refl; first = tt; second = tt }
common_key [] (y ∷ ys) m tp tq = absurd (cc)
common_key (x ∷ xs) [] m tp tq = absurd (cc)
common_key (a ∷ p) (b ∷ q) m tp tq =
    let ms = and_parts (bytes_meet a b) (meets p q) m in
    let ps = and_parts (is_text_byte a) (list_all is_text_byte p) tp in
    let qs = and_parts (is_text_byte b) (list_all is_text_byte q) tq in
    let here = common_byte-cases a b ms.0 ps.0 qs.0 in
    let rest = common_key p q ms.1 ps.1 qs.1 in
    record {
      key = common_byte a b ∷ rest.key;
      plain = and_from _ _ here.2 rest.plain;
      first = (byte_fits-parts (common_byte a b) a here.0, rest.first);
      second = (byte_fits-parts (common_byte a b) b here.1, rest.second);
    }

-- two bytes that one key's byte fits meet
bytes_meet-fits : (k a b : ℕ) → byte_fits k a ≡ true → byte_fits k b ≡ true → bytes_meet a b ≡ true
bytes_meet-fits k a b h g = grind (arith, nat_tests)

meets-fits : (key p q : List ℕ) → Fits key p → Fits key q → meets p q ≡ true
meets-fits [] [] [] f g = refl
meets-fits [] (y ∷ ys) q f g = absurd f
meets-fits [] [] (y ∷ ys) f g = absurd g
meets-fits (k ∷ ks) [] q f g = absurd f
meets-fits (k ∷ ks) (y ∷ ys) [] f g = absurd g
meets-fits (k ∷ ks) (a ∷ p) (b ∷ q) f g =
    and_from (bytes_meet a b) (meets p q) (bytes_meet-fits k a b (byte_fits-from k a f.0) (byte_fits-from k b g.0)) (meets-fits ks p q f.1 g.1)

text_bytes : (p : List ℕ) → IsTrue (is_pattern p) → list_all is_text_byte p ≡ true
text_bytes p h = (and_parts _ _ (and_parts _ _ h).0).0

-- the test by bytes decides whether some key fits both
pub meets-Decides : (p q : List ℕ) → IsTrue (is_pattern p) → IsTrue (is_pattern q) → Decides (meets p q) (Meets p q)
meets-Decides p q hp hq = (
  λ h. common_key p q h (text_bytes p hp) (text_bytes q hq),
  λ (m : Meets p q). meets-fits m.key p q m.first m.second,
)
