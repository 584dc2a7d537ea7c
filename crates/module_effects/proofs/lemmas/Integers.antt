-- A number in decimal is a text.
use Rattle.std.proofs.Common.{◌≡◌, ℕ, ◌+◌, ◌<◌, ◌≤◌, ◌^◌, ◌%◌, zero, suc, Bool, true, false, ◌&&◌, nat_le, List, [], ◌∷◌, ◌++◌, length, get_or, drop, lit<, refl, sym, ap, ◌∙◌, Option, Some, None, arith, ℤ, pos, negsuc}
use Rattle.std.specs.Fmt.{decimal, signed_decimal}
use Rattle.std.specs.List.{list_all}
use Rattle.std.specs.Prelude.{IsTrue, IfNone}
use Rattle.std.proofs.lemmas.Bool.{ltb-true}
use Rattle.std.proofs.lemmas.Fmt.{decimal_by_steps, decimal_nonempty, decimal_digit, decimal_injective, first_decimal, length_signed_le}
use Rattle.module_effects.specs.Integers.{is_i64}
use Rattle.std.proofs.lemmas.Bool.Decides.{nat_tests}
use Rattle.enq_base.specs.Grammar.{is_text_byte}
use Rattle.enq_base.specs.TextFaults.{has_text_length}
use lib.Signed.{mag}

and_second : (a b : Bool) → (a && b) ≡ true → b ≡ true
and_second true b h = h
and_second false b h = cc

list_all-push : (ds : List ℕ) (d : ℕ) → list_all is_text_byte ds ≡ true → is_text_byte d ≡ true → list_all is_text_byte (ds ++ d ∷ []) ≡ true
list_all-push [] d h t = ap (λ b. b && true) t
list_all-push (x ∷ ds) d h t =
    let rest : list_all is_text_byte ds ≡ true = and_second (is_text_byte x) (list_all is_text_byte ds) h in
    ap (λ b. is_text_byte x && b) (list_all-push ds d rest t ∙ sym rest) ∙ h

text_digit : (n : ℕ) → n < 10 → is_text_byte (48 + n) ≡ true
text_digit n h = grind (arith, nat_tests)

decimal_text : (n : ℕ) → n < 2 ^ 64 → list_all is_text_byte (decimal n) ≡ true
decimal_text = decimal_by_steps (λ n ds. list_all is_text_byte ds ≡ true) (λ n h. list_all-push [] (48 + n) refl (text_digit n h))
    (λ n ds h so. list_all-push ds (48 + n % 10) so (text_digit (n % 10) (omega arith)))

pub integer_bytes : (z : ℤ) → mag z < 2 ^ 63 → list_all is_text_byte (signed_decimal z) ≡ true
integer_bytes (pos n) h = decimal_text n (omega arith)
integer_bytes (negsuc n) h = decimal_text (suc n) (omega arith)

mag_below : (z : ℤ) → IsTrue (is_i64 z) → mag z < 2 ^ 63
mag_below (pos n) h = ltb-true _ _ h
mag_below (negsuc n) h = ltb-true _ _ h

minus_zero : (digits : List ℕ) → 45 ∷ digits ≡ decimal 0 → ⊥
minus_zero digits e = absurd (omega (arith, ap (λ (t : List ℕ). get_or t 0 0) (e ∙ decimal_digit 0 (lit< tt))))

some_byte : (z : ℤ) → mag z < 2 ^ 63 → 1 ≤ length (signed_decimal z)
some_byte (pos n) h = decimal_nonempty n (omega arith)
some_byte (negsuc n) h = omega arith

length_fits : (n : ℕ) → 1 ≤ n → n ≤ 512 → (nat_le 1 n && nat_le n 512) ≡ true
length_fits n low high = grind (arith, nat_tests)

pub integer_length : (z : ℤ) → mag z < 2 ^ 63 → has_text_length (signed_decimal z) ≡ true
integer_length z h =
    let short : length (signed_decimal z) ≤ 20 + 1 = length_signed_le 20 z (omega arith) h in
    length_fits _ (some_byte z h) (omega arith)

-- a text spells one number alone
pub same_number : (text : List ℕ) (m n : ℕ) → m < 2 ^ 64 → n < 2 ^ 64 → text ≡ decimal m → text ≡ decimal n → m ≡ n
same_number text m n small below a b = decimal_injective m n small below (sym a ∙ b)

pub not_empty : (text : List ℕ) (z : ℤ) → length text < 1 → IsTrue (is_i64 z) → text ≡ signed_decimal z → ⊥
not_empty text z short fits is = absurd (omega (arith, some_byte z (mag_below z fits), ap length is))

-- behind a sign stands a number from 1 to 2^63
not_negative : (text digits : List ℕ) (z : ℤ) → text ≡ 45 ∷ digits → ((n : ℕ) → 1 ≤ n → n ≤ 2 ^ 63 → digits ≡ decimal n → ⊥) → IsTrue (is_i64 z)
    → text ≡ signed_decimal z → ⊥
not_negative text digits (pos zero) signed none fits is = absurd (minus_zero digits (sym signed ∙ is))
not_negative text digits (pos (suc n)) signed none fits is =
    let below : suc n < 2 ^ 63 = mag_below (pos (suc n)) fits in
    let first : 48 < get_or (decimal (suc n)) 0 0 = first_decimal (suc n) (omega arith) (omega arith) in
    absurd (omega (arith, ap (λ (t : List ℕ). get_or t 0 0) (sym signed ∙ is)))
not_negative text digits (negsuc n) signed none fits is =
    let below : n < 2 ^ 63 = mag_below (negsuc n) fits in
    none (suc n) (omega arith) (omega arith) (ap (drop 1) (sym signed ∙ is))

first_and_rest : (text digits : List ℕ) → 1 ≤ length text → digits ≡ drop 1 text → text ≡ get_or text 0 0 ∷ digits
first_and_rest [] digits some rest = absurd (omega arith)
first_and_rest (b ∷ bs) digits some rest = ap (λ (t : List ℕ). b ∷ t) (sym rest)

pub none_negative : (r : Option ℤ) (text digits : List ℕ) → 1 ≤ length text → get_or text 0 0 ≡ 45 → digits ≡ drop 1 text
    → IfNone r ((n : ℕ) → 1 ≤ n → n ≤ 2 ^ 63 → digits ≡ decimal n → ⊥)
    → IfNone r ((z : ℤ) → IsTrue (is_i64 z) → text ≡ signed_decimal z → ⊥)
none_negative None text digits some first rest none = λ z fits is. not_negative text digits z
    (first_and_rest text digits some rest ∙ ap (λ b. b ∷ digits) first) none fits is
none_negative (Some z) text digits some first rest none = tt
