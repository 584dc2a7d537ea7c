-- The script's parts.
use Rattle.std.proofs.Common.{◌≡◌, ℕ, zero, suc, ◌+◌, ◌-◌, ◌^◌, false, List, [], ◌∷◌, ◌++◌, length, replicate, refl, sym, ap, ◌∙◌, arith, lit<, decimal, append_assoc, Result, Ok, Err}
use Rattle.std.specs.Prelude.{OnOk, codes, flat_map}
use Rattle.std.specs.List.{range_with_len}
use Rattle.std.specs.Fmt.{padded_integral, char_count, format_spec}
use Rattle.std.proofs.lemmas.List.{append-nil}
use Rattle.std.proofs.lemmas.List.Concat.{flat_map-append}
use Rattle.std.proofs.lemmas.Fmt.{decimal_digit}
use Rattle.load_gen.specs.Script.{line_text, lines_of_unit, logon_lines, order_digits, text_of, unit_lines}

-- what a width of ten with leading zeros writes
pub ten_digits : (n : ℕ) → padded_integral (format_spec 32 0 4 10 (2 ^ 64 - 1)) false [] (decimal n) ≡ order_digits n
unfolding padded_integral char_count
ten_digits n =
    let zeros : 10 - length (decimal n) - 0 - 0 ≡ 10 - length (decimal n) = omega arith in
    ap (λ p. replicate p 48 ++ (decimal n ++ [])) zeros ∙ ap (λ t. replicate (10 - length (decimal n)) 48 ++ t) (append-nil (decimal n))

pub logons_text : text_of logon_lines ≡ codes "S1 LOGON U1\nS2 LOGON U2\nS3 LOGON U3\nS4 LOGON U4\n"
unfolding line_text
logons_text = rw (decimal_digit 1 (lit< tt), decimal_digit 2 (lit< tt), decimal_digit 3 (lit< tt), decimal_digit 4 (lit< tt)) refl

last : (a k : ℕ) → range_with_len a (suc k) ≡ range_with_len a k ++ (a + k) ∷ []
last a zero = let e : a ≡ a + 0 = omega arith in ap (λ x. x ∷ []) e
last a (suc k) =
    let e : a + 1 + k ≡ a + suc k = omega arith in
    ap (λ xs. a ∷ xs) (last (a + 1) k ∙ ap (λ x. range_with_len (a + 1) k ++ x ∷ []) e)

counted : (k : ℕ) → range_with_len 1 (k + 1) ≡ range_with_len 1 k ++ (k + 1) ∷ []
counted k =
    let on : k + 1 ≡ suc k = omega arith in
    let next : 1 + k ≡ k + 1 = omega arith in
    ap (range_with_len 1) on ∙ last 1 k ∙ ap (λ x. range_with_len 1 k ++ x ∷ []) next

unit_more : (k : ℕ) → unit_lines (k + 1) ≡ unit_lines k ++ lines_of_unit (k + 1)
unit_more k =
    ap (flat_map lines_of_unit) (counted k) ∙ flat_map-append lines_of_unit (range_with_len 1 k) ((k + 1) ∷ [])
    ∙ ap (λ ls. unit_lines k ++ ls) (append-nil (lines_of_unit (k + 1)))

-- the lines of one unit more
pub one_more : (old before now : List ℕ) (k : ℕ) → before ≡ old ++ text_of (unit_lines k) → now ≡ before ++ text_of (lines_of_unit (k + 1))
    → now ≡ old ++ text_of (unit_lines (k + 1))
one_more old before now k so_far more =
    more ∙ ap (λ t. t ++ text_of (lines_of_unit (k + 1))) so_far ∙ append_assoc old (text_of (unit_lines k)) (text_of (lines_of_unit (k + 1)))
    ∙ ap (λ t. old ++ t) (sym (flat_map-append line_text (unit_lines k) (lines_of_unit (k + 1))) ∙ sym (ap text_of (unit_more k)))

-- parts of a text, one behind the other
pub in_turn : (x y z a b : List ℕ) → y ≡ x ++ a → z ≡ y ++ b → z ≡ x ++ (a ++ b)
in_turn x y z a b e f = f ∙ ap (λ t. t ++ b) e ∙ append_assoc x a b

pub weaker_ok : {A E : Type 0} {P Q : Type 0} (r : Result A E) → (P → Q) → OnOk r P → OnOk r Q
weaker_ok (Ok x) f h = f h
weaker_ok (Err e) f h = tt
