-- Numbers in decimal, read and spelled.
use Rattle.std.proofs.Common.{◌≡◌, ◌≢◌, ℕ, zero, suc, ◌<◌, ◌≤◌, ◌^◌, Bool, true, false, ◌&&◌, ◌||◌, List, [], ◌∷◌, ◌++◌, length, get_or, refl, sym, ap, ◌∙◌, subst, Option, Some, None, Result, Ok, Err, arith, rules, ltb, lit<, decimal, nat_eq, not, if◌then◌else◌}
use Rattle.std.specs.Prelude.{IfSome, IfNone, nat_lt, nat_le, option_and_then}
use Rattle.std.specs.List.{list_all}
use Rattle.std.specs.Result.{result_ok}
use Rattle.std.specs.Str.{IsUtf8}
use Rattle.std.specs.Str.Parse.{digits_value, ParsesUnsigned}
use Rattle.std.proofs.lemmas.Bool.{and_parts, and_from, lt-ltb, ltb-true, leb-true, le-leb, false_from_ne_true, not-true, eq-eqb, ne_eqb}
use Rattle.std.proofs.lemmas.Bool.Decides.{nat_tests}
use Rattle.std.proofs.lemmas.Str.{IsUtf8-from_ascii}
use Rattle.std.proofs.lemmas.Fmt.{IsAscii-from_digits, decimal-digits_value, digits_value-decimal, digits_decimal, first_decimal, decimal_digit}
use Rattle.std.proofs.lemmas.Str.Parse.{IsNumeralModel, numerals_by_value, parse_digits}
use Rattle.enq_base.specs.Cut.{cut, is_free}
use Rattle.enq_base.specs.Grammar.{is_digit}
use Rattle.enq_base.specs.Number.{is_numeral, number_of, in_count, count_of, unit_key_of, IsCount, IsUnitKey}
use Rattle.enq_base.specs.Text.{unit_text}
use Rattle.enq_base.specs.declared.owner.UnitKey.{UnitKey}
use Rattle.enq_base.proofs.lemmas.Cuts.{IsCut, cut_takes, cut_again}

pub digits_model : IsNumeralModel (λ ds. list_all is_digit ds ≡ true) (digits_value 10)
digits_model = numerals_by_value _ (search rules)

-- a numeral is not empty, and its bytes are digits
pub numeral_digits : (text : List ℕ) → is_numeral text ≡ true → (list_all is_digit text ≡ true) × (0 < length text)
numeral_digits [] h = cc
numeral_digits (b ∷ bs) h = ((and_parts _ _ h).1, omega arith)

-- a 0 in front stands alone
numeral_lead : (text : List ℕ) → is_numeral text ≡ true → get_or text 0 0 ≡ 48 → length text ≡ 1
numeral_lead [] h e = cc
numeral_lead (b ∷ []) h e = omega arith
numeral_lead (b ∷ c ∷ bs) h e =
    let p = and_parts (false || not (nat_eq b 48)) (list_all is_digit (b ∷ c ∷ bs)) h in
    let differs : nat_eq b 48 ≡ false = not-true (nat_eq b 48) p.0 in
    let same : nat_eq b 48 ≡ true = eq-eqb b 48 e in
    cc

pub numeral_utf8 : (text : List ℕ) → is_numeral text ≡ true → IsUtf8 text
numeral_utf8 text h = IsUtf8-from_ascii text (IsAscii-from_digits text (digits_model.to text (numeral_digits text h).0))

-- what parsing a numeral gives
pub parsed_number : {E : Type 0} (text : List ℕ) (r : Result ℕ E) → is_numeral text ≡ true → ParsesUnsigned 64 10 text r → result_ok r ≡ number_of text
unfolding number_of
parsed_number {E} text (Ok n) h p =
    let d = numeral_digits text h in
    let q = parse_digits digits_model {E = E} 64 text (Ok n) p d.0 in
    let small = lt-ltb _ _ q.0.1 in
    rw (h, small, q.1) refl
parsed_number {E} text (Err e) h p =
    let d = numeral_digits text h in
    let q = parse_digits digits_model {E = E} 64 text (Err e) p d.0 in
    let large : ltb (digits_value 10 text) (2 ^ 64) ≡ false = false_from_ne_true _ (λ s. q (d.1, ltb-true _ _ s)) in
    rw (h, large) refl

test_then : {B : Type 0} (b : Bool) (x : Option B) (P : B → Type 0) → (b ≡ true → IfSome x P) → IfSome (if b then x else None) P
test_then true x P h = h refl
test_then false x P h = tt

bind_if : {A B : Type 0} {Q : A → Type 0} (f : A → Option B) (P : B → Type 0) (o : Option A) → IfSome o Q → ((x : A) → Q x → IfSome (f x) P)
    → IfSome (option_and_then f o) P
bind_if f P None q h = tt
bind_if f P (Some x) q h = h x q

-- what is read as a number is its spelling
pub number_if : (text : List ℕ) → IfSome (number_of text) (λ n. (n < 2 ^ 64) × (text ≡ decimal n))
unfolding number_of
number_if text =
    test_then (is_numeral text && nat_lt (digits_value 10 text) (2 ^ 64)) (Some (digits_value 10 text)) (λ n. (n < 2 ^ 64) × (text ≡ decimal n)) (λ e.
    let p = and_parts (is_numeral text) (nat_lt (digits_value 10 text) (2 ^ 64)) e in
    let small : digits_value 10 text < 2 ^ 64 = ltb-true _ _ p.1 in
    let d = numeral_digits text p.0 in
    (small, sym (decimal-digits_value digits_model text d.0 d.1 (numeral_lead text p.0) small)))

numeral_from : (text : List ℕ) → list_all is_digit text ≡ true → 48 < get_or text 0 0 → is_numeral text ≡ true
numeral_from [] h k = absurd (omega arith)
numeral_from (b ∷ []) h k = h
numeral_from (b ∷ c ∷ bs) h k =
    let differs : nat_eq b 48 ≡ false = ne_eqb b 48 (λ e. absurd (omega arith)) in
    and_from (false || not (nat_eq b 48)) (list_all is_digit (b ∷ c ∷ bs)) (ap not differs) h

pub numeral_decimal : (n : ℕ) → n < 2 ^ 64 → is_numeral (decimal n) ≡ true
numeral_decimal zero h = rw (decimal_digit 0 (lit< tt)) refl
numeral_decimal (suc n) h = numeral_from (decimal (suc n)) (digits_decimal digits_model (suc n) h) (first_decimal (suc n) (omega arith) h)

-- a number's spelling is read as the number
pub number_again : (n : ℕ) → n < 2 ^ 64 → number_of (decimal n) ≡ Some n
unfolding number_of
number_again n h =
    let v : digits_value 10 (decimal n) ≡ n = digits_value-decimal digits_model n h in
    let small = lt-ltb n (2 ^ 64) h in
    rw (numeral_decimal n h, v, small) refl

pub count_if : (text : List ℕ) → IfSome (count_of text) (λ n. IsCount n × (text ≡ decimal n))
unfolding count_of
count_if text =
    bind_if in_count _ (number_of text) (number_if text) (λ n h.
    test_then (nat_le 1 n && nat_le n 4294967295) (Some n) (λ m. IsCount m × (text ≡ decimal m)) (λ e.
    let p = and_parts (nat_le 1 n) (nat_le n 4294967295) e in
    let least : 1 ≤ n = leb-true 1 n p.0 in
    let most : n ≤ 4294967295 = leb-true n 4294967295 p.1 in
    ((least, omega arith), h.1)))

pub count_again : (n : ℕ) → IsCount n → count_of (decimal n) ≡ Some n
unfolding count_of
count_again n h =
    let least = le-leb 1 n h.0 in
    let most = le-leb n 4294967295 (omega (arith, h.1)) in
    rw (number_again n (omega (arith, h.1)), least, most) refl

weaker_if : {A : Type 0} (P Q : A → Type 0) (o : Option A) → IfSome o P → ((x : A) → P x → Q x) → IfSome o Q
weaker_if P Q None h k = tt
weaker_if P Q (Some x) h k = k x h

cut_if : (c : ℕ) (bs : List ℕ) → IfSome (cut c bs) (IsCut c bs)
cut_if c bs = elim (cut c bs) as (λ o. ((x : List ℕ × List ℕ) → o ≡ Some x → IsCut c bs x) → IfSome o (IsCut c bs)) [ None ↦ λ h. tt | Some x ↦ λ h. h x refl ]
    (λ x e. cut_takes c bs x e)

cut_then : {B : Type 0} (c : ℕ) (bs : List ℕ) (f : List ℕ × List ℕ → Option B) (P : B → Type 0) → ((x : List ℕ × List ℕ) → IsCut c bs x → IfSome (f x) P)
    → IfSome (option_and_then f (cut c bs)) P
cut_then c bs f P h = bind_if f P (cut c bs) (cut_if c bs) h

joined : (text : List ℕ) (start session luw : ℕ) (a b : List ℕ × List ℕ) → text ≡ a.0 ++ 46 ∷ a.1 → a.1 ≡ b.0 ++ 46 ∷ b.1 → a.0 ≡ decimal start
    → b.0 ≡ decimal session → b.1 ≡ decimal luw → text ≡ unit_text (record { start = start; session = session; luw = luw })
joined text start session luw a b e f p q r = cc

-- what is read as a unit key is its spelling
pub unit_key_if : (text : List ℕ) → IfSome (unit_key_of text) (λ unit. IsUnitKey unit × (text ≡ unit_text unit))
unfolding unit_key_of
unit_key_if text =
    cut_then 46 text _ _ (λ a ha. cut_then 46 a.1 _ _ (λ b hb.
    bind_if _ _ (count_of a.0) (count_if a.0)
    (λ start p. bind_if _ _ (count_of b.0) (count_if b.0) (λ session q. bind_if _ _ (count_of b.1) (count_if b.1) (λ luw r.
    ((p.0, q.0, r.0), joined text start session luw a b ha.whole hb.whole p.1 q.1 r.1))))))

digit_dotless : (b : ℕ) → is_digit b ≡ true → not (nat_eq b 46) ≡ true
digit_dotless b h = grind (arith, nat_tests)

dotless : (bs : List ℕ) → list_all is_digit bs ≡ true → is_free 46 bs ≡ true
dotless [] e = refl
dotless (b ∷ bs) e = let t = and_parts (is_digit b) (list_all is_digit bs) e in and_from _ _ (digit_dotless b t.0) (dotless bs t.1)

decimal_dotless : (n : ℕ) → n < 2 ^ 64 → is_free 46 (decimal n) ≡ true
decimal_dotless n h = dotless (decimal n) (digits_decimal digits_model n h)

-- a unit key's spelling is read as the key
pub unit_key_again : (unit : UnitKey) → IsUnitKey unit → unit_key_of (unit_text unit) ≡ Some unit
unfolding unit_key_of
unit_key_again unit h =
    let s = cut_again 46 (decimal unit.start) (decimal unit.session ++ 46 ∷ decimal unit.luw) (decimal_dotless unit.start (omega (arith, h.0.1))) in
    let r = cut_again 46 (decimal unit.session) (decimal unit.luw) (decimal_dotless unit.session (omega (arith, h.1.1))) in
    rw (s, r, count_again unit.start h.0, count_again unit.session h.1, count_again unit.luw h.2) refl

-- where nothing is read, the text spells nothing
pub unread : {A : Type 0} (read : List ℕ → Option A) (spelling : A → List ℕ) (P : A → Type 0) (text : List ℕ) → ((x : A) → P x → read (spelling x) ≡ Some x)
    → read text ≡ None → (x : A) → P x → text ≢ spelling x
unread read spelling P text again none x h e =
    let some : read text ≡ Some x = ap read e ∙ again x h in cc

-- what a function answers, where it answers what reading gives
pub if_read : {A : Type 0} (P Q : A → Type 0) (r o : Option A) → r ≡ o → IfSome o P → ((x : A) → P x → Q x) → IfSome r Q
if_read P Q r o e h k = subst (λ x. IfSome x Q) (sym e) (weaker_if P Q o h k)

pub if_none : {A : Type 0} (F : Type 0) (r : Option A) → (r ≡ None → F) → IfNone r F
if_none F None h = h refl
if_none F (Some x) h = tt
