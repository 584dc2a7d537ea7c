-- The records of a table are those of rows whose keys rise: each is of the table, and no two have one key.
use Rattle.std.proofs.Common.{◌≡◌, ℕ, zero, suc, ◌+◌, ◌*◌, ◌%◌, ◌^◌, ◌<◌, ◌≤◌, ◌⊎◌, inl, inr, Bool, true, false, cond, List, [], ◌∷◌, ◌++◌, length, get_or, refl, sym, ap, subst, ◌∙◌, arith}
use Rattle.std.proofs.Math.Nat.{mod-eq_of_lt, mul-le-mul_right, one-le-pow}
use Rattle.std.specs.Cmp.{nat_cmp_total}
use Rattle.std.specs.Cmp.Lexicographic.{slice_cmp, nat_list_cmp_total}
use Rattle.std.specs.Int.{byte_at, bytes_high_first}
use Rattle.std.specs.List.{AllByRecursion, Contains, filter, list_any}
use Rattle.std.specs.Ordering.{nat_cmp, ordering_then, ordering_reverse, is_lt}
use Rattle.std.specs.declared.cmp.Ordering.{Ordering}
use Rattle.std.specs.declared.cmp.Ordering.TheVariants.{Less, Equal, Greater}
use Rattle.std.proofs.lemmas.Cmp.{ranked}
use Rattle.std.proofs.lemmas.Bool.{or_cases, or_left, or_right}
use Rattle.byteorder.specs.Endian.{big_bytes}
use Rattle.byteorder.specs.Numbers.{big_from-bytes, big_from-cons}
use Rattle.keeper_api.specs.declared.rows.Change.{Change}
use Rattle.keeper_api.specs.declared.rows.Row.{Row}
use Rattle.keeper_api.specs.Batch.{spot_of}
use Rattle.keeper_api.specs.Rows.{RiseFrom, is_below}
use Rattle.update_records.specs.Spelling.{IsRecord, record_row}
use Rattle.update_records.specs.declared.stored.Record.{Record}
use Rattle.store_reading.specs.Told.{IsTableRead, SpellEach}

-- ---- members

-- x is one of the elements
abbrev pub In : {X : Type 0} → List X → X → Type 0
In [] x = ⊥
In (y ∷ ys) x = (y ≡ x) ⊎ In ys x

pub in_all : {X : Type 0} (P : X → Type 0) (xs : List X) (x : X) → AllByRecursion P xs → In xs x → P x
in_all P [] x all h = absurd h
in_all P (y ∷ ys) x all (inl e) = subst P e all.0
in_all P (y ∷ ys) x all (inr h) = in_all P ys x all.1 h

pub all_weaker : {X : Type 0} (P Q : X → Type 0) → ((x : X) → P x → Q x) → (xs : List X) → AllByRecursion P xs → AllByRecursion Q xs
all_weaker P Q f [] all = tt
all_weaker P Q f (x ∷ xs) all = (f x all.0, all_weaker P Q f xs all.1)

pub contains_in : {X : Type 0} (xs : List X) (x : X) → In xs x → Contains xs x
contains_in [] x h = absurd h
contains_in (y ∷ ys) x (inl e) = (zero, omega arith, e)
contains_in (y ∷ ys) x (inr h) = let rest = contains_in ys x h in (suc rest.0, omega (arith, rest.1), rest.2)

in_at : {X : Type 0} (xs : List X) (x : X) (k : ℕ) → k < length xs → get_or xs k x ≡ x → In xs x
in_at [] x k low is = absurd (omega arith)
in_at (y ∷ ys) x zero low is = inl is
in_at (y ∷ ys) x (suc k) low is = inr (in_at ys x k (omega arith) is)

pub in_contains : {X : Type 0} (xs : List X) (x : X) → Contains xs x → In xs x
in_contains xs x h = in_at xs x h.0 h.1 h.2

pub in_left : {X : Type 0} (xs ys : List X) (x : X) → In xs x → In (xs ++ ys) x
in_left [] ys x h = absurd h
in_left (y ∷ xs) ys x (inl e) = inl e
in_left (y ∷ xs) ys x (inr h) = inr (in_left xs ys x h)

pub in_right : {X : Type 0} (xs ys : List X) (x : X) → In ys x → In (xs ++ ys) x
in_right [] ys x h = h
in_right (y ∷ xs) ys x h = inr (in_right xs ys x h)

pub in_either : {X : Type 0} (xs ys : List X) (x : X) → In (xs ++ ys) x → In xs x ⊎ In ys x
in_either [] ys x h = inr h
in_either (y ∷ xs) ys x (inl e) = inl (inl e)
in_either (y ∷ xs) ys x (inr h) = elim (in_either xs ys x h) as (λ _. In (y ∷ xs) x ⊎ In ys x) [ inl a ↦ inl (inr a) | inr b ↦ inr b ]

pub any_in : {X : Type 0} (test : X → Bool) (xs : List X) → list_any test xs ≡ true → (x : X) × In xs x × (test x ≡ true)
any_in test [] h = cc
any_in test (x ∷ xs) h = elim (or_cases (test x) (list_any test xs) h) as (λ _. (y : _) × In (x ∷ xs) y × (test y ≡ true)) [
  | inl e ↦ (x, inl refl, e)
  | inr e ↦ let rest = any_in test xs e in (rest.0, inr rest.1, rest.2)
]

pub in_any : {X : Type 0} (test : X → Bool) (xs : List X) (x : X) → In xs x → test x ≡ true → list_any test xs ≡ true
in_any test [] x h is = absurd h
in_any test (y ∷ ys) x (inl e) is = or_left (test y) (list_any test ys) (ap test e ∙ is)
in_any test (y ∷ ys) x (inr h) is = or_right (test y) (list_any test ys) (in_any test ys x h is)

filter_step : {X : Type 0} (test : X → Bool) (xs : List X) (x y : X) (b : Bool) → test y ≡ b → (In (filter test xs) x → In xs x × (test x ≡ true))
    → In (cond b (y ∷ filter test xs) (filter test xs)) x → In (y ∷ xs) x × (test x ≡ true)
filter_step test xs x y true is rest (inl e) = (inl e, ap test (sym e) ∙ is)
filter_step test xs x y true is rest (inr h) = let both = rest h in (inr both.0, both.1)
filter_step test xs x y false is rest h = let both = rest h in (inr both.0, both.1)

-- an element of a filter is one of the list, and passes
pub filter_in : {X : Type 0} (test : X → Bool) (xs : List X) (x : X) → In (filter test xs) x → In xs x × (test x ≡ true)
filter_in test [] x h = absurd h
filter_in test (y ∷ ys) x h = filter_step test ys x y (test y) refl (filter_in test ys x) h

pub in_filter : {X : Type 0} (test : X → Bool) (xs : List X) (x : X) → In xs x → test x ≡ true → In (filter test xs) x
in_filter test [] x h is = absurd h
in_filter test (y ∷ ys) x (inl e) is = subst (λ b. In (cond b (y ∷ filter test ys) (filter test ys)) x) (sym (ap test e ∙ is)) (inl e)
in_filter test (y ∷ ys) x (inr h) is =
    elim (test y) as (λ b. In (cond b (y ∷ filter test ys) (filter test ys)) x) [ true ↦ inr (in_filter test ys x h is) | false ↦ in_filter test ys x h is ]

pub all_filter : {X : Type 0} (P : X → Type 0) (test : X → Bool) (xs : List X) → AllByRecursion P xs → AllByRecursion P (filter test xs)
all_filter P test [] all = tt
all_filter P test (x ∷ xs) all =
    elim (test x) as (λ b. AllByRecursion P (cond b (x ∷ filter test xs) (filter test xs)))
    [ true ↦ (all.0, all_filter P test xs all.1) | false ↦ all_filter P test xs all.1 ]

-- ---- keys in order

less_of : (o : Ordering) → is_lt o ≡ true → o ≡ Less
less_of Less h = refl
less_of Equal h = cc
less_of Greater h = cc

below_trans : (a b c : List ℕ) → is_below a b ≡ true → is_below b c ≡ true → is_below a c ≡ true
below_trans a b c h k = ap is_lt (nat_list_cmp_total.trans a b c (less_of (slice_cmp nat_cmp a b) h) (less_of (slice_cmp nat_cmp b c) k))

same_reverse : (o : Ordering) → o ≡ ordering_reverse o → o ≡ Equal
same_reverse Less h = cc
same_reverse Equal h = refl
same_reverse Greater h = cc

not_below_itself : (a : List ℕ) → is_below a a ≡ true → ⊥
not_below_itself a h = let same = same_reverse (slice_cmp nat_cmp a a) (nat_list_cmp_total.antisymm a a) in let less = less_of (slice_cmp nat_cmp a a) h in cc

cmp_itself : (n : ℕ) → nat_cmp n n ≡ Equal
cmp_itself n = same_reverse (nat_cmp n n) (nat_cmp_total.antisymm n n)

-- what stands in front of both keys doesn't count
pub below_behind : (front a b : List ℕ) → is_below (front ++ a) (front ++ b) ≡ is_below a b
below_behind [] a b = refl
below_behind (x ∷ front) a b = ap (λ o. is_lt (ordering_then o (slice_cmp nat_cmp (front ++ a) (front ++ b)))) (cmp_itself x) ∙ below_behind front a b

first_byte : (n x : ℕ) → x % 256 ^ suc n ≡ byte_at n x * 256 ^ n + x % 256 ^ n
first_byte n x =
    sym (big_from-bytes (suc n) x [])
    ∙ ap (λ r. byte_at n x * 256 ^ n + r) (big_from-cons 0 n (byte_at n x) (bytes_high_first n x ++ []) ∙ big_from-bytes n x [])

bytes_step : (n x y a b : ℕ) (o : Ordering) → o ≡ nat_cmp a b
    → (slice_cmp nat_cmp (bytes_high_first n x) (bytes_high_first n y) ≡ Less → x % 256 ^ n < y % 256 ^ n)
    → ordering_then o (slice_cmp nat_cmp (bytes_high_first n x) (bytes_high_first n y)) ≡ Less → a * 256 ^ n + x % 256 ^ n < b * 256 ^ n + y % 256 ^ n
bytes_step n x y a b Less is rest h =
    let low : a < b = ranked a b Less is in
    let more : (a + 1) * 256 ^ n ≤ b * 256 ^ n = mul-le-mul_right (256 ^ n) (omega arith) in
    let some = one-le-pow n 256 (omega arith) in
    let one : (a + 1) * 256 ^ n ≡ a * 256 ^ n + 256 ^ n = omega arith in
    omega arith
bytes_step n x y a b Equal is rest h =
    let same : a ≡ b = ranked a b Equal is in
    let low = rest h in
    let product : a * 256 ^ n ≡ b * 256 ^ n = ap (λ k. k * 256 ^ n) same in
    omega arith
bytes_step n x y a b Greater is rest h = cc

bytes_rise : (n x y : ℕ) → slice_cmp nat_cmp (bytes_high_first n x) (bytes_high_first n y) ≡ Less → x % 256 ^ n < y % 256 ^ n
bytes_rise zero x y h = cc
bytes_rise (suc n) x y h =
    let low = bytes_step n x y (byte_at n x) (byte_at n y) (nat_cmp (byte_at n x) (byte_at n y)) refl (bytes_rise n x y) h in
    let a = first_byte n x in
    let b = first_byte n y in
    omega arith

-- numbers whose bytes rise do so themselves
pub number_rises : (n x y : ℕ) → x < 256 ^ n → y < 256 ^ n → is_below (big_bytes n x) (big_bytes n y) ≡ true → x < y
number_rises n x y fits_x fits_y h =
    let low = bytes_rise n x y (less_of (slice_cmp nat_cmp (bytes_high_first n x) (bytes_high_first n y)) h) in
    let a : x % 256 ^ n ≡ x = mod-eq_of_lt fits_x in
    let b : y % 256 ^ n ≡ y = mod-eq_of_lt fits_y in
    omega arith

-- ---- records

abbrev pub key_of : Record → List ℕ
key_of r = (spot_of (record_row r)).1

abbrev pub table_of : Record → ℕ
table_of r = (spot_of (record_row r)).0

-- each is in the grammar, and of the table
abbrev pub AreIn : ℕ → List Record → Type 0
AreIn table records = AllByRecursion (λ r. IsRecord r × (table_of r ≡ table)) records

abbrev pub IsAbove : List ℕ → Record → Type 0
IsAbove after r = is_below after (key_of r) ≡ true

-- the key of each is below that of each later one
abbrev pub Rise : List Record → Type 0
Rise [] = Unit {0}
Rise (r ∷ records) = AllByRecursion (IsAbove (key_of r)) records × Rise records

abbrev RiseBehind : List ℕ → List Record → Type 0
RiseBehind after [] = Unit {0}
RiseBehind after (r ∷ records) = IsAbove after r × RiseBehind (key_of r) records

rise_behind : (table : ℕ) (after : List ℕ) (rows : List Row) (records : List Record) → RiseFrom after rows → SpellEach table rows records
    → RiseBehind after records
rise_behind table after [] [] rise each = tt
rise_behind table after [] (r ∷ records) rise each = absurd each
rise_behind table after (row ∷ rows) [] rise each = tt
rise_behind table after (row ∷ rows) (r ∷ records) rise each =
    let key : row.key ≡ key_of r = sym (ap (λ (c : Change). (spot_of c).1) each.0.spelled) in
    (subst (λ k. is_below after k ≡ true) key rise.0, subst (λ k. RiseBehind k records) key (rise_behind table row.key rows records rise.1 each.1))

all_above : (after : List ℕ) (records : List Record) → RiseBehind after records → AllByRecursion (IsAbove after) records
all_above after [] rise = tt
all_above after (r ∷ records) rise = (
  rise.0,
  all_weaker (IsAbove (key_of r)) (IsAbove after) (λ s h. below_trans after (key_of r) (key_of s) rise.0 h) records
      (all_above (key_of r) records rise.1),
)

rise_all : (after : List ℕ) (records : List Record) → RiseBehind after records → Rise records
rise_all after [] rise = tt
rise_all after (r ∷ records) rise = (all_above (key_of r) records rise.1, rise_all (key_of r) records rise.1)

pub read_rise : (table : ℕ) (records : List Record) → IsTableRead table records → Rise records
read_rise table records read = rise_all [] records (rise_behind table [] read.0 records read.1 read.2)

are_in : (table : ℕ) (rows : List Row) (records : List Record) → SpellEach table rows records → AreIn table records
are_in table [] [] each = tt
are_in table [] (r ∷ records) each = absurd each
are_in table (row ∷ rows) [] each = tt
are_in table (row ∷ rows) (r ∷ records) each = ((each.0.grammar, ap (λ (c : Change). (spot_of c).0) each.0.spelled), are_in table rows records each.1)

pub read_in : (table : ℕ) (records : List Record) → IsTableRead table records → AreIn table records
read_in table records read = are_in table read.0 records read.2

-- a later record has another key
pub not_again : (r s : Record) (records : List Record) → AllByRecursion (IsAbove (key_of r)) records → In records s → key_of r ≡ key_of s → ⊥
not_again r s records above h same =
    not_below_itself (key_of s) (subst (λ k. is_below k (key_of s) ≡ true) same (in_all (IsAbove (key_of r)) records s above h))

-- no two records have one key
pub one_record : (records : List Record) (r s : Record) → Rise records → In records r → In records s → key_of r ≡ key_of s → r ≡ s
one_record [] r s rise in_r in_s same = absurd in_r
one_record (x ∷ xs) r s rise (inl e) (inl f) same = sym e ∙ f
one_record (x ∷ xs) r s rise (inl e) (inr h) same = absurd (not_again x s xs rise.0 h (ap key_of e ∙ same))
one_record (x ∷ xs) r s rise (inr h) (inl e) same = absurd (not_again x r xs rise.0 h (ap key_of e ∙ sym same))
one_record (x ∷ xs) r s rise (inr h) (inr k) same = one_record xs r s rise.1 h k same
