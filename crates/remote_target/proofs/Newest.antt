-- The call that a target executed last stands behind all others that its rows spell.
use mathlib.Core.List.{IsPrefix}
use Rattle.std.proofs.Common.{◌≡◌, ℕ, ◌+◌, ◌≤◌, ◌<◌, Bool, true, false, cond, nat_le, map, List, [], ◌∷◌, ◌++◌, length, Option, Some, None, IfSome, refl, sym, ap, subst, ◌∙◌, append-nil, arith}
use Rattle.std.proofs.lemmas.Bool.{leb-false, leb-true}
use Rattle.std.proofs.lemmas.List.{map-append}
use Rattle.std.proofs.lemmas.Map.Text.{is_eq-slice_cmp}
use Rattle.std.specs.List.{AllByRecursion}
use Rattle.std.specs.Ordering.{is_eq, is_lt, nat_cmp, ordering_reverse}
use Rattle.std.specs.declared.cmp.Ordering.{Ordering}
use Rattle.std.specs.declared.cmp.Ordering.TheVariants.{Less, Equal, Greater}
use Rattle.std.specs.Cmp.Lexicographic.{slice_cmp, nat_list_cmp_total}
use Rattle.std.specs.Str.{bytes_eq}
use Rattle.byteorder.specs.Endian.{big_number}
use Rattle.byteorder.specs.Numbers.{big_number-reads_back}
use Rattle.keeper_api.specs.Batch.{changed}
use Rattle.keeper_api.specs.Rows.{Rows, RiseFrom, is_below}
use Rattle.keeper_api.specs.declared.rows.Row.{Row}
use Rattle.remote_target.specs.declared.call.CallOutcome.{CallOutcome}
use Rattle.remote_target.specs.Executed.{call_in, executed_in, inserted, outcome_or_done, placed}
use Rattle.remote_target.specs.Reading.{place_in}
use Rattle.remote_target.specs.Rows.{StandFor, call_value, changes_at, changes_if, changes_of, outcome_bytes, value_from}
use Rattle.remote_target.specs.Runs.{Call, Execution, Ran, executed_as, execution, ran, ran_if}
use Rattle.table_reading.specs.Tables.{rows_in}
use Rattle.remote_target.proofs.Executions.{is_same, same_bytes}
use Rattle.remote_target.proofs.Found.{found, not_found, value_found}
use Rattle.table_reading.proofs.lemmas.Pages.{below_trans, not_below_itself, not_both, off, rows_rise}
use Rattle.remote_target.proofs.Placed.{all_placed}
use Rattle.remote_target.proofs.Stands.{call_at_key, swapped, told_outcome}

-- ---- keys that rise

-- of two keys that differ, one is below
is_above : (r s : Ordering) → r ≡ ordering_reverse s → is_lt r ≡ false → is_eq r ≡ false → is_lt s ≡ true
is_above Less s back low same = cc
is_above Equal s back low same = cc
is_above Greater Less back low same = refl
is_above Greater Equal back low same = cc
is_above Greater Greater back low same = cc

other_way : (a b : List ℕ) → is_below a b ≡ false → bytes_eq a b ≡ false → is_below b a ≡ true
other_way a b low apart = is_above (slice_cmp nat_cmp a b) (slice_cmp nat_cmp b a) (nat_list_cmp_total.antisymm a b) low (is_eq-slice_cmp a b ∙ apart)

-- a row put among others by its key
abbrev keyed : Row → List Row → List Row
keyed x [] = x ∷ []
keyed x (y ∷ ys) = cond (is_below x.key y.key) (x ∷ y ∷ ys) (y ∷ keyed x ys)

first_off : (b : Bool) (v : List ℕ) (rest : Option (List ℕ)) → cond b (Some v) rest ≡ None → (b ≡ false) × (rest ≡ None)
first_off true v rest h = cc
first_off false v rest h = (refl, h)

turned : (a b : List ℕ) → bytes_eq a b ≡ false → bytes_eq b a ≡ false
turned a b apart = off (bytes_eq b a) (λ same. not_both (bytes_eq a b) (is_same a b (sym (same_bytes b a same))) apart)

keyed_rises : (low : List ℕ) (x : Row) (ys : List Row) → is_below low x.key ≡ true → found x.key ys ≡ None → RiseFrom low ys → RiseFrom low (keyed x ys)
keyed_rises low x [] above fresh rise = (above, tt)
keyed_rises low x (y ∷ ys) above fresh rise =
    let parts = first_off (bytes_eq y.key x.key) y.value (found x.key ys) fresh in
    let more : is_below y.key x.key ≡ true → RiseFrom y.key (keyed x ys) = λ h. keyed_rises y.key x ys h parts.1 rise.1 in
    elim (is_below x.key y.key) as (λ b. is_below x.key y.key ≡ b → RiseFrom low (cond b (x ∷ y ∷ ys) (y ∷ keyed x ys))) [
      | true ↦ λ h. (above, (h, rise.1))
      | false ↦ λ h. (rise.0, more (other_way x.key y.key h (turned y.key x.key parts.0)))
    ] refl

found_keyed : (key : List ℕ) (x : Row) (ys : List Row) → found x.key ys ≡ None
    → found key (keyed x ys) ≡ cond (bytes_eq x.key key) (Some x.value) (found key ys)
found_keyed key x [] fresh = refl
found_keyed key x (y ∷ ys) fresh =
    let parts = first_off (bytes_eq y.key x.key) y.value (found x.key ys) fresh in
    let rest = found_keyed key x ys parts.1 in
    elim (is_below x.key y.key) as (λ b. found key (cond b (x ∷ y ∷ ys) (y ∷ keyed x ys)) ≡ cond (bytes_eq x.key key) (Some x.value) (found key (y ∷ ys))) [
      | true ↦ refl
      | false ↦
          ap (cond (bytes_eq y.key key) (Some y.value)) rest
          ∙ swapped (bytes_eq y.key key) (bytes_eq x.key key) (Some y.value) (Some x.value) (found key ys)
          (λ a b. not_both (bytes_eq y.key x.key) (is_same y.key x.key (same_bytes y.key key a ∙ sym (same_bytes x.key key b))) parts.0)
    ]

-- ---- rows whose keys rise are known by what is found

found_above : (low key value : List ℕ) (rows : List Row) → RiseFrom low rows → found key rows ≡ Some value → is_below low key ≡ true
found_above low key value [] rise h = cc
found_above low key value (row ∷ rows) rise h =
    let more : found key rows ≡ Some value → is_below low key ≡ true = λ at. below_trans low row.key key rise.0
    (found_above row.key key value rows rise.1 at) in
    elim (bytes_eq row.key key) as (λ b. bytes_eq row.key key ≡ b → cond b (Some row.value) (found key rows) ≡ Some value → is_below low key ≡ true) [
      | true ↦ λ same at. subst (λ k. is_below low k ≡ true) (same_bytes row.key key same) rise.0
      | false ↦ λ apart at. more at
    ] refl h

at_first : (row : Row) (rows : List Row) → found row.key (row ∷ rows) ≡ Some row.value
at_first row rows = ap (λ b. cond b (Some row.value) (found row.key rows)) (is_same row.key row.key refl)

-- the key at the front is no greater than any that is found
front_key : (x y : Row) (xs ys : List Row) → RiseFrom y.key ys → found x.key (y ∷ ys) ≡ Some x.value
    → (bytes_eq y.key x.key ≡ false → is_below y.key x.key ≡ true)
front_key x y xs ys rise at apart = found_above y.key x.key x.value ys rise (sym (ap (λ b. cond b (Some y.value) (found x.key ys)) apart) ∙ at)

same_key : (x y : Row) (b : Bool) → bytes_eq y.key x.key ≡ b → (b ≡ false → (is_below y.key x.key ≡ true) × (is_below x.key y.key ≡ true)) → x.key ≡ y.key
same_key x y true same apart = sym (same_bytes y.key x.key same)
same_key x y false same apart =
    let both = apart refl in
    absurd (not_both (is_below x.key x.key) (below_trans x.key y.key x.key both.1 both.0) (not_below_itself x.key))

some_is : {A : Type 0} (x y : A) → Some x ≡ Some y → x ≡ y
some_is x y h = cc

rest_found : (x : Row) (xs : List Row) (key : List ℕ) → RiseFrom x.key xs → found key xs ≡ cond (bytes_eq x.key key) None (found key (x ∷ xs))
rest_found x xs key rise =
    elim (bytes_eq x.key key) as (λ b. bytes_eq x.key key ≡ b → found key xs ≡ cond b None (cond b (Some x.value) (found key xs))) [
      | true ↦ λ same. subst (λ k. found k xs ≡ None) (same_bytes x.key key same) (not_found x.key xs rise)
      | false ↦ λ apart. refl
    ] refl

same_rows : (low : List ℕ) (xs ys : List Row) → RiseFrom low xs → RiseFrom low ys → ((key : List ℕ) → found key xs ≡ found key ys) → xs ≡ ys
same_rows low [] [] one other same = refl
same_rows low [] (y ∷ ys) one other same = let odd : Some y.value ≡ None = sym (same y.key ∙ at_first y ys) in cc
same_rows low (x ∷ xs) [] one other same = let odd : Some x.value ≡ None = sym (at_first x xs) ∙ same x.key in cc
same_rows low (x ∷ xs) (y ∷ ys) one other same =
    let x_at : found x.key (y ∷ ys) ≡ Some x.value = sym (same x.key) ∙ at_first x xs in
    let y_at : found y.key (x ∷ xs) ≡ Some y.value = same y.key ∙ at_first y ys in
    let is_key : x.key ≡ y.key =
    same_key x y (bytes_eq y.key x.key) refl (λ apart. (front_key x y xs ys other.1 x_at apart, front_key y x ys xs one.1 y_at (turned y.key x.key apart))) in
    let is_value : x.value ≡ y.value = some_is x.value y.value (sym x_at ∙ ap (λ k. found k (y ∷ ys)) is_key ∙ at_first y ys) in
    let rest : xs ≡ ys =
    same_rows x.key xs ys one.1 (subst (λ k. RiseFrom k ys) (sym is_key) other.1)
    (λ k. rest_found x xs k one.1 ∙ ap (λ c. cond (bytes_eq c k) None (found k (x ∷ xs))) is_key ∙ ap (cond (bytes_eq y.key k) None) (same k)
    ∙ sym (rest_found y ys k other.1)) in
    λ i. record { key = is_key i; value = is_value i } ∷ rest i

-- ---- the latest place comes last

module _ (place : Row → ℕ) (x : Row) where
  goes_last : (ys : List Row) → AllByRecursion (λ y. place y < place x) ys → inserted place x ys ≡ ys ++ x ∷ []
  goes_last [] all = refl
  goes_last (y ∷ ys) all =
      let rest = goes_last ys all.1 in
      let low = all.0 in
      elim (nat_le (place x) (place y)) as (λ b. nat_le (place x) (place y) ≡ b → cond b (x ∷ y ∷ ys) (y ∷ inserted place x ys) ≡ y ∷ (ys ++ x ∷ [])) [
        | true ↦ λ h. let odd = leb-true (place x) (place y) h in absurd (omega (arith, odd, low))
        | false ↦ λ h. ap (y ∷◌) rest
      ] refl

  stays_last : (y : Row) (ys : List Row) → place y < place x → inserted place y (ys ++ x ∷ []) ≡ inserted place y ys ++ x ∷ []
  stays_last y [] low =
      elim (nat_le (place y) (place x)) as (λ b. nat_le (place y) (place x) ≡ b → cond b (y ∷ x ∷ []) (x ∷ y ∷ []) ≡ y ∷ x ∷ []) [
        | true ↦ λ h. refl
        | false ↦ λ h. let odd = leb-false (place y) (place x) h in absurd (omega (arith, odd, low))
      ] refl
  stays_last y (z ∷ zs) low =
      let rest = stays_last y zs low in
      elim (nat_le (place y) (place z))
      as (λ b. cond b (y ∷ z ∷ (zs ++ x ∷ [])) (z ∷ inserted place y (zs ++ x ∷ [])) ≡ cond b (y ∷ z ∷ zs) (z ∷ inserted place y zs) ++ x ∷ []) [
        | true ↦ refl
        | false ↦ ap (z ∷◌) rest
      ]

  last_placed : (ys : List Row) → AllByRecursion (λ y. place y < place x) ys → placed place (keyed x ys) ≡ placed place ys ++ x ∷ []
  last_placed [] all = refl
  last_placed (y ∷ ys) all =
      let rest = last_placed ys all.1 in
      let here = goes_last (placed place (y ∷ ys)) (all_placed place (λ z. place z < place x) (y ∷ ys) all) in
      elim (is_below x.key y.key) as (λ b. placed place (cond b (x ∷ y ∷ ys) (y ∷ keyed x ys)) ≡ placed place (y ∷ ys) ++ x ∷ []) [
        | true ↦ here
        | false ↦ ap (inserted place y) rest ∙ stays_last y (placed place ys) all.0
      ]

-- ---- each place is one of those so far

read_place : (p : ℕ) (x : Execution) → p ≤ 9223372036854775808 → big_number 8 (call_value p x) ≡ p
read_place p x few = big_number-reads_back 8 p (outcome_bytes x.outcome x.text) (omega (arith, few))

value_low : (p : ℕ) (tid : List ℕ) (xs : List Execution) → p + length xs ≤ 9223372036854775808
    → IfSome (value_from p tid xs) (λ v. big_number 8 v < p + length xs)
value_low p tid [] few = tt
value_low p tid (x ∷ xs) few =
    let place = read_place p x (omega (arith, few)) in
    let rest : IfSome (value_from (p + 1) tid xs) (λ v. big_number 8 v < p + 1 + length xs) = value_low (p + 1) tid xs (omega (arith, few)) in
    let one : p + 1 + length xs ≡ p + length (x ∷ xs) = omega arith in
    let here : big_number 8 (call_value p x) < p + length (x ∷ xs) = omega (arith, place) in
    elim (bytes_eq x.tid tid) as (λ b. IfSome (cond b (Some (call_value p x)) (value_from (p + 1) tid xs)) (λ v. big_number 8 v < p + length (x ∷ xs))) [
      | true ↦ here
      | false ↦ subst (λ n. IfSome (value_from (p + 1) tid xs) (λ v. big_number 8 v < n)) one rest
    ]

others : (b : Bool) (n : ℕ) (v : Option (List ℕ)) → IfSome v (λ w. big_number 8 w < n) → IfSome (cond b None v) (λ w. big_number 8 w < n)
others true n v h = tt
others false n v h = h

all_low : (n : ℕ) (low : List ℕ) (rows : List Row) → RiseFrom low rows → ((key : List ℕ) → IfSome (found key rows) (λ v. big_number 8 v < n))
    → AllByRecursion (λ row. place_in row < n) rows
all_low n low [] rise each = tt
all_low n low (row ∷ rows) rise each = (
  subst (λ v. IfSome v (λ w. big_number 8 w < n)) (at_first row rows) (each row.key),
  all_low n row.key rows rise.1
      (λ key. subst (λ v. IfSome v (λ w. big_number 8 w < n)) (sym (rest_found row rows key rise.1))
      (others (bytes_eq row.key key) n (found key (row ∷ rows)) (each key))),
)

-- ---- a call more

below_long : (key : List ℕ) → 1 ≤ length key → is_below [] key ≡ true
below_long [] h = absurd (omega arith)
below_long (b ∷ bs) h = refl

-- an empty key isn't found
none_empty : (rows : Rows) (table : ℕ) → found [] (rows_in rows table) ≡ None
none_empty rows table = not_found [] (rows_in rows table) (rows_rise rows table)

no_some : {A B : Type 0} (x : A) → Some x ≡ None → B
no_some x h = absurd cc

no_value : (p : ℕ) (tid : List ℕ) (xs : List Execution) → executed_as tid xs ≡ None → value_from p tid xs ≡ None
no_value p tid [] h = refl
no_value p tid (x ∷ xs) h =
    elim (bytes_eq x.tid tid) as (λ b. cond b (Some x.outcome) (executed_as tid xs) ≡ None → cond b (Some (call_value p x)) (value_from (p + 1) tid xs) ≡ None) [
      | true ↦ λ at. no_some x.outcome at
      | false ↦ λ at. no_value (p + 1) tid xs at
    ] h

module _ (rows : Rows) (r : Ran) (call : Call) (stands : StandFor rows r) (few : length r.executed ≤ 9223372036854775807) (long : 1 ≤ length call.tid) where
  abbrev newest : Row
  newest = record { key = call.tid; value = call_value (length r.executed + 1) (execution call r) }

  low_each : (key : List ℕ) → IfSome (found key (rows_in rows 0)) (λ v. big_number 8 v < length r.executed + 1)
  low_each [] = subst (λ v. IfSome v (λ w. big_number 8 w < length r.executed + 1)) (sym (none_empty rows 0)) tt
  low_each (b ∷ bs) =
      let one : 1 + length r.executed ≡ length r.executed + 1 = omega arith in
      let has : 1 ≤ length (b ∷ bs) = omega arith in
      subst (λ v. IfSome v (λ w. big_number 8 w < length r.executed + 1)) (sym (stands.calls (b ∷ bs) has) ∙ value_found rows 0 (b ∷ bs) has)
      (subst (λ n. IfSome (value_from 1 (b ∷ bs) r.executed) (λ v. big_number 8 v < n)) one (value_low 1 (b ∷ bs) r.executed (omega (arith, few))))

  all_before : AllByRecursion (λ row. place_in row < place_in newest) (rows_in rows 0)
  all_before =
      subst (λ n. AllByRecursion (λ row. place_in row < n) (rows_in rows 0)) (sym (read_place (length r.executed + 1) (execution call r) (omega (arith, few))))
      (all_low (length r.executed + 1) [] (rows_in rows 0) (rows_rise rows 0) low_each)

  module _ (fresh : executed_as call.tid r.executed ≡ None) where
    not_there : found call.tid (rows_in rows 0) ≡ None
    not_there = sym (value_found rows 0 call.tid long) ∙ stands.calls call.tid long ∙ no_value 1 call.tid r.executed fresh

    found_new : (key : List ℕ) → found key (rows_in (changed (changes_at (length r.executed + 1) call r) rows) 0) ≡ found key (keyed newest (rows_in rows 0))
    found_new [] =
        none_empty (changed (changes_at (length r.executed + 1) call r) rows) 0
        ∙ sym (not_found [] (keyed newest (rows_in rows 0)) (keyed_rises [] newest (rows_in rows 0) (below_long call.tid long) not_there (rows_rise rows 0)))
    found_new (b ∷ bs) =
        let has : 1 ≤ length (b ∷ bs) = omega arith in
        sym (value_found (changed (changes_at (length r.executed + 1) call r) rows) 0 (b ∷ bs) has)
        ∙ call_at_key rows r call (b ∷ bs)
        ∙ ap (cond (bytes_eq call.tid (b ∷ bs)) (Some newest.value)) (value_found rows 0 (b ∷ bs) has)
        ∙ sym (found_keyed (b ∷ bs) newest (rows_in rows 0) not_there)

    rows_are : rows_in (changed (changes_at (length r.executed + 1) call r) rows) 0 ≡ keyed newest (rows_in rows 0)
    rows_are =
        same_rows [] (rows_in (changed (changes_at (length r.executed + 1) call r) rows) 0) (keyed newest (rows_in rows 0))
        (rows_rise (changed (changes_at (length r.executed + 1) call r) rows) 0)
        (keyed_rises [] newest (rows_in rows 0) (below_long call.tid long) not_there (rows_rise rows 0))
        found_new

    call_is : call_in newest ≡ execution call r
    call_is = λ i. record { tid = call.tid; text = call.text; outcome = outcome_or_done (told_outcome (length r.executed + 1) (execution call r) i) }

    executed_new : executed_in (changed (changes_at (length r.executed + 1) call r) rows) ≡ executed_in rows ++ execution call r ∷ []
    executed_new =
        ap (λ xs. map call_in (placed place_in xs)) rows_are
        ∙ ap (map call_in) (last_placed place_in newest (rows_in rows 0) all_before)
        ∙ map-append call_in (placed place_in (rows_in rows 0)) (newest ∷ [])
        ∙ ap (λ x. executed_in rows ++ x ∷ []) call_is

  next_if : (known : Option CallOutcome) → executed_as call.tid r.executed ≡ known → executed_in rows ≡ r.executed
      → executed_in (changed (changes_if known call r) rows) ≡ (ran_if known call r).executed
  next_if None is same = executed_new is ∙ ap (λ xs. xs ++ execution call r ∷ []) same
  next_if (Some o) is same = same

  -- the rows after a call spell what was executed then
  pub executed_next : executed_in rows ≡ r.executed → executed_in (changed (changes_of call r) rows) ≡ (ran call r).executed
  executed_next same = next_if (executed_as call.tid r.executed) refl same

-- what was executed before begins what is executed then
pub executed_before : (r : Ran) (call : Call) → IsPrefix r.executed (ran call r).executed
executed_before r call = front (executed_as call.tid r.executed)
  where
    front : (known : Option CallOutcome) → IsPrefix r.executed (ran_if known call r).executed
    front None = (execution call r ∷ [], refl)
    front (Some o) = ([], append-nil r.executed)
