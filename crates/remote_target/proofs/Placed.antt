-- Rows put in the order of their places: where these are the numbers from 1 to their count, each row stands at its own.
use Rattle.std.proofs.Common.{◌≡◌, ℕ, ◌+◌, ◌≤◌, ◌<◌, Bool, true, false, cond, ◌||◌, nat_eq, nat_le, map, List, [], ◌∷◌, length, Option, Some, None, refl, sym, ap, subst, ◌∙◌, arith}
use Rattle.std.proofs.lemmas.Bool.{eqb-false, leb-false, leb-true}
use Rattle.std.specs.List.{AllByRecursion, list_any}
use Rattle.std.specs.Str.{bytes_eq}
use Rattle.keeper_api.specs.declared.rows.Row.{Row}
use Rattle.keeper_api.specs.Rows.{RiseFrom}
use Rattle.remote_target.specs.Executed.{inserted, placed}
use Rattle.remote_target.specs.Rows.{call_value, value_from}
use Rattle.remote_target.specs.Runs.{Execution}
use Rattle.remote_target.proofs.Executions.{is_same, same_bytes}
use Rattle.remote_target.proofs.Found.{found, not_found}
use Rattle.table_reading.proofs.lemmas.Pages.{not_both}

swapped_or : (a b c : Bool) → (a || (b || c)) ≡ (b || (a || c))
swapped_or true true c = refl
swapped_or true false c = refl
swapped_or false b c = refl

swapped : {A : Type 0} (b c : Bool) (x y z : A) → (b ≡ true → c ≡ true → ⊥) → cond b x (cond c y z) ≡ cond c y (cond b x z)
swapped true true x y z apart = absurd (apart refl refl)
swapped true false x y z apart = refl
swapped false c x y z apart = refl

pub off_first : (a b : Bool) → (a || b) ≡ false → a ≡ false
off_first true b h = h
off_first false b h = refl

pub off_second : (a b : Bool) → (a || b) ≡ false → b ≡ false
off_second true b h = cc
off_second false b h = h

first_none : (b : Bool) (x : List ℕ) (rest : Option (List ℕ)) → cond b (Some x) rest ≡ None → b ≡ false
first_none true x rest h = cc
first_none false x rest h = refl

rest_none : (b : Bool) (x : List ℕ) (rest : Option (List ℕ)) → cond b (Some x) rest ≡ None → rest ≡ None
rest_none true x rest h = cc
rest_none false x rest h = h

module _ (place : Row → ℕ) where
  -- a row has this place
  abbrev pub has : ℕ → List Row → Bool
  has p rows = list_any (λ row. nat_eq (place row) p) rows

  -- no place stands twice
  abbrev pub Apart : List Row → Type 0
  Apart [] = Unit {0}
  Apart (x ∷ xs) = (has (place x) xs ≡ false) × Apart xs

  -- each place is one from 1 to n
  abbrev pub Within : ℕ → List Row → Type 0
  Within n rows = AllByRecursion (λ row. (1 ≤ place row) × (place row ≤ n)) rows

  -- the places rise above `low`, up to n
  abbrev pub Rise : ℕ → ℕ → List Row → Type 0
  Rise low n [] = Unit {0}
  Rise low n (x ∷ xs) = (low < place x) × (place x ≤ n) × Rise (place x) n xs

  -- ---- no row is lost

  length_inserted : (x : Row) (ys : List Row) → length (inserted place x ys) ≡ length ys + 1
  length_inserted x [] = refl
  length_inserted x (y ∷ ys) =
      let rest = length_inserted x ys in
      elim (nat_le (place x) (place y)) as (λ b. length (cond b (x ∷ y ∷ ys) (y ∷ inserted place x ys)) ≡ length (y ∷ ys) + 1)
      [ true ↦ omega arith | false ↦ omega (arith, rest) ]

  pub length_placed : (xs : List Row) → length (placed place xs) ≡ length xs
  length_placed [] = refl
  length_placed (x ∷ xs) = let more = length_inserted x (placed place xs) in let rest = length_placed xs in omega (arith, more, rest)

  all_inserted : (P : Row → Type 0) (x : Row) (ys : List Row) → P x → AllByRecursion P ys → AllByRecursion P (inserted place x ys)
  all_inserted P x [] one all = (one, tt)
  all_inserted P x (y ∷ ys) one all =
      let rest = all_inserted P x ys one all.1 in
      elim (nat_le (place x) (place y)) as (λ b. AllByRecursion P (cond b (x ∷ y ∷ ys) (y ∷ inserted place x ys))) [ true ↦ (one, all) | false ↦ (all.0, rest) ]

  pub all_placed : (P : Row → Type 0) (xs : List Row) → AllByRecursion P xs → AllByRecursion P (placed place xs)
  all_placed P [] all = tt
  all_placed P (x ∷ xs) all = all_inserted P x (placed place xs) all.0 (all_placed P xs all.1)

  has_inserted : (p : ℕ) (x : Row) (ys : List Row) → has p (inserted place x ys) ≡ (nat_eq (place x) p || has p ys)
  has_inserted p x [] = refl
  has_inserted p x (y ∷ ys) =
      let rest = has_inserted p x ys in
      elim (nat_le (place x) (place y)) as (λ b. has p (cond b (x ∷ y ∷ ys) (y ∷ inserted place x ys)) ≡ (nat_eq (place x) p || has p (y ∷ ys))) [
        | true ↦ refl
        | false ↦ ap (λ b. nat_eq (place y) p || b) rest ∙ swapped_or (nat_eq (place y) p) (nat_eq (place x) p) (has p ys)
      ]

  has_placed : (p : ℕ) (xs : List Row) → has p (placed place xs) ≡ has p xs
  has_placed p [] = refl
  has_placed p (x ∷ xs) = has_inserted p x (placed place xs) ∙ ap (λ b. nat_eq (place x) p || b) (has_placed p xs)

  -- ---- the places rise

  inserted_rises : (low n : ℕ) (x : Row) (ys : List Row) → low < place x → place x ≤ n → has (place x) ys ≡ false → Rise low n ys
      → Rise low n (inserted place x ys)
  inserted_rises low n x [] above within fresh rise = (above, within, tt)
  inserted_rises low n x (y ∷ ys) above within fresh rise =
      let apart = eqb-false (place y) (place x) (off_first _ _ fresh) in
      let rest : place y < place x → Rise (place y) n (inserted place x ys) = λ lt. inserted_rises (place y) n x ys lt within (off_second _ _ fresh) rise.2 in
      elim (nat_le (place x) (place y)) as (λ b. nat_le (place x) (place y) ≡ b → Rise low n (cond b (x ∷ y ∷ ys) (y ∷ inserted place x ys))) [
        | true ↦ λ h. (above, within, (less (place x) (place y) (leb-true _ _ h) apart, rise.1, rise.2))
        | false ↦ λ h. (rise.0, rise.1, rest (leb-false _ _ h))
      ] refl
    where
      less : (a b : ℕ) → a ≤ b → (b ≡ a → ⊥) → a < b
      less a b low apart = grind (arith, low, apart)

  pub placed_rise : (n : ℕ) (xs : List Row) → Apart xs → Within n xs → Rise 0 n (placed place xs)
  placed_rise n [] apart within = tt
  placed_rise n (x ∷ xs) apart within =
      inserted_rises 0 n x (placed place xs) within.0.0 within.0.1 (has_placed (place x) xs ∙ apart.0) (placed_rise n xs apart.1 within.1)

  -- so many places fit in above `low`
  room_above : (low n : ℕ) (ys : List Row) → low ≤ n → Rise low n ys → low + length ys ≤ n
  room_above low n [] h rise = omega (arith, h)
  room_above low n (y ∷ ys) h rise =
      let rest = room_above (place y) n ys rise.1 rise.2 in
      let first = rise.0 in
      omega (arith, rest, first)

  -- ---- what is found stays

  found_inserted : (key : List ℕ) (x : Row) (ys : List Row) → found x.key ys ≡ None
      → found key (inserted place x ys) ≡ cond (bytes_eq x.key key) (Some x.value) (found key ys)
  found_inserted key x [] fresh = refl
  found_inserted key x (y ∷ ys) fresh =
      let rest = found_inserted key x ys (rest_none (bytes_eq y.key x.key) y.value (found x.key ys) fresh) in
      let other = first_none (bytes_eq y.key x.key) y.value (found x.key ys) fresh in
      elim (nat_le (place x) (place y))
      as (λ b. found key (cond b (x ∷ y ∷ ys) (y ∷ inserted place x ys)) ≡ cond (bytes_eq x.key key) (Some x.value) (found key (y ∷ ys))) [
        | true ↦ refl
        | false ↦
            ap (cond (bytes_eq y.key key) (Some y.value)) rest
            ∙ swapped (bytes_eq y.key key) (bytes_eq x.key key) (Some y.value) (Some x.value) (found key ys)
            (λ a b. not_both (bytes_eq y.key x.key) (is_same y.key x.key (same_bytes y.key key a ∙ sym (same_bytes x.key key b))) other)
      ]

  pub found_placed : (key low : List ℕ) (xs : List Row) → RiseFrom low xs → found key (placed place xs) ≡ found key xs
  found_placed key low [] rise = refl
  found_placed key low (x ∷ xs) rise =
      found_inserted key x (placed place xs) (found_placed x.key x.key xs rise.1 ∙ not_found x.key xs rise.1)
      ∙ ap (cond (bytes_eq x.key key) (Some x.value)) (found_placed key x.key xs rise.1)

  -- ---- as many rows as places

  -- each row is the value of the call that is made of it, at its place
  module _ (call_in : Row → Execution) (same_key : (row : Row) → (call_in row).tid ≡ row.key) where
    abbrev pub IsCallRow : Row → Type 0
    IsCallRow row = call_value (place row) (call_in row) ≡ row.value

    pub values_are : (low n : ℕ) (key : List ℕ) (ys : List Row) → Rise low n ys → low + length ys ≡ n → AllByRecursion IsCallRow ys
        → value_from (low + 1) key (map call_in ys) ≡ found key ys
    values_are low n key [] rise full all = refl
    values_are low n key (y ∷ ys) rise full all =
        let room = room_above (place y) n ys rise.1 rise.2 in
        let first = rise.0 in
        let at : place y ≡ low + 1 = omega (arith, room, first, full) in
        ap (λ t. cond (bytes_eq t key) (Some (call_value (low + 1) (call_in y))) (value_from (low + 1 + 1) key (map call_in ys))) (same_key y)
        ∙ ap (λ v. cond (bytes_eq y.key key) (Some v) (value_from (low + 1 + 1) key (map call_in ys))) (ap (λ p. call_value p (call_in y)) (sym at) ∙ all.0)
        ∙ ap (cond (bytes_eq y.key key) (Some y.value)) (values_are (low + 1) n key ys (subst (λ p. Rise p n ys) at rise.2) (omega (arith, full)) all.1)
