-- Lists in the order of keys, and numbers in the order of their bytes.
use Rattle.std.proofs.Common.{◌≡◌, ℕ, zero, suc, ◌+◌, ◌*◌, ◌%◌, ◌^◌, ◌<◌, ◌≤◌, ⊎_elim, Bool, true, false, cond, List, [], ◌∷◌, ◌++◌, filter, Contains, refl, sym, ap, subst, ◌∙◌, arith}
use Rattle.std.proofs.Math.Nat.{mod-eq_of_lt, mul-le-mul_right, one-le-pow}
use Rattle.std.proofs.lemmas.Bool.{cases_lt, lt-ltb}
use Rattle.std.specs.Cmp.{nat_cmp_total, tied_itself}
use Rattle.std.specs.Cmp.Lexicographic.{slice_cmp}
use Rattle.std.specs.Int.{byte_at, bytes_high_first}
use Rattle.std.specs.Ordering.{nat_cmp, ordering_then, is_lt}
use Rattle.std.specs.Prelude.{◌==◌}
use Rattle.std.specs.declared.cmp.Ordering.TheVariants.{Less, Equal, Greater}
use Rattle.byteorder.specs.Endian.{big_bytes}
use Rattle.byteorder.specs.Numbers.{big_from-bytes, big_from-cons}
use Rattle.keeper_api.specs.Rows.{is_below}
use Rattle.store_reading.proofs.lemmas.Elements.{contains_cases, contains_here, contains_none, contains_there}
use Rattle.table_reading.proofs.lemmas.Pages.{below_trans, not_below_itself}

-- ---- keys that rise

-- the keys rise, the first of them above `low`
abbrev pub Rises : {X : Type 0} → (X → List ℕ) → List ℕ → List X → Type 0
Rises key low [] = Unit {0}
Rises key low (x ∷ xs) = (is_below low (key x) ≡ true) × Rises key (key x) xs

not_itself : (a : List ℕ) → is_below a a ≡ true → ⊥
not_itself a h = let odd : true ≡ false = sym h ∙ not_below_itself a in cc

module _ {X : Type 0} (key : X → List ℕ) where
  rises_lower : (low mid : List ℕ) (xs : List X) → is_below low mid ≡ true → Rises key mid xs → Rises key low xs
  rises_lower low mid [] h rise = tt
  rises_lower low mid (x ∷ xs) h rise = (below_trans low mid (key x) h rise.0, rise.1)

  pub rises_above : (low : List ℕ) (xs : List X) (x : X) → Rises key low xs → Contains xs x → is_below low (key x) ≡ true
  rises_above low [] x rise h = absurd (contains_none x h)
  rises_above low (y ∷ xs) x rise h =
      ⊎_elim (λ e. subst (λ z. is_below low (key z) ≡ true) e rise.0) (λ at. below_trans low (key y) (key x) rise.0 (rises_above (key y) xs x rise.1 at))
      (contains_cases y xs x h)

  one_first : (x y : X) (xs ys : List X) → Rises key (key x) xs → Rises key (key y) ys → Contains (y ∷ ys) x → Contains (x ∷ xs) y → x ≡ y
  one_first x y xs ys rise_x rise_y there back = ⊎_elim
      (λ e. sym e)
      (λ behind_y. ⊎_elim (λ e. e)
      (λ behind_x. absurd
      (not_itself (key x) (below_trans (key x) (key y) (key x) (rises_above (key x) xs y rise_x behind_x) (rises_above (key y) ys x rise_y behind_y))))
      (contains_cases x xs y back))
      (contains_cases y ys x there)

  of_rest : (x y z : X) (xs ys : List X) → x ≡ y → Rises key (key x) xs → Contains xs z → Contains (y ∷ ys) z → Contains ys z
  of_rest x y z xs ys same rise there h = ⊎_elim
      (λ e. absurd (not_itself (key x) (subst (λ w. is_below (key x) (key w) ≡ true) (sym (same ∙ e)) (rises_above (key x) xs z rise there))))
      (λ at. at)
      (contains_cases y ys z h)

  -- two lists in the order of their keys, with the same elements, are one
  pub one_list : (a b : List ℕ) (xs ys : List X) → Rises key a xs → Rises key b ys → ((x : X) → Contains xs x → Contains ys x)
      → ((x : X) → Contains ys x → Contains xs x) → xs ≡ ys
  one_list a b [] [] rise_x rise_y there back = refl
  one_list a b [] (y ∷ ys) rise_x rise_y there back = absurd (contains_none y (back y (contains_here y ys)))
  one_list a b (x ∷ xs) [] rise_x rise_y there back = absurd (contains_none x (there x (contains_here x xs)))
  one_list a b (x ∷ xs) (y ∷ ys) rise_x rise_y there back =
      let first : x ≡ y = one_first x y xs ys rise_x.1 rise_y.1 (there x (contains_here x xs)) (back y (contains_here y ys)) in
      let rest : xs ≡ ys = one_list (key x) (key y) xs ys rise_x.1 rise_y.1
      (λ z at. of_rest x y z xs ys first rise_x.1 at (there z (contains_there x xs z at)))
      (λ z at. of_rest y x z ys xs (sym first) rise_y.1 at (back z (contains_there y ys z at))) in
      λ i. first i ∷ rest i

  pub rises_filter : (test : X → Bool) (low : List ℕ) (xs : List X) → Rises key low xs → Rises key low (filter test xs)
  rises_filter test low [] rise = tt
  rises_filter test low (x ∷ xs) rise = elim (test x) as (λ b. Rises key low (cond b (x ∷ filter test xs) (filter test xs))) [
    | true ↦ (rise.0, rises_filter test (key x) xs rise.1)
    | false ↦ rises_filter test low xs (rises_lower low (key x) xs rise.0 rise.1)
  ]

module _ {X : Type 0} (test : X → Bool) where
  pub contains_filter : (xs : List X) (x : X) → Contains xs x → test x ≡ true → Contains (filter test xs) x
  contains_filter [] x h is = absurd (contains_none x h)
  contains_filter (y ∷ xs) x h is = ⊎_elim
      (λ e. subst (λ b. Contains (cond b (y ∷ filter test xs) (filter test xs)) x) (sym (ap test e ∙ is))
      (subst (λ z. Contains (y ∷ filter test xs) z) e (contains_here y (filter test xs))))
      (λ at. elim (test y) as (λ b. Contains (cond b (y ∷ filter test xs) (filter test xs)) x)
      [ true ↦ contains_there y (filter test xs) x (contains_filter xs x at is) | false ↦ contains_filter xs x at is ])
      (contains_cases y xs x h)

  filter_one : (y : X) (xs : List X) (x : X) (b : Bool) → test y ≡ b → (Contains (filter test xs) x → Contains xs x × (test x ≡ true))
      → Contains (cond b (y ∷ filter test xs) (filter test xs)) x
      → Contains (y ∷ xs) x × (test x ≡ true)
  filter_one y xs x true is rest h = ⊎_elim
      (λ e. (subst (λ z. Contains (y ∷ xs) z) e (contains_here y xs), ap test (sym e) ∙ is))
      (λ at. let r = rest at in (contains_there y xs x r.0, r.1))
      (contains_cases y (filter test xs) x h)
  filter_one y xs x false is rest h = let r = rest h in (contains_there y xs x r.0, r.1)

  pub of_filter : (xs : List X) (x : X) → Contains (filter test xs) x → Contains xs x × (test x ≡ true)
  of_filter [] x h = absurd (contains_none x h)
  of_filter (y ∷ xs) x h = filter_one y xs x (test y) refl (of_filter xs x) h

-- ---- bytes

same_first : (n : ℕ) → nat_cmp n n ≡ Equal
same_first n = tied_itself nat_cmp_total n

-- what stands in front of both keys doesn't count
pub below_behind : (front a b : List ℕ) → is_below a b ≡ true → is_below (front ++ a) (front ++ b) ≡ true
below_behind [] a b h = h
below_behind (x ∷ front) a b h = ap (λ o. is_lt (ordering_then o (slice_cmp nat_cmp (front ++ a) (front ++ b)))) (same_first x) ∙ below_behind front a b h

parts_of : (n x : ℕ) → x % 256 ^ suc n ≡ byte_at n x * 256 ^ n + x % 256 ^ n
parts_of n x =
    sym (big_from-bytes (suc n) x [])
    ∙ ap (λ r. byte_at n x * 256 ^ n + r) (big_from-cons 0 n (byte_at n x) (bytes_high_first n x ++ []) ∙ big_from-bytes n x [])

first_less : (a b : ℕ) (xs ys : List ℕ) → a < b → is_below (a ∷ xs) (b ∷ ys) ≡ true
first_less a b xs ys h = ap (λ t. is_lt (ordering_then (cond t Less (cond (a == b) Equal Greater)) (slice_cmp nat_cmp xs ys))) (lt-ltb a b h)

first_same : (a b : ℕ) (xs ys : List ℕ) → a ≡ b → is_below xs ys ≡ true → is_below (a ∷ xs) (b ∷ ys) ≡ true
first_same a b xs ys same h = subst (λ c. is_below (a ∷ xs) (c ∷ ys) ≡ true) same (below_behind (a ∷ []) xs ys h)

not_more : (a b x y p : ℕ) → b < a → y < p → a * p + x < b * p + y → ⊥
not_more a b x y p more low h =
    let product : (b + 1) * p ≤ a * p = mul-le-mul_right p (omega arith) in
    let one : (b + 1) * p ≡ b * p + p = omega arith in
    omega arith

rest_less : (a b x y p : ℕ) → a ≡ b → a * p + x < b * p + y → x < y
rest_less a b x y p same h = let product : a * p ≡ b * p = ap (λ k. k * p) same in omega arith

mod_below : (n x : ℕ) → x % 256 ^ n < 256 ^ n
mod_below n x = let some = one-le-pow n 256 (omega arith) in omega arith

lowest_below : (n x y : ℕ) → x % 256 ^ n < y % 256 ^ n → is_below (bytes_high_first n x) (bytes_high_first n y) ≡ true
lowest_below zero x y h = absurd (omega arith)
lowest_below (suc n) x y h =
    let a = byte_at n x in
    let b = byte_at n y in
    let less : a * 256 ^ n + x % 256 ^ n < b * 256 ^ n + y % 256 ^ n = subst (λ k. k < b * 256 ^ n + y % 256 ^ n) (parts_of n x)
    (subst (λ k. x % 256 ^ suc n < k) (parts_of n y) h) in
    ⊎_elim
    (λ low. first_less a b (bytes_high_first n x) (bytes_high_first n y) low)
    (λ high. ⊎_elim
    (λ more. absurd (not_more a b (x % 256 ^ n) (y % 256 ^ n) (256 ^ n) more (mod_below n y) less))
    (λ most. let same : a ≡ b = omega arith in first_same a b (bytes_high_first n x) (bytes_high_first n y) same
    (lowest_below n x y (rest_less a b (x % 256 ^ n) (y % 256 ^ n) (256 ^ n) same less)))
    (cases_lt b a))
    (cases_lt a b)

-- numbers of n bytes are in the order of their bytes, the highest first
pub bytes_below : (n x y : ℕ) → x < y → y < 256 ^ n → is_below (big_bytes n x) (big_bytes n y) ≡ true
bytes_below n x y less low =
    let first : x % 256 ^ n ≡ x = mod-eq_of_lt (omega arith) in
    let second : y % 256 ^ n ≡ y = mod-eq_of_lt low in
    lowest_below n x y (omega arith)
