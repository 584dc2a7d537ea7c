-- Which numbers are of an interval.
use Rattle.std.proofs.Common.{suc, ◌≡◌, inl, inr, ℕ, ◌+◌, ◌≤◌, ◌<◌, Bool, true, false, cond, ◌||◌, nat_eq, List, [], ◌∷◌, ◌++◌, map, length, refl, sym, ap, ◌∙◌, arith}
use Rattle.std.specs.Prelude.{Contains, count_by}
use Rattle.std.specs.Cmp.Lexicographic.{bytes_decides}
use Rattle.std.specs.List.{AllByRecursion, filter, list_any}
use Rattle.std.specs.Str.{bytes_eq}
use Rattle.std.proofs.lemmas.Bool.{and_from, and_parts, eq-eqb, lt-ltb, ltb-true, ltb-false}
use Rattle.std.proofs.lemmas.List.{map-append}
use Rattle.std.proofs.lemmas.List.Elements.{filter-append}
use Rattle.enq_base.specs.declared.unit.Num.{Num}
use Rattle.module_effects.specs.Rows.{RowName}
use Rattle.number_ranges.specs.Intervals.{is_named}
use Rattle.number_ranges.specs.declared.interval.Interval.{Interval}
use Rattle.update_records.specs.Business.{interval_of, is_from, numbers_from}
use Rattle.ledger_steps.specs.Drawn.{IsOfOne, drawn_from, drawn_of, has_drawn, num_of, times}
use Rattle.ledger_steps.specs.Levels.{name_of}
use Rattle.draw_laws.proofs.Counting.{bit, count_append, count_cons}
use Rattle.draw_laws.proofs.IntervalNames.{contains_cases, contains_first, contains_more, contains_none, is_named_so, named_is}

pub from_is : (name : RowName) (num : Num) → is_from name num ≡ true → interval_of num ≡ name
from_is name num h =
    let both = and_parts (bytes_eq num.object name.0) (bytes_eq num.nr name.1) h in
    let first : num.object ≡ name.0 = (bytes_decides num.object name.0).0 both.0 in
    let second : num.nr ≡ name.1 = (bytes_decides num.nr name.1).0 both.1 in
    λ k. (first k, second k)

pub is_from_so : (name : RowName) (num : Num) → interval_of num ≡ name → is_from name num ≡ true
is_from_so name num h =
    and_from (bytes_eq num.object name.0) (bytes_eq num.nr name.1)
    ((bytes_decides num.object name.0).1 (ap (λ (n : RowName). n.0) h))
    ((bytes_decides num.nr name.1).1 (ap (λ (n : RowName). n.1) h))

not_from : (name : RowName) (num : Num) → (interval_of num ≡ name → ⊥) → is_from name num ≡ false
not_from name num apart = elim (is_from name num) as (λ b. is_from name num ≡ b → b ≡ false) [
  | true ↦ λ e. absurd (apart (from_is name num e))
  | false ↦ λ e. refl
] refl

pub numbers_append : (name : RowName) (xs ys : List Num) → numbers_from name (xs ++ ys) ≡ numbers_from name xs ++ numbers_from name ys
numbers_append name xs ys =
    let number = λ (num : Num). num.number in
    ap (map number) (filter-append (is_from name) xs ys) ∙ map-append number (filter (is_from name) xs) (filter (is_from name) ys)

pub from_own : (i : Interval) (number : ℕ) → drawn_from i (num_of i number ∷ []) ≡ number ∷ []
from_own i number = ap (λ b. map (λ (num : Num). num.number) (cond b (num_of i number ∷ []) [])) (is_from_so (name_of i) (num_of i number) refl)

pub from_other : (i j : Interval) (number : ℕ) → (name_of i ≡ name_of j → ⊥) → drawn_from j (num_of i number ∷ []) ≡ []
from_other i j number apart = ap (λ b. map (λ (num : Num). num.number) (cond b (num_of i number ∷ []) [])) (not_from (name_of j) (num_of i number) apart)

pub own_more : (i : Interval) (draws : List Num) (number : ℕ) → drawn_from i (draws ++ num_of i number ∷ []) ≡ drawn_from i draws ++ number ∷ []
own_more i draws number = numbers_append (name_of i) draws (num_of i number ∷ []) ∙ ap (λ ns. drawn_from i draws ++ ns) (from_own i number)

pub append_none : {X : Type 0} (xs : List X) → xs ++ [] ≡ xs
append_none [] = refl
append_none (x ∷ xs) = ap (λ ys. x ∷ ys) (append_none xs)

pub others_same : (i j : Interval) (draws : List Num) (number : ℕ) → (name_of i ≡ name_of j → ⊥)
    → drawn_from j (draws ++ num_of i number ∷ []) ≡ drawn_from j draws
others_same i j draws number apart =
    numbers_append (name_of j) draws (num_of i number ∷ []) ∙ ap (λ ns. drawn_from j draws ++ ns) (from_other i j number apart)
    ∙ append_none (drawn_from j draws)

-- where none has the name there are no numbers of it
pub none_from : (name : RowName) (nums : List Num) → AllByRecursion (λ num. interval_of num ≡ name → ⊥) nums → numbers_from name nums ≡ []
none_from name [] h = refl
none_from name (num ∷ nums) h =
    ap (λ b. map (λ (n : Num). n.number) (cond b (num ∷ filter (is_from name) nums) (filter (is_from name) nums))) (not_from name num h.0)
    ∙ none_from name nums h.1

-- a number of the name is among them
pub counts_in : (name : RowName) (num : Num) (nums : List Num) → Contains nums num → interval_of num ≡ name
    → 1 ≤ count_by (nat_eq num.number) (numbers_from name nums)
counts_in name num [] among is = absurd (contains_none num among)
counts_in name num (n ∷ nums) among is =
    elim (contains_cases n nums num among) as (λ _. 1 ≤ count_by (nat_eq num.number) (numbers_from name (n ∷ nums))) [
      | inl e ↦ first_counts num (is_from_so name n (ap interval_of e ∙ is)) (ap (λ (x : Num). x.number) (sym e))
      | inr e ↦ later_counts num.number (is_from name n) (counts_in name num nums e is)
    ]
  where
    first_counts : (x : Num) → is_from name n ≡ true → x.number ≡ n.number → 1 ≤ count_by (nat_eq x.number) (numbers_from name (n ∷ nums))
    first_counts x own same =
        let whole : count_by (nat_eq x.number) (numbers_from name (n ∷ nums)) ≡ bit (nat_eq x.number n.number) + count_by (nat_eq x.number)
        (numbers_from name nums) =
        ap (λ b. count_by (nat_eq x.number) (map (λ (y : Num). y.number) (cond b (n ∷ filter (is_from name) nums) (filter (is_from name) nums)))) own
        ∙ count_cons (nat_eq x.number) n.number (numbers_from name nums) in
        let here : bit (nat_eq x.number n.number) ≡ 1 = ap bit (eq-eqb x.number n.number same) in
        omega (arith, whole, here)

    later_counts : (k : ℕ) (b : Bool) → 1 ≤ count_by (nat_eq k) (numbers_from name nums)
        → 1 ≤ count_by (nat_eq k) (map (λ (y : Num). y.number) (cond b (n ∷ filter (is_from name) nums) (filter (is_from name) nums)))
    later_counts k true h = let whole = count_cons (nat_eq k) n.number (numbers_from name nums) in omega (arith, whole, h)
    later_counts k false h = h

pub times_append : (i : Interval) (number : ℕ) (xs ys : List Num) → times i number (xs ++ ys) ≡ times i number xs + times i number ys
times_append i number xs ys = ap (count_by (nat_eq number)) (numbers_append (name_of i) xs ys)
    ∙ count_append (nat_eq number) (drawn_from i xs) (drawn_from i ys)

same_test : (i : Interval) (num : Num) → is_named num.object num.nr i ≡ is_from (name_of i) num
same_test i num = elim (is_from (name_of i) num) as (λ b. is_from (name_of i) num ≡ b → is_named num.object num.nr i ≡ b) [
  | true ↦ λ e. is_named_so num.object num.nr i (sym (from_is (name_of i) num e))
  | false ↦ λ e. elim (is_named num.object num.nr i) as (λ b. is_named num.object num.nr i ≡ b → b ≡ false) [
    | true ↦ λ f. sym (is_from_so (name_of i) num (sym (named_is num.object num.nr i f))) ∙ e
    | false ↦ λ f. refl
  ] refl
] refl

-- how many there are
pub drawn_length : (i : Interval) (nums : List Num) → drawn_of i nums ≡ length (drawn_from i nums)
drawn_length i [] = refl
drawn_length i (num ∷ nums) =
    count_cons (λ (n : Num). is_named n.object n.nr i) num nums
    ∙ ap (λ b. bit b + drawn_of i nums) (same_test i num)
    ∙ ap (λ n. bit (is_from (name_of i) num) + n) (drawn_length i nums)
    ∙ elim (is_from (name_of i) num)
    as (λ b. bit b + length (drawn_from i nums) ≡ length
    (map (λ (n : Num). n.number) (cond b (num ∷ filter (is_from (name_of i)) nums) (filter (is_from (name_of i)) nums)))) [
      | true ↦ one_more (length (drawn_from i nums))
      | false ↦ none_more (length (drawn_from i nums))
    ]
  where
    one_more : (n : ℕ) → 1 + n ≡ suc n
    one_more n = omega arith

    none_more : (n : ℕ) → 0 + n ≡ n
    none_more n = omega arith

pub same_drawn : (i : Interval) (xs ys : List Num) → drawn_from i xs ≡ drawn_from i ys → drawn_of i xs ≡ drawn_of i ys
same_drawn i xs ys same = drawn_length i xs ∙ ap length same ∙ sym (drawn_length i ys)

-- a session that has none of the interval's numbers
pub none_drawn : (i : Interval) (draws : List Num) → has_drawn i draws ≡ false → drawn_of i draws ≡ 0
none_drawn i draws h = let low : drawn_of i draws ≤ 0 = ltb-false 0 (drawn_of i draws) h in omega (arith, low)

pub some_drawn : (i : Interval) (draws : List Num) → has_drawn i draws ≡ true → 1 ≤ drawn_of i draws
some_drawn i draws h = let low : 0 < drawn_of i draws = ltb-true 0 (drawn_of i draws) h in omega (arith, low)

pub has_some : (i : Interval) (draws : List Num) → 1 ≤ drawn_of i draws → has_drawn i draws ≡ true
has_some i draws h = lt-ltb 0 (drawn_of i draws) (omega (arith, h))

pub empty_from : (i : Interval) (draws : List Num) → drawn_of i draws ≡ 0 → drawn_from i draws ≡ []
empty_from i draws h = nothing (drawn_from i draws) (sym (drawn_length i draws) ∙ h)
  where
    nothing : (ns : List ℕ) → length ns ≡ 0 → ns ≡ []
    nothing [] e = refl
    nothing (n ∷ ns) e = absurd (omega (arith, e))

-- the interval that a number is of
pub record IsIn (intervals : List Interval) (num : Num) : Type 0 where
  pub one : Interval
  pub among : Contains intervals one
  pub name : name_of one ≡ interval_of num

pub one_of_these : (intervals : List Interval) (num : Num) → IsOfOne intervals num → IsIn intervals num
one_of_these [] num h = cc
one_of_these (i ∷ intervals) num h =
    elim (is_named num.object num.nr i)
    as (λ b. is_named num.object num.nr i ≡ b → (b || list_any (is_named num.object num.nr) intervals) ≡ true → IsIn (i ∷ intervals) num) [
      | true ↦ λ e t. record { one = i; among = contains_first intervals i; name = named_is num.object num.nr i e }
      | false ↦ λ e t.
          let found = one_of_these intervals num t in
          record { one = found.one; among = contains_more intervals i found.one found.among; name = found.name }
    ] refl h

pub of_one : (intervals : List Interval) (i : Interval) (num : Num) → Contains intervals i → name_of i ≡ interval_of num → IsOfOne intervals num
of_one [] i num among is = absurd (contains_none i among)
of_one (x ∷ intervals) i num among is =
    elim (contains_cases x intervals i among) as (λ _. IsOfOne (x ∷ intervals) num) [
      | inl e ↦ ap (λ b. b || list_any (is_named num.object num.nr) intervals) (is_named_so num.object num.nr x (ap name_of e ∙ is))
      | inr e ↦ or_later (is_named num.object num.nr x) (list_any (is_named num.object num.nr) intervals) (of_one intervals i num e is)
    ]
  where
    or_later : (a b : Bool) → b ≡ true → (a || b) ≡ true
    or_later true b h = refl
    or_later false b h = h
