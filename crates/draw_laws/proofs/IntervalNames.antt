-- Names of intervals, and lists in which no two have one.
use Rattle.std.proofs.Common.{◌≡◌, ◌⊎◌, inl, inr, ℕ, zero, suc, true≢false, arith, Bool, true, false, ◌||◌, List, [], ◌∷◌, refl, sym, ap, ◌∙◌}
use Rattle.std.specs.Prelude.{Contains}
use Rattle.std.specs.Cmp.Lexicographic.{bytes_decides}
use Rattle.std.specs.List.{list_any}
use Rattle.std.specs.Str.{bytes_eq}
use Rattle.std.proofs.lemmas.Bool.{and_from, and_parts}
use Rattle.number_ranges.specs.Intervals.{is_named}
use Rattle.number_ranges.specs.declared.interval.Interval.{Interval}
use Rattle.module_effects.specs.Rows.{RowName}
use Rattle.ledger_steps.specs.Levels.{AreApart, name_of}

pub named_is : (object nr : List ℕ) (i : Interval) → is_named object nr i ≡ true → name_of i ≡ (object, nr)
named_is object nr i h =
    let both = and_parts (bytes_eq i.object object) (bytes_eq i.nr nr) h in
    let first : i.object ≡ object = (bytes_decides i.object object).0 both.0 in
    let second : i.nr ≡ nr = (bytes_decides i.nr nr).0 both.1 in
    λ k. (first k, second k)

pub is_named_so : (object nr : List ℕ) (i : Interval) → name_of i ≡ (object, nr) → is_named object nr i ≡ true
is_named_so object nr i h =
    and_from (bytes_eq i.object object) (bytes_eq i.nr nr)
    ((bytes_decides i.object object).1 (ap (λ (n : RowName). n.0) h))
    ((bytes_decides i.nr nr).1 (ap (λ (n : RowName). n.1) h))

-- ---- elements of a list

pub contains_none : {X : Type 0} (x : X) → Contains [] x → ⊥
contains_none x (k, within, at) = absurd (omega (arith, within))

pub contains_cases : {X : Type 0} (i : X) (is : List X) (x : X) → Contains (i ∷ is) x → (i ≡ x) ⊎ Contains is x
contains_cases i is x (zero, within, at) = inl at
contains_cases i is x (suc k, within, at) = inr (k, omega (arith, within), at)

pub contains_more : {X : Type 0} (is : List X) (i x : X) → Contains is x → Contains (i ∷ is) x
contains_more is i x (k, within, at) = (suc k, omega (arith, within), at)

pub contains_first : {X : Type 0} (is : List X) (i : X) → Contains (i ∷ is) i
contains_first is i = (0, omega arith, refl)

-- ---- intervals of a list

pub none_named : (object nr : List ℕ) (is : List Interval) (x : Interval) → list_any (is_named object nr) is ≡ false → Contains is x → name_of x ≡ (object, nr)
    → ⊥
none_named object nr [] x none among same = contains_none x among
none_named object nr (i ∷ is) x none among same =
    elim (contains_cases i is x among) as (λ _. ⊥) [
      | inl e ↦ true≢false (sym (is_named_so object nr i (ap name_of e ∙ same)) ∙ (or_parts (is_named object nr i) (list_any (is_named object nr) is) none).0)
      | inr e ↦ none_named object nr is x (or_parts (is_named object nr i) (list_any (is_named object nr) is) none).1 e same
    ]
  where
    or_parts : (a b : Bool) → (a || b) ≡ false → (a ≡ false) × (b ≡ false)
    or_parts true b h = cc
    or_parts false b h = (refl, h)

-- two intervals with one name are one
pub one_interval : (is : List Interval) (i j : Interval) → AreApart is → Contains is i → Contains is j → name_of i ≡ name_of j → i ≡ j
one_interval [] i j apart at_i at_j same = absurd (contains_none i at_i)
one_interval (x ∷ is) i j apart at_i at_j same =
    elim (contains_cases x is i at_i) as (λ _. i ≡ j) [
      | inl e ↦ elim (contains_cases x is j at_j) as (λ _. i ≡ j) [
        | inl f ↦ sym e ∙ f
        | inr f ↦ absurd (none_named x.object x.nr is j apart.0 f (sym same ∙ ap name_of (sym e)))
      ]
      | inr e ↦ elim (contains_cases x is j at_j) as (λ _. i ≡ j) [
        | inl f ↦ absurd (none_named x.object x.nr is i apart.0 e (same ∙ ap name_of (sym f)))
        | inr f ↦ one_interval is i j apart.1 e f same
      ]
    ]
