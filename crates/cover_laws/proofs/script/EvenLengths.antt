-- Where no table is uneven, held locks on one table have arguments of one length.
use Rattle.std.proofs.Common.{◌≡◌, inl, inr, ℕ, Bool, true, false, true≢false, not, ◌&&◌, nat_eq, List, [], ◌∷◌, All, Contains, fold, filter, length, get_or, None, refl, sym, ◌∙◌}
use Rattle.std.specs.List.{list_any}
use Rattle.std.specs.Cmp.Lexicographic.{bytes_decides, slice_cmp}
use Rattle.std.specs.Ordering.{nat_cmp}
use Rattle.std.specs.declared.cmp.Ordering.{Ordering}
use Rattle.std.specs.declared.cmp.Ordering.TheVariants.{Less, Equal, Greater}
use Rattle.std.specs.Str.{bytes_eq}
use Rattle.std.proofs.lemmas.Bool.{cases_Bool, eqb-true, or_parts}
use Rattle.std.proofs.lemmas.List.Elements.{All-cons, All-contains, All-map, All-nil, Contains-get_or}
use Rattle.mode_rules.specs.declared.Mode.{Mode}
use Rattle.mode_rules.specs.declared.Mode.TheVariants as mode
use Rattle.lock_entry.specs.declared.entry.Asked.{Asked}
use Rattle.lock_objects.specs.Arguments.{arguments, asked_of, values_fault}
use Rattle.lock_objects.specs.Objects.{Object}
use Rattle.lock_objects.specs.declared.field.KeyTable.{KeyTable}
use Rattle.lock_objects.specs.declared.value.FieldValue.{FieldValue}
use Rattle.coverage.specs.Lacks.{differs, uneven, widest, widest_of, with_name}
use Rattle.cover_laws.proofs.needed.CoverageNeeded.{HeldIsEven, stand}
use Rattle.cover_laws.proofs.script.ArgumentLengths.{length_of_argument}
use Rattle.cover_laws.proofs.script.Findings.{none_mapped, none_uneven}
use Rattle.cover_laws.proofs.Lists.{found_stands, stands_in_flat, stands_mapped}
use Rattle.cover_laws.proofs.script.ExclusiveHeld.{all_held, of_covering}

-- ---- no table is uneven

some_name : (names : List (List ℕ)) (n : List ℕ) → with_name names n ≡ [] → ⊥
some_name [] n h = cc
some_name (m ∷ names) n h = by_order (slice_cmp nat_cmp n m) h
  where
    by_order : (o : Ordering) → elim o as (λ _. List (List ℕ)) [ Less ↦ n ∷ m ∷ names | Equal ↦ m ∷ names | Greater ↦ m ∷ with_name names n ] ≡ [] → ⊥
    by_order Less h = cc
    by_order Equal h = cc
    by_order Greater h = cc

no_names : (names ns : List (List ℕ)) → fold with_name names ns ≡ [] → names ≡ []
no_names names [] h = h
no_names names (n ∷ ns) h = absurd (some_name names n (no_names (with_name names n) ns h))

none_named : (ns : List (List ℕ)) → fold with_name [] ns ≡ [] → ns ≡ []
none_named [] h = refl
none_named (n ∷ ns) h = absurd (some_name [] n (no_names (with_name [] n) ns h))

none_passes : {A : Type 0} (test : A → Bool) (xs : List A) → filter test xs ≡ [] → All (λ x. test x ≡ false) xs
none_passes test [] h = All-nil (λ x. test x ≡ false)
none_passes test (x ∷ xs) h =
    elim (cases_Bool (test x)) [
      | inl here ↦ absurd (let k = rw here at h in cc)
      | inr other ↦ All-cons (λ y. test y ≡ false) x xs other (none_passes test xs (rw other at h))
    ]

none_any : {A : Type 0} (test : A → Bool) (xs : List A) → list_any test xs ≡ false → All (λ x. test x ≡ false) xs
none_any test [] h = All-nil (λ x. test x ≡ false)
none_any test (x ∷ xs) h =
    let both = or_parts (test x) (list_any test xs) h in
    All-cons (λ y. test y ≡ false) x xs both.0 (none_any test xs both.1)

even_lengths : (alike even : Bool) → (alike && not even) ≡ false → alike ≡ true → even ≡ true
even_lengths alike true h same = refl
even_lengths true false h same = absurd (true≢false h)
even_lengths false false h same = absurd (true≢false (sym same))

-- two of the widest locks on one table have one length
widest_even : (os : List Object) (a b : Asked) → uneven os ≡ [] → Contains (widest os) a → Contains (widest os) b → b.table ≡ a.table
    → length b.pattern ≡ length a.pattern
widest_even os a b none at_a at_b same =
    let locks = widest os in
    let odd : Asked → Bool = λ c. list_any (differs c) locks in
    let none_odd : All (λ (c : Asked). odd c ≡ false) locks =
    none_passes odd locks (none_mapped (λ (c : Asked). c.table) (filter odd locks) (none_named _ none)) in
    let like : All (λ (d : Asked). differs a d ≡ false) locks =
    none_any (differs a) locks (All-contains (λ (c : Asked). odd c ≡ false) locks a none_odd at_a) in
    let alike : differs a b ≡ false = All-contains (λ (d : Asked). differs a d ≡ false) locks b like at_b in
    eqb-true (length b.pattern) (length a.pattern)
    (even_lengths (bytes_eq b.table a.table) (nat_eq (length b.pattern) (length a.pattern)) alike ((bytes_decides b.table a.table).1 same))

-- ---- each lock is as long as one of these

record IsAsWide (os : List Object) (a : Asked) : Type 0 where
  wide : Asked
  among : Contains (widest os) wide
  on : wide.table ≡ a.table
  long : length a.pattern ≡ length wide.pattern

wide_arguments : (os : List Object) (o : Object) (values : List FieldValue) (m : Mode) → Contains os o → values_fault o.fields values ≡ None
    → All (IsAsWide os) (arguments o values m)
wide_arguments os o values m among right =
    All-map (IsAsWide os) (asked_of o.fields values m) o.tables
    (λ k t within. as_wide (get_or o.tables k t) (Contains-get_or o.tables k t within))
  where
    as_wide : (t : KeyTable) → Contains o.tables t → IsAsWide os (asked_of o.fields values m t)
    as_wide t inside = record {
      wide = asked_of o.fields [] mode.E t;
      among = stands_in_flat widest_of os o (asked_of o.fields [] mode.E t) among (stands_mapped (asked_of o.fields [] mode.E) o.tables t inside);
      on = refl;
      long = length_of_argument o.fields values t.keys right ∙ sym (length_of_argument o.fields [] t.keys refl);
    }

pub held_is_even : HeldIsEven
held_is_even os lines first second a b clean at_a at_b same =
    let P = IsAsWide os in
    let asked = of_covering P os (λ o values m name found right exclusive.
    wide_arguments os o values m (found_stands (λ (p : Object). bytes_eq p.name name) os o found) right) in
    let wa : IsAsWide os a = All-contains P (stand os first).held a (all_held P os asked first) at_a in
    let wb : IsAsWide os b = All-contains P (stand os second).held b (all_held P os asked second) at_b in
    wa.long
    ∙ widest_even os wb.wide wa.wide (none_uneven os lines clean) wb.among wa.among (wa.on ∙ same ∙ sym wb.on)
    ∙ sym wb.long
