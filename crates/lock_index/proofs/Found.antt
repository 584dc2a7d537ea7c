-- Places that are found one by one.
use Rattle.std.proofs.Common.{◌≡◌, ℕ, ◌+◌, ◌<◌, List, Bool, true, false, ◌&&◌, ◌||◌, nat_eq, length, take, get_or, Option, sym, ◌∙◌, ap, refl, inl, inr}
use Rattle.std.specs.List.{list_any}
use Rattle.std.proofs.lemmas.Bool.{cases_Bool, eqb-true}
use Rattle.lock_entry.specs.declared.entry.Entry.{Entry}
use Rattle.lock_index.specs.declared.search.Search.{Search}
use Rattle.lock_index.specs.Searches.{finds}
use Rattle.lock_index.specs.Slots.{on_some, slot_at}
use Rattle.lock_index.proofs.Numbers.{any-more}
use Rattle.lock_index.proofs.Oldest.{with-more}
use Rattle.lock_index.proofs.Owned.{get_or-same}

at-place : (h m f : Bool) → ((h || (m && f)) || (f && true)) ≡ (h || ((m || true) && f))
at-place true m f = refl
at-place false true true = refl
at-place false true false = refl
at-place false false true = refl
at-place false false false = refl

elsewhere : (h m f g : Bool) → ((h || (m && f)) || (g && false)) ≡ (h || ((m || false) && f))
elsewhere true m f g = refl
elsewhere false true true g = refl
elsewhere false true false true = refl
elsewhere false true false false = refl
elsewhere false false f true = refl
elsewhere false false f false = refl

module _ (slots : List (Option Entry)) (s : Search) where
  abbrev found : ℕ → Bool
  found j = on_some (finds s) (slot_at slots j)

  -- one place more
  pub place-more : (ps : List ℕ) (k : ℕ) (h : Bool) (i : ℕ) → k < length ps
      → ((h || (list_any (nat_eq i) (take k ps) && found i)) || (found (get_or ps k 0) && nat_eq i (get_or ps k 0)))
      ≡ (h || (list_any (nat_eq i) (take (k + 1) ps) && found i))
  place-more ps k h i below =
      let p = get_or ps k 0 in
      let m = list_any (nat_eq i) (take k ps) in
      let longer : list_any (nat_eq i) (take (k + 1) ps) ≡ (m || nat_eq i p) = any-more (nat_eq i) ps k p below (get_or-same ps k 0 p below) in
      elim (cases_Bool (nat_eq i p)) [
        | inl e ↦
            let is : i ≡ p = eqb-true i p e in
            ap (λ j. (h || (m && found i)) || (found j && nat_eq i p)) (sym is)
            ∙ ap (λ b. (h || (m && found i)) || (found i && b)) e
            ∙ at-place h m (found i)
            ∙ sym (ap (λ b. h || (b && found i)) (longer ∙ ap (λ b. m || b) e))
        | inr e ↦
            ap (λ b. (h || (m && found i)) || (found p && b)) e
            ∙ elsewhere h m (found i) (found p)
            ∙ sym (ap (λ b. h || (b && found i)) (longer ∙ ap (λ b. m || b) e))
      ]

  -- one number of literal bytes more
  pub length-more : (under : ℕ → Bool) (ns : List ℕ) (k : ℕ) (h : Bool) (i : ℕ) → k < length ns
      → ((h || (list_any under (take k ns) && found i)) || (under (get_or ns k 0) && found i)) ≡ (h || (list_any under (take (k + 1) ns) && found i))
  length-more under ns k h i below =
      let n = get_or ns k 0 in
      with-more h (list_any under (take k ns)) (under n) (found i)
      ∙ ap (λ b. h || (b && found i)) (sym (any-more under ns k n below (get_or-same ns k 0 n below)))
