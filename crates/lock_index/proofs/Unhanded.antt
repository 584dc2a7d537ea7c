-- Entries that pass two tests, by the places of those that pass the one.
use Rattle.std.proofs.Common.{◌≡◌, ℕ, zero, suc, List, [], ◌∷◌, Bool, true, false, true≢false, ◌&&◌, nat_eq, Option, Some, None, sym, ◌∙◌, ap, refl, inl, inr}
use Rattle.std.specs.Cmp.{both_ways}
use Rattle.std.specs.List.{list_any}
use Rattle.std.proofs.lemmas.Bool.{and_from, and_parts, or_cases, or_left, or_right, eqb-true, eq-eqb}
use Rattle.lock_entry.specs.declared.entry.Entry.{Entry}
use Rattle.lock_index.specs.Slots.{slot_at, live, on_some}

module _ (q p : Entry → Bool) where
  abbrev both : Entry → Bool
  both e = q e && p e

  on-both : (o : Option Entry) → on_some both o ≡ (on_some q o && on_some p o)
  on-both None = refl
  on-both (Some e) = refl

  at-any : (ss : List (Option Entry)) (j : ℕ) → on_some both (slot_at ss j) ≡ true → list_any both (live ss) ≡ true
  at-any [] j h = absurd (true≢false (sym h))
  at-any (None ∷ ss) zero h = absurd (true≢false (sym h))
  at-any (Some e ∷ ss) zero h = or_left (both e) _ h
  at-any (None ∷ ss) (suc j) h = at-any ss j h
  at-any (Some e ∷ ss) (suc j) h = or_right (both e) _ (at-any ss j h)

  -- a property of places that each entry has that passes both tests
  any-at : (ss : List (Option Entry)) (b : Bool) → ((j : ℕ) → on_some both (slot_at ss j) ≡ true → b ≡ true) → list_any both (live ss) ≡ true → b ≡ true
  any-at [] b k h = absurd (true≢false (sym h))
  any-at (None ∷ ss) b k h = any-at ss b (λ j. k (suc j)) h
  any-at (Some e ∷ ss) b k h =
      elim (or_cases (both e) (list_any both (live ss)) h) [
        | inl t ↦ k 0 t
        | inr t ↦ any-at ss b (λ j. k (suc j)) t
      ]

  module _ (ss : List (Option Entry)) where
    abbrev passes : ℕ → Bool
    passes i = on_some p (slot_at ss i)

    member-any : (j : ℕ) (ps : List ℕ) → list_any (nat_eq j) ps ≡ true → passes j ≡ true → list_any passes ps ≡ true
    member-any j [] m t = m
    member-any j (i ∷ is) m t =
        elim (or_cases (nat_eq j i) (list_any (nat_eq j) is) m) [
          | inl e ↦ or_left (passes i) _ (ap passes (sym (eqb-true j i e)) ∙ t)
          | inr l ↦ or_right (passes i) _ (member-any j is l t)
        ]

    any-member : (b : Bool) (ps : List ℕ) → ((j : ℕ) → list_any (nat_eq j) ps ≡ true → passes j ≡ true → b ≡ true) → list_any passes ps ≡ true → b ≡ true
    any-member b [] k h = absurd (true≢false (sym h))
    any-member b (i ∷ is) k h =
        elim (or_cases (passes i) (list_any passes is) h) [
          | inl t ↦ k i (or_left (nat_eq i i) _ (eq-eqb i i refl)) t
          | inr t ↦ any-member b is (λ j m. k j (or_right (nat_eq j i) _ m)) t
        ]

    -- Where the places are those of the entries that pass the one test, one of them passes the other just where an entry passes both.
    pub any-placed : (ps : List ℕ) → ((j : ℕ) → list_any (nat_eq j) ps ≡ on_some q (slot_at ss j)) → list_any passes ps ≡ list_any both (live ss)
    any-placed ps shown =
        both_ways (list_any passes ps) (list_any both (live ss))
        (any-member (list_any both (live ss)) ps
        (λ j m t. at-any ss j (on-both (slot_at ss j) ∙ and_from (on_some q (slot_at ss j)) (passes j) (sym (shown j) ∙ m) t)))
        (any-at ss (list_any passes ps)
        (λ j h.
        let hs = and_parts (on_some q (slot_at ss j)) (passes j) (sym (on-both (slot_at ss j)) ∙ h) in
        member-any j ps (shown j ∙ hs.0) hs.1))
