-- Keys that are told apart one after the other, by a set of those before.
use Rattle.std.proofs.Common.{◌≡◌, ◌↔◌, Bool, true, false, not, cond, IsTrue, List, [], ◌∷◌, map, refl, sym, ap, ◌∙◌, subst}
use Rattle.std.specs.List.{AllByRecursion, IsDistinct}
use Rattle.keeper_api.specs.Batch.{spot_of, is_same_spot}
use Rattle.keeper_api.specs.Rows.{Spot}
use Rattle.keeper_api.specs.declared.rows.Change.{Change}

-- the rows of the changes are told apart, and none of them was seen
abbrev pub AreNew : (Spot → Bool) → List Change → Type 0
AreNew seen changes = IsDistinct is_same_spot (map spot_of changes) × AllByRecursion (λ s. seen s ≡ false) (map spot_of changes)

abbrev pub AreDistinct : List Change → Type 0
AreDistinct changes = IsDistinct is_same_spot (map spot_of changes)

module _ (seen now : Spot → Bool) (at : Spot) (sets : (s : Spot) → now s ≡ cond (is_same_spot at s) true (seen s)) where
  both_false : (a b : Bool) → cond a true b ≡ false → (a ≡ false) × (b ≡ false)
  both_false true b h = absurd cc
  both_false false b h = (refl, h)

  apart_and_new : (changes : List Change) → AllByRecursion (λ s. now s ≡ false) (map spot_of changes)
      → AllByRecursion (λ s. is_same_spot at s ≡ false) (map spot_of changes) × AllByRecursion (λ s. seen s ≡ false) (map spot_of changes)
  apart_and_new [] h = (tt, tt)
  apart_and_new (c ∷ changes) h =
      let first = both_false (is_same_spot at (spot_of c)) (seen (spot_of c)) (sym (sets (spot_of c)) ∙ h.0) in
      let rest = apart_and_new changes h.1 in
      ((first.0, rest.0), (first.1, rest.1))

  still_new : (changes : List Change) → AllByRecursion (λ s. is_same_spot at s ≡ false) (map spot_of changes)
      → AllByRecursion (λ s. seen s ≡ false) (map spot_of changes) → AllByRecursion (λ s. now s ≡ false) (map spot_of changes)
  still_new [] apart new = tt
  still_new (c ∷ changes) apart new = (sets (spot_of c) ∙ ap (λ b. cond b true (seen (spot_of c))) apart.0 ∙ new.0, still_new changes apart.1 new.1)

pub goes_on : (seen now : Spot → Bool) (batch rest : List Change) (c : Change) (after : List Change) → rest ≡ c ∷ after
    → ((s : Spot) → now s ≡ cond (is_same_spot (spot_of c) s) true (seen s)) → true ≡ not (seen (spot_of c))
    → AreNew seen rest ↔ AreDistinct batch → AreNew now after ↔ AreDistinct batch
unfolding IsDistinct
goes_on seen now batch rest c after is sets new same = (
  λ h. let parts = apart_and_new seen now (spot_of c) sets after h.1 in same.0
      (subst (AreNew seen) (sym is) ((parts.0, h.0), (unseen (seen (spot_of c)) new, parts.1))),
  λ d. let h = subst (AreNew seen) is (same.1 d) in (h.0.1, still_new seen now (spot_of c) sets after h.0.0 h.1.1),
) where
  unseen : (b : Bool) → true ≡ not b → b ≡ false
  unseen true h = cc
  unseen false h = refl

pub ends : (seen : Spot → Bool) (batch rest : List Change) → rest ≡ [] → AreNew seen rest ↔ AreDistinct batch → IsTrue true ↔ AreDistinct batch
unfolding IsDistinct
ends seen batch rest is same = (λ h. same.0 (subst (AreNew seen) (sym is) (tt, tt)), λ d. refl)
