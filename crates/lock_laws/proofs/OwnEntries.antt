-- The entries of one owner, by themselves.
use Rattle.std.proofs.Common.{◌≡◌, Bool, true, false, not, ◌&&◌, List, [], ◌∷◌, refl, ap, map, inl, inr}
use Rattle.std.specs.List.{filter}
use Rattle.std.proofs.lemmas.Bool.{cases_Bool}
use Rattle.enq_base.specs.declared.owner.Owner.{Owner}
use Rattle.mode_rules.specs.declared.Mode.TheVariants.{O}
use Rattle.mode_rules.specs.Modes.{same_mode}
use Rattle.lock_entry.specs.declared.entry.Entry.{Entry}
use Rattle.lock_entry.specs.Names.{is_of}
use Rattle.lock_entry.specs.Freeing.{flagged, without_optimistic}

-- what passes one test and then another
pub filter-filter : {X : Type 0} (p q : X → Bool) (xs : List X) → filter q (filter p xs) ≡ filter (λ x. p x && q x) xs
filter-filter p q [] = refl
filter-filter p q (x ∷ xs) =
    let rest = filter-filter p q xs in
    elim (cases_Bool (p x)) [
      | inl e ↦ rw e (elim (cases_Bool (q x)) [ inl f ↦ rw f (ap (λ ys. x ∷ ys) rest) | inr f ↦ rw f rest ])
      | inr e ↦ rw e rest
    ]

-- the owner's entries may be handed over by themselves
pub handed_over-own : (owner : Owner) (es : List Entry) → map (flagged owner) (without_optimistic (filter (is_of owner) es) owner) ≡ filter (is_of owner)
    (map (flagged owner) (without_optimistic es owner))
handed_over-own owner [] = refl
handed_over-own owner (e ∷ es) =
    let rest = handed_over-own owner es in
    elim (cases_Bool (is_of owner e)) [
      | inl own ↦ elim (cases_Bool (same_mode e.mode O)) [
        | inl mild ↦ simp (own, mild) rest
        | inr firm ↦ simp (own, firm) (ap (λ ys. record e { handed = true } ∷ ys) rest)
      ]
      | inr other ↦ simp other rest
    ]
