-- The private side of a session where it is changed, ended or begun.
use Rattle.std.proofs.Common.{◌≡◌, ℕ, Bool, true, cond, not, List, [], ◌∷◌, Option, Some, None, refl, sym, ap, ◌∙◌, inl, inr}
use Rattle.std.specs.Str.{bytes_eq}
use Rattle.std.proofs.lemmas.Bool.{cases_Bool}
use Rattle.lock_entry.proofs.lemmas.Naming.{bytes_eq-refl}
use Rattle.dialogue_session.specs.Private.{Private, fresh}
use Rattle.script_runner.specs.Sides.{is_side_of, side_of, with_new_side, with_side, without_side}

module _ (name : List ℕ) where
  abbrev first_of : Private → Bool → List Private → Option Private
  first_of x b xs = cond b (Some x) (side_of xs name)

  -- a change that leaves it the session's
  pub side_changed : (change : Private → Private) → ((x : Private) → (change x).session ≡ x.session) → (sides : List Private) (x : Private)
      → side_of sides name ≡ Some x → side_of (with_side name change sides) name ≡ Some (change x)
  side_changed change same [] x at = absurd (cc)
  side_changed change same (y ∷ ys) x at =
      let rest : List Private = with_side name change ys in
      elim (cases_Bool (is_side_of name y)) [
        | inl here ↦
            let is : Some y ≡ Some x = sym (ap (λ (b : Bool). first_of y b ys) here) ∙ at in
            let one : y ≡ x = cc in
            let still : is_side_of name (change y) ≡ true = ap (λ (s : List ℕ). bytes_eq s name) (same y) ∙ here in
            ap (λ (b : Bool). side_of (cond b (change y ∷ ys) (y ∷ rest)) name) here
            ∙ ap (λ (b : Bool). first_of (change y) b ys) still
            ∙ ap (λ (z : Private). Some (change z)) one
        | inr other ↦
            ap (λ (b : Bool). side_of (cond b (change y ∷ ys) (y ∷ rest)) name) other
            ∙ ap (λ (b : Bool). first_of y b rest) other
            ∙ side_changed change same ys x (sym (ap (λ (b : Bool). first_of y b ys) other) ∙ at)
      ]

  pub side_gone : (sides : List Private) → side_of (without_side name sides) name ≡ None
  side_gone [] = refl
  side_gone (y ∷ ys) =
      let rest : List Private = without_side name ys in
      elim (cases_Bool (is_side_of name y)) [
        | inl here ↦ ap (λ (b : Bool). side_of (cond (not b) (y ∷ rest) rest) name) here ∙ side_gone ys
        | inr other ↦
            ap (λ (b : Bool). side_of (cond (not b) (y ∷ rest) rest) name) other
            ∙ ap (λ (b : Bool). first_of y b rest) other
            ∙ side_gone ys
      ]

  pub side_begun : (sides : List Private) → side_of sides name ≡ None → side_of (with_new_side name sides) name ≡ Some (fresh name)
  side_begun [] at = ap (λ (b : Bool). first_of (fresh name) b []) (bytes_eq-refl name)
  side_begun (y ∷ ys) at =
      elim (cases_Bool (is_side_of name y)) [
        | inl here ↦
            let wrong : Some y ≡ None = sym (ap (λ (b : Bool). first_of y b ys) here) ∙ at in
            absurd (cc)
        | inr other ↦
            ap (λ (b : Bool). first_of y b (with_new_side name ys)) other
            ∙ side_begun ys (sym (ap (λ (b : Bool). first_of y b ys) other) ∙ at)
      ]
