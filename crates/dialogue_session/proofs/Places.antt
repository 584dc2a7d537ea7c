-- The place of a variable.
use Rattle.std.proofs.Common.{◌≡◌, ℕ, zero, suc, ◌+◌, ◌<◌, List, [], ◌∷◌, ◌++◌, false, length, get_or, set, Some, None, sym, ◌∙◌, ap, refl, arith, inl, inr}
use Rattle.std.specs.List.{find, list_any, position, position_or_len}
use Rattle.std.specs.Option.{option_map}
use Rattle.std.proofs.lemmas.Bool.{cases_Bool}
use Rattle.std.proofs.lemmas.Option.{slice_get_read}
use Rattle.lock_entry.proofs.lemmas.Places.{position-None, position-Some, position-find_none, position-find_some}
use Rattle.dialogue_session.specs.Variables.{is_called, text_of, with_text}
use Rattle.dialogue_session.specs.declared.variables.Variable.{Variable}

set-at : (name text : List ℕ) (vs : List Variable) (i : ℕ) → position_or_len (is_called name) vs ≡ i → i < length vs
    → with_text name text vs ≡ set vs i (record { name = name; text = text })
set-at name text [] i e h = absurd (omega arith)
set-at name text (v ∷ vs) zero e h =
    elim (cases_Bool (is_called name v)) [
      | inl t ↦ rw t refl
      | inr t ↦ let k = rw t at e in let none : 1 + position_or_len (is_called name) vs ≡ 0 = k in absurd (omega arith)
    ]
set-at name text (v ∷ vs) (suc i) e h =
    elim (cases_Bool (is_called name v)) [
      | inl t ↦ let k = rw t at e in let none : 0 ≡ suc i = k in absurd (omega arith)
      | inr t ↦
          let k = rw t at e in
          let next : 1 + position_or_len (is_called name) vs ≡ suc i = k in
          let here : position_or_len (is_called name) vs ≡ i = omega arith in
          let within : i < length vs = omega arith in
          rw t (ap (λ xs. v ∷ xs) (set-at name text vs i here within))
    ]

add-at_end : (name text : List ℕ) (vs : List Variable) → list_any (is_called name) vs ≡ false
    → with_text name text vs ≡ vs ++ record { name = name; text = text } ∷ []
add-at_end name text [] h = refl
add-at_end name text (v ∷ vs) h =
    elim (cases_Bool (is_called name v)) [
      | inl t ↦ absurd (let k = rw t at h in cc)
      | inr t ↦ let k = rw t at h in rw t (ap (λ xs. v ∷ xs) (add-at_end name text vs k))
    ]

-- the text of a variable that is there is changed in its place
pub with_text-known : (name text given : List ℕ) (vs slice seen : List Variable) (i : ℕ) → position (is_called name) slice ≡ Some i → slice ≡ vs → vs ≡ seen
    → given ≡ text → set vs i (record { name = name; text = given }) ≡ with_text name text seen
with_text-known name text given vs slice seen i h same view is =
    let at = position-Some (is_called name) vs i (ap (position (is_called name)) (sym same) ∙ h) in
    ap (λ t. set vs i (record { name = name; text = t })) is ∙ sym (set-at name text vs i at.0 at.1) ∙ ap (with_text name text) view

-- a new variable comes last
pub with_text-new : (name text given : List ℕ) (vs slice seen : List Variable) → position (is_called name) slice ≡ None → slice ≡ vs → vs ≡ seen → given ≡ text
    → vs ++ record { name = name; text = given } ∷ [] ≡ with_text name text seen
with_text-new name text given vs slice seen h same view is =
    let none = position-None (is_called name) vs (ap (position (is_called name)) (sym same) ∙ h) in
    ap (λ t. vs ++ record { name = name; text = t } ∷ []) is ∙ sym (add-at_end name text vs none) ∙ ap (with_text name text) view

-- the text of a variable that is there
pub text_of-known : (name : List ℕ) (vs slice seen : List Variable) (i : ℕ) (v : Variable) → position (is_called name) slice ≡ Some i → slice ≡ vs → vs ≡ seen
    → v ≡ get_or vs i v → Some v.text ≡ text_of seen name
text_of-known name vs slice seen i v h same view read =
    let place = ap (position (is_called name)) (sym same) ∙ h in
    let at = position-Some (is_called name) vs i place in
    let found : find (is_called name) vs ≡ Some v =
    position-find_some (is_called name) vs i place ∙ slice_get_read vs (length vs) i v refl at.1 read in
    ap (option_map (λ (x : Variable). x.text)) (sym found) ∙ ap (λ xs. text_of xs name) view

pub text_of-none : (name : List ℕ) (vs slice seen : List Variable) → position (is_called name) slice ≡ None → slice ≡ vs → vs ≡ seen → None ≡ text_of seen name
text_of-none name vs slice seen h same view =
    let none = position-find_none (is_called name) vs (ap (position (is_called name)) (sym same) ∙ h) in
    ap (option_map (λ (x : Variable). x.text)) (sym none) ∙ ap (λ xs. text_of xs name) view
