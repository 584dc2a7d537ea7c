-- Private sides that are found by their sessions' names, of which the lines see no room for variables.
use Rattle.std.proofs.Common.{◌≡◌, ℕ, Bool, true, false, cond, not, List, [], ◌∷◌, map, filter, Option, Some, None, refl, sym, ap, ◌∙◌, inl, inr, subst}
use Rattle.std.specs.List.{find}
use Rattle.std.specs.Map.{lookup, remove_entry, set_value, values_of}
use Rattle.std.specs.Option.{option_copied, option_map, option_map_or}
use Rattle.std.specs.Borrow.{Bor}
use Rattle.std.specs.Prelude.{◌≤◌, Result, Ok, Err, OnOk}
use Rattle.std.specs.Str.{bytes_eq}
use Rattle.std.proofs.lemmas.Bool.{cases_Bool}
use Rattle.std.proofs.lemmas.List.{map-append}
use Rattle.dialogue_session.specs.Private.{DialogueView, Private, fresh}
use Rattle.indexmap.specs.IndexMap.{IndexMap, get, insert_entry}
use Rattle.hall_calls.specs.Named.{AreNamed}
use Rattle.hall_calls.proofs.lemmas.NamedValues.{added_by_name, are_named_added, are_named_changed, changed_by_name, found_by_name, name_eq, taken_by_name, unchanged_by_name}
use Rattle.lock_entry.specs.Freeing.{replace_first}
use Rattle.script_runner.specs.Sides.{is_side_of, side_of, with_new_side, with_side, without_side}

abbrev pub owner : DialogueView → List ℕ
owner d = d.side.session

abbrev pub side : DialogueView → Private
side d = d.side

abbrev pub sides_in : List (List ℕ × DialogueView) → List Private
sides_in es = map side (values_of es)

abbrev pub is_owned : List ℕ → DialogueView → Bool
is_owned n d = bytes_eq d.side.session n

-- a side that is borrowed
pub borrowed : (o : Option (Bor DialogueView)) → option_map (λ d. d.now.side) o ≡ option_map side (option_copied o)
borrowed None = refl
borrowed (Some d) = refl

found : (n : List ℕ) (ds : List DialogueView) → option_map side (find (is_owned n) ds) ≡ side_of (map side ds) n
found n [] = refl
found n (d ∷ ds) = elim (cases_Bool (is_owned n d)) [ inl t ↦ rw t refl | inr t ↦ rw t (found n ds) ]

replaced : (n : List ℕ) (change : Private → Private) (turn : DialogueView → DialogueView) → ((d : DialogueView) → (turn d).side ≡ change d.side)
    → (ds : List DialogueView) → map side (replace_first (is_owned n) (λ d. turn d ∷ []) ds) ≡ with_side n change (map side ds)
replaced n change turn turns [] = refl
replaced n change turn turns (d ∷ ds) =
    elim (cases_Bool (is_owned n d)) [
      | inl t ↦ rw t (ap (λ p. p ∷ map side ds) (turns d))
      | inr t ↦ rw t (ap (λ ps. d.side ∷ ps) (replaced n change turn turns ds))
    ]

same_side : (n : List ℕ) (ps : List Private) → with_side n (λ p. p) ps ≡ ps
same_side n [] = refl
same_side n (p ∷ ps) =
    elim (is_side_of n p) as (λ b. cond b (p ∷ ps) (p ∷ with_side n (λ p. p) ps) ≡ p ∷ ps) [ true ↦ refl | false ↦ ap (λ xs. p ∷ xs) (same_side n ps) ]

left : (n : List ℕ) (ds : List DialogueView) → map side (filter (λ d. not (is_owned n d)) ds) ≡ without_side n (map side ds)
left n [] = refl
left n (d ∷ ds) = elim (cases_Bool (is_owned n d)) [ inl t ↦ rw t (left n ds) | inr t ↦ rw t (ap (λ ps. d.side ∷ ps) (left n ds)) ]

pub not_found : (n : List ℕ) (es : List (List ℕ × DialogueView)) → option_map side (lookup (name_eq n) es) ≡ None → lookup (name_eq n) es ≡ None
not_found n es h = none (lookup (name_eq n) es) h
  where
    none : (o : Option DialogueView) → option_map side o ≡ None → o ≡ None
    none None e = refl
    none (Some d) e = absurd (cc)

-- ---- what a map of sides does

pub side_found : (n : List ℕ) (es : List (List ℕ × DialogueView)) → AreNamed owner es → option_map side (lookup (name_eq n) es) ≡ side_of (sides_in es) n
side_found n es h = ap (option_map side) (found_by_name owner n es h) ∙ found n (values_of es)

pub side_changed : (n : List ℕ) (change : Private → Private) (es : List (List ℕ × DialogueView)) (x y : DialogueView) → AreNamed owner es
    → Some x ≡ lookup (name_eq n) es → y.side ≡ change x.side → sides_in (set_value (name_eq n) es y) ≡ with_side n change (sides_in es)
side_changed n change es x y h at is =
    let turn : DialogueView → DialogueView = (λ d. record { side = change d.side; room = y.room }) in
    let turned : y ≡ turn x = ap (λ (p : Private). record { side = p; room = y.room }) is in
    ap (map side) (changed_by_name owner n turn es x y h at turned) ∙ replaced n change turn (λ d. refl) (values_of es)

pub side_kept : (n : List ℕ) (es : List (List ℕ × DialogueView)) (x y : DialogueView) → AreNamed owner es → Some x ≡ lookup (name_eq n) es → y.side ≡ x.side
    → sides_in (set_value (name_eq n) es y) ≡ sides_in es
side_kept n es x y h at is = side_changed n (λ p. p) es x y h at is ∙ same_side n (sides_in es)

pub side_unchanged : (n : List ℕ) (change : Private → Private) (es : List (List ℕ × DialogueView)) → AreNamed owner es → lookup (name_eq n) es ≡ None
    → sides_in es ≡ with_side n change (sides_in es)
side_unchanged n change es h none =
    let turn : DialogueView → DialogueView = (λ d. record { side = change d.side; room = d.room }) in
    ap (map side) (unchanged_by_name owner n (λ d. turn d ∷ []) es h none) ∙ replaced n change turn (λ d. refl) (values_of es)

pub side_taken : (n : List ℕ) (es : List (List ℕ × DialogueView)) → AreNamed owner es → lookup (name_eq n) (remove_entry (name_eq n) es) ≡ None
    → sides_in (remove_entry (name_eq n) es) ≡ without_side n (sides_in es)
side_taken n es h gone = ap (map side) (taken_by_name owner n es h gone) ∙ left n (values_of es)

new_side : (s : List ℕ) (d : DialogueView) → d.side ≡ fresh s → d ≡ record { side = fresh s; room = d.room }
new_side s d is = ap (λ (p : Private). record { side = p; room = d.room }) is

pub side_added : {S : Type 0} (m : IndexMap (List ℕ) DialogueView S) (s : List ℕ) (d : DialogueView) → d.side ≡ fresh s → get name_eq m s ≡ None
    → sides_in (insert_entry name_eq m.entries s d) ≡ with_new_side s (sides_in m.entries)
side_added m s d is free =
    let made : DialogueView = record { side = fresh s; room = d.room } in
    ap (λ x. sides_in (insert_entry name_eq m.entries s x)) (new_side s d is) ∙ ap (map side) (added_by_name owner m made free)
    ∙ map-append side (values_of m.entries) (made ∷ [])

pub named_added : {S : Type 0} (m : IndexMap (List ℕ) DialogueView S) (s : List ℕ) (d : DialogueView) → d.side ≡ fresh s → get name_eq m s ≡ None
    → AreNamed owner m.entries → AreNamed owner (insert_entry name_eq m.entries s d)
named_added m s d is free h =
    let made : DialogueView = record { side = fresh s; room = d.room } in
    subst (λ x. AreNamed owner (insert_entry name_eq m.entries s x)) (sym (new_side s d is)) (are_named_added owner m made free h)

-- ---- room for variables

written : (n : List ℕ) (es : List (List ℕ × DialogueView)) (x y : DialogueView) → Some x ≡ lookup (name_eq n) es
    → lookup (name_eq n) (set_value (name_eq n) es y) ≡ Some y
written n [] x y at = absurd (cc)
written n (e ∷ es) x y at =
    elim (cases_Bool (name_eq n e.0)) [
      | inl t ↦ rw (t, t) refl
      | inr t ↦ let k = rw t at at in rw (t, t) (written n es x y k)
    ]

-- the side that was written is the one of its name
pub room_written : (n : List ℕ) (es : List (List ℕ × DialogueView)) (x y : DialogueView) → AreNamed owner es → Some x ≡ lookup (name_eq n) es
    → y.side.session ≡ x.side.session → option_map_or (λ (d : DialogueView). d.room) (find (is_owned n) (values_of (set_value (name_eq n) es y))) 0 ≡ y.room
room_written n es x y h at same =
    let named = are_named_changed owner n es x y h at same in
    ap (λ o. option_map_or (λ (d : DialogueView). d.room) o 0)
    (sym (found_by_name owner n (set_value (name_eq n) es y) named) ∙ written n es x y at)

-- there is room for one variable more
pub room_made : {E : Type 0} (n : List ℕ) (es new : List (List ℕ × DialogueView)) (x y : DialogueView) (r : Result Unit E) → AreNamed owner es
    → Some x ≡ lookup (name_eq n) es → y.side ≡ x.side → new ≡ set_value (name_eq n) es y → OnOk r (1 ≤ y.room)
    → OnOk r (1 ≤ option_map_or (λ (d : DialogueView). d.room) (find (is_owned n) (values_of new)) 0)
room_made n es new x y (Err e) h at same is room = tt
room_made n es new x y (Ok done) h at same is room =
    let same_room = ap (λ l. option_map_or (λ (d : DialogueView). d.room) (find (is_owned n) (values_of l)) 0) is
    ∙ room_written n es x y h at (ap (λ (p : Private). p.session) same) in
    subst (λ k. 1 ≤ k) (sym same_room) room

-- the room of the side that is found
pub room_found : (n : List ℕ) (es : List (List ℕ × DialogueView)) (o : Option DialogueView) → AreNamed owner es → o ≡ lookup (name_eq n) es
    → 1 ≤ option_map_or (λ (d : DialogueView). d.room) (find (is_owned n) (values_of es)) 0 → 1 ≤ option_map_or (λ (d : DialogueView). d.room) o 0
room_found n es o h at room =
    subst (λ k. 1 ≤ k) (ap (λ d. option_map_or (λ (d : DialogueView). d.room) d 0) (sym (at ∙ found_by_name owner n es h))) room
