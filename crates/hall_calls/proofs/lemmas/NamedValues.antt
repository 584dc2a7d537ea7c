-- Values that are found by a name of their own: what a map of them does is said of the list of its values.
use Rattle.std.proofs.Common.{◌≡◌, ◌⊎◌, inl, inr, ℕ, Bool, true, false, true≢false, cond, not, List, [], ◌∷◌, ◌++◌, length, take, filter, Some, None, Result}
use Rattle.std.proofs.Common.{Ok, Err, IsOk, OnOk, refl, sym, ap, ◌∙◌, subst}
use Rattle.std.specs.Cmp.Lexicographic.{bytes_decides}
use Rattle.std.specs.List.{find}
use Rattle.std.specs.Map.{lookup, remove_entry, set_value, values_of}
use Rattle.std.specs.Str.{bytes_eq}
use Rattle.std.proofs.Math.Seq.{take-append_seam}
use Rattle.std.proofs.lemmas.Bool.{cases_Bool, and_from, and_parts, eqb-true, eq-eqb}
use Rattle.std.proofs.lemmas.List.{map-append}
use Rattle.enq_base.specs.Bytes.{padded}
use Rattle.enq_base.specs.contracts.name.NamePartialEq.TheImpl as names
use Rattle.indexmap.proofs.CallerLemmas.{insert_entry-new}
use Rattle.indexmap.specs.IndexMap.{IndexMap, get, insert_entry, values}
use Rattle.lock_entry.specs.Freeing.{replace_first}
use Rattle.update_records.proofs.lemmas.Distinct.{all_append}
use Rattle.hall_calls.specs.Named.{AreNamed}

-- how a map compares names
abbrev pub name_eq : List ℕ → List ℕ → Bool
name_eq = (names.eq-value).it

-- two names are equal where their bytes are
same_names : (a b : List ℕ) → name_eq a b ≡ bytes_eq b a
same_names a b =
    elim (cases_Bool (bytes_eq b a)) [
      | inl e ↦
          let is : b ≡ a = (bytes_decides b a).0 e in
          subst (λ x. name_eq a x ≡ bytes_eq x a) (sym is)
          (and_from _ _ (eq-eqb _ _ refl) ((bytes_decides (padded 30 a) (padded 30 a)).1 refl) ∙ sym ((bytes_decides a a).1 refl))
      | inr e ↦ other (cases_Bool (name_eq a b)) e
    ]
  where
    other : ((name_eq a b ≡ true) ⊎ (name_eq a b ≡ false)) → bytes_eq b a ≡ false → name_eq a b ≡ bytes_eq b a
    other (inr f) e = f ∙ sym e
    other (inl t) e =
        let both = and_parts _ _ t in
        let long : length a ≡ length b = eqb-true _ _ both.0 in
        let whole : padded 30 a ≡ padded 30 b = (bytes_decides (padded 30 a) (padded 30 b)).0 both.1 in
        let is : a ≡ b = sym (take-append_seam a _) ∙ (λ i. take (long i) (whole i)) ∙ take-append_seam b _ in
        absurd (true≢false (sym ((bytes_decides b a).1 (sym is)) ∙ e))

module _ {V : Type 0} (name : V → List ℕ) (n : List ℕ) (test : List ℕ → Bool) (agrees : (k : List ℕ) → test k ≡ bytes_eq k n) where
  abbrev called : V → Bool
  called v = bytes_eq (name v) n

  called_as : (e : List ℕ × V) → e.0 ≡ name e.1 → called e.1 ≡ test e.0
  called_as e h = ap (λ k. bytes_eq k n) (sym h) ∙ sym (agrees e.0)

  found : (es : List (List ℕ × V)) → AreNamed name es → lookup test es ≡ find called (values_of es)
  found [] h = refl
  found (e ∷ es) h = λ i. cond (sym (called_as e h.0) i) (Some e.1) (found es h.1 i)

  none_left : (es : List (List ℕ × V)) → AreNamed name es → lookup test es ≡ None → filter (λ v. not (called v)) (values_of es) ≡ values_of es
  none_left [] h none = refl
  none_left (e ∷ es) h none =
      elim (cases_Bool (test e.0)) [
        | inl t ↦ absurd (let k = rw t at none in cc)
        | inr t ↦
            let k = rw t at none in
            let c : called e.1 ≡ false = called_as e h.0 ∙ t in
            rw c (ap (λ vs. e.1 ∷ vs) (none_left es h.1 k))
      ]

  taken : (es : List (List ℕ × V)) → AreNamed name es → lookup test (remove_entry test es) ≡ None
      → values_of (remove_entry test es) ≡ filter (λ v. not (called v)) (values_of es)
  taken [] h gone = refl
  taken (e ∷ es) h gone =
      elim (cases_Bool (test e.0)) [
        | inl t ↦
            let k = rw t at gone in
            let c : called e.1 ≡ true = called_as e h.0 ∙ t in
            rw (t, c) (sym (none_left es h.1 k))
        | inr t ↦
            let k = rw (t, t) at gone in
            let c : called e.1 ≡ false = called_as e h.0 ∙ t in
            rw (t, c) (ap (λ vs. e.1 ∷ vs) (taken es h.1 k))
      ]

  taken_named : (es : List (List ℕ × V)) → AreNamed name es → AreNamed name (remove_entry test es)
  taken_named [] h = tt
  taken_named (e ∷ es) h =
      elim (test e.0) as (λ b. AreNamed name (cond b es (e ∷ remove_entry test es))) [ true ↦ h.1 | false ↦ (h.0, taken_named es h.1) ]

  changed : (change : V → V) (es : List (List ℕ × V)) (v w : V) → AreNamed name es → Some v ≡ lookup test es → w ≡ change v
      → values_of (set_value test es w) ≡ replace_first called (λ x. change x ∷ []) (values_of es)
  changed change [] v w h at is = refl
  changed change (e ∷ es) v w h at is =
      elim (cases_Bool (test e.0)) [
        | inl t ↦
            let k = rw t at at in
            let own : v ≡ e.1 = cc in
            let c : called e.1 ≡ true = called_as e h.0 ∙ t in
            rw (t, c) (ap (λ x. x ∷ values_of es) (is ∙ ap change own))
        | inr t ↦
            let k = rw t at at in
            let c : called e.1 ≡ false = called_as e h.0 ∙ t in
            rw (t, c) (ap (λ vs. e.1 ∷ vs) (changed change es v w h.1 k is))
      ]

  changed_named : (es : List (List ℕ × V)) (v w : V) → AreNamed name es → Some v ≡ lookup test es → name w ≡ name v → AreNamed name (set_value test es w)
  changed_named [] v w h at same = tt
  changed_named (e ∷ es) v w h at same =
      elim (cases_Bool (test e.0)) [
        | inl t ↦
            let k = rw t at at in
            let own : v ≡ e.1 = cc in
            rw t (h.0 ∙ sym (same ∙ ap name own), h.1)
        | inr t ↦ let k = rw t at at in rw t (h.0, changed_named es v w h.1 k same)
      ]

  changed_nowhere : (f : V → List V) (es : List (List ℕ × V)) → AreNamed name es → lookup test es ≡ None → values_of es ≡ replace_first called f (values_of es)
  changed_nowhere f [] h none = refl
  changed_nowhere f (e ∷ es) h none =
      elim (cases_Bool (test e.0)) [
        | inl t ↦ absurd (let k = rw t at none in cc)
        | inr t ↦
            let k = rw t at none in
            let c : called e.1 ≡ false = called_as e h.0 ∙ t in
            rw c (ap (λ vs. e.1 ∷ vs) (changed_nowhere f es h.1 k))
      ]

-- the value that stands there is written again
written_again : {V : Type 0} (test : List ℕ → Bool) (es : List (List ℕ × V)) (v : V) → Some v ≡ lookup test es → set_value test es v ≡ es
written_again test [] v at = refl
written_again test (e ∷ es) v at =
    elim (cases_Bool (test e.0)) [
      | inl t ↦
          let k = rw t at at in
          let own : v ≡ e.1 = cc in
          rw t (ap (λ x. (e.0, x) ∷ es) own)
      | inr t ↦ let k = rw t at at in rw t (ap (λ rest. e ∷ rest) (written_again test es v k))
    ]

module _ {V : Type 0} (name : V → List ℕ) (n : List ℕ) where
  abbrev named : List ℕ → Bool
  named = name_eq n

  -- the value at a name is the first of this name
  pub found_by_name : (es : List (List ℕ × V)) → AreNamed name es → lookup named es ≡ find (λ v. bytes_eq (name v) n) (values_of es)
  found_by_name = found name n named (same_names n)

  -- taking out a name leaves the others
  pub taken_by_name : (es : List (List ℕ × V)) → AreNamed name es → lookup named (remove_entry named es) ≡ None
      → values_of (remove_entry named es) ≡ filter (λ v. not (bytes_eq (name v) n)) (values_of es)
  taken_by_name = taken name n named (same_names n)

  pub are_named_taken : (es : List (List ℕ × V)) → AreNamed name es → AreNamed name (remove_entry named es)
  are_named_taken = taken_named name n named (same_names n)

  -- the value at a name is changed where it stands
  pub changed_by_name : (change : V → V) (es : List (List ℕ × V)) (v w : V) → AreNamed name es → Some v ≡ lookup named es → w ≡ change v
      → values_of (set_value named es w) ≡ replace_first (λ v. bytes_eq (name v) n) (λ x. change x ∷ []) (values_of es)
  changed_by_name = changed name n named (same_names n)

  pub are_named_changed : (es : List (List ℕ × V)) (v w : V) → AreNamed name es → Some v ≡ lookup named es → name w ≡ name v
      → AreNamed name (set_value named es w)
  are_named_changed = changed_named name n named (same_names n)

  pub kept_by_name : (es : List (List ℕ × V)) (v : V) → Some v ≡ lookup named es → values_of (set_value named es v) ≡ values_of es
  kept_by_name es v at = ap values_of (written_again named es v at)

  -- a name that no value has
  pub unchanged_by_name : (f : V → List V) (es : List (List ℕ × V)) → AreNamed name es → lookup named es ≡ None
      → values_of es ≡ replace_first (λ v. bytes_eq (name v) n) f (values_of es)
  unchanged_by_name = changed_nowhere name n named (same_names n)

module _ {V S : Type 0} (name : V → List ℕ) (m : IndexMap (List ℕ) V S) (v : V) (free : get name_eq m (name v) ≡ None) where
  -- a value with a new name goes last
  pub added_by_name : values_of (insert_entry name_eq m.entries (name v) v) ≡ values m ++ v ∷ []
  added_by_name = ap values_of (insert_entry-new name_eq m (name v) v free) ∙ map-append (λ e. e.1) m.entries ((name v, v) ∷ [])

  pub are_named_added : AreNamed name m.entries → AreNamed name (insert_entry name_eq m.entries (name v) v)
  are_named_added h = subst (AreNamed name) (sym (insert_entry-new name_eq m (name v) v free))
      (all_append (λ e. e.0 ≡ name e.1) m.entries ((name v, v) ∷ []) h (refl, tt))

-- a call that succeeds, and what it then does
pub where_done : {X E P : Type 0} (r : Result X E) → IsOk r → OnOk r P → P
where_done (Ok x) ok h = h
where_done (Err e) ok h = absurd (cc)
