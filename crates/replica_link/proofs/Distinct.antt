-- Lists in which no name stands twice.
use Rattle.std.proofs.Common.{◌≡◌, true, false, List, [], ◌∷◌, Some, refl, ap, ◌∙◌, inl, inr}
use Rattle.std.specs.List.{list_all, find}
use Rattle.std.proofs.lemmas.Bool.{cases_Bool, and_parts, or_from, or_left, or_right, not-true}
use Rattle.std.proofs.lemmas.Option.{none-some, same_Some}
use Rattle.lock_entry.specs.declared.entry.Entry.{Entry}
use Rattle.lock_entry.specs.declared.entry.LockName.{LockName}
use Rattle.lock_entry.specs.Names.{has_name, name_of, stands, all_pairs, names_differ, has_distinct_names}
use Rattle.lock_entry.proofs.lemmas.Naming.{same_name-same}

-- no entry has the name of one before it
abbrev pub AreDistinct : List Entry → Type 0
AreDistinct [] = Unit {0}
AreDistinct (e ∷ t) = (stands t (name_of e) ≡ false) × AreDistinct t

none_named : (e : Entry) (t : List Entry) → list_all (names_differ e) t ≡ true → stands t (name_of e) ≡ false
none_named e [] h = refl
none_named e (x ∷ t) h =
    let hs = and_parts (names_differ e x) (list_all (names_differ e) t) h in
    or_from _ _ (not-true (has_name (name_of e) x) hs.0) (none_named e t hs.1)

pub distinct_from : (t : List Entry) → has_distinct_names t ≡ true → AreDistinct t
distinct_from [] h = tt
distinct_from (e ∷ t) h =
    let hs = and_parts (list_all (names_differ e) t) (all_pairs names_differ t) h in
    (none_named e t hs.0, distinct_from t hs.1)

pub found_here : (n : LockName) (x e : Entry) (t : List Entry) → has_name n x ≡ true → find (has_name n) (x ∷ t) ≡ Some e → x ≡ e
found_here n x e t named found = same_Some x e (rw named at found)

pub found_later : (n : LockName) (x e : Entry) (t : List Entry) → has_name n x ≡ false → find (has_name n) (x ∷ t) ≡ Some e → find (has_name n) t ≡ Some e
found_later n x e t other found = rw other at found

pub found_named : (n : LockName) (t : List Entry) (e : Entry) → find (has_name n) t ≡ Some e → n ≡ name_of e
found_named n [] e found = absurd (none-some e found)
found_named n (x ∷ t) e found =
    elim (cases_Bool (has_name n x)) [
      | inl named ↦ same_name-same n (name_of x) named ∙ ap name_of (found_here n x e t named found)
      | inr other ↦ found_named n t e (found_later n x e t other found)
    ]

pub found_stands : (n : LockName) (t : List Entry) (e : Entry) → find (has_name n) t ≡ Some e → stands t n ≡ true
found_stands n [] e found = absurd (none-some e found)
found_stands n (x ∷ t) e found =
    elim (cases_Bool (has_name n x)) [
      | inl named ↦ or_left _ _ named
      | inr other ↦ or_right _ _ (found_stands n t e (found_later n x e t other found))
    ]
