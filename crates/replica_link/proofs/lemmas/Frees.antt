-- What is shipped where an entry loses one.
use Rattle.std.proofs.Common.{◌≡◌, ◌-◌, nat_le, true, false, cond, not, List, [], ◌∷◌, ◌++◌, map, Option, Some, None, refl, sym, ap, ◌∙◌, inl, inr}
use Rattle.std.specs.List.{find}
use Rattle.std.specs.Option.{option_map_or}
use Rattle.std.proofs.lemmas.Bool.{cases_Bool, or_parts}
use Rattle.std.proofs.lemmas.Option.{none-some}
use Rattle.lock_entry.specs.declared.entry.Entry.{Entry}
use Rattle.lock_entry.specs.declared.entry.LockName.{LockName}
use Rattle.lock_entry.specs.Names.{has_name, name_of, stands, has_distinct_names}
use Rattle.lock_entry.specs.Freeing.{lowered, freed, without}
use Rattle.lock_entry.proofs.lemmas.Naming.{same_name-refl}
use Rattle.lock_entry.proofs.lemmas.Places.{replace_first-none}
use Rattle.lock_entry.proofs.lemmas.Lists.{find-None}
use Rattle.replica_link.specs.declared.operation.TableOp.TheVariants.{Put}
use Rattle.replica_link.specs.Operations.{after_op, after_ops, instead_of}
use Rattle.replica_link.specs.Shipping.{drop_of, lowered_op, freed_ops}
use Rattle.replica_link.proofs.Distinct.{AreDistinct, distinct_from, found_here, found_later, found_named, found_stands}

without_none : (n : LockName) (t : List Entry) → stands t n ≡ false → without t n ≡ t
without_none n [] h = refl
without_none n (e ∷ t) h =
    let hs = or_parts (has_name n e) (stands t n) h in
    ap (λ b. cond (not b) (e ∷ without t n) (without t n)) hs.0 ∙ ap (λ (r : List Entry). e ∷ r) (without_none n t hs.1)

instead_none : (e : Entry) (t : List Entry) → stands t (name_of e) ≡ false → map (instead_of e) t ≡ t
instead_none e [] h = refl
instead_none e (x ∷ t) h =
    let hs = or_parts (has_name (name_of e) x) (stands t (name_of e)) h in
    ap (λ b. cond b e x ∷ map (instead_of e) t) hs.0 ∙ ap (λ (r : List Entry). x ∷ r) (instead_none e t hs.1)

abbrev one_less : Entry → Entry
one_less e = record e { count = e.count - 1 }

freed_drop : (n : LockName) (t : List Entry) (e : Entry) → AreDistinct t → find (has_name n) t ≡ Some e → nat_le e.count 1 ≡ true
    → without t (name_of e) ≡ freed t n
freed_drop n [] e distinct found low = absurd (none-some e found)
freed_drop n (x ∷ t) e distinct found low =
    elim (cases_Bool (has_name n x)) [
      | inl named ↦
          let is = found_here n x e t named found in
          ap (λ (y : Entry). without (x ∷ t) (name_of y)) (sym is)
          ∙ ap (λ b. cond (not b) (x ∷ without t (name_of x)) (without t (name_of x))) (same_name-refl (name_of x))
          ∙ without_none (name_of x) t distinct.0
          ∙ sym (ap (λ b. cond b (lowered x ++ t) (x ∷ freed t n)) named
          ∙ ap (λ b. cond b [] (one_less x ∷ []) ++ t) (ap (λ (y : Entry). nat_le y.count 1) is ∙ low))
      | inr other ↦
          ap (λ b. cond (not b) (x ∷ without t (name_of e)) (without t (name_of e))) (ap (λ m. has_name m x) (sym (found_named n (x ∷ t) e found)) ∙ other)
          ∙ ap (λ (r : List Entry). x ∷ r) (freed_drop n t e distinct.1 (found_later n x e t other found) low)
          ∙ sym (ap (λ b. cond b (lowered x ++ t) (x ∷ freed t n)) other)
    ]

freed_put : (n : LockName) (t : List Entry) (e : Entry) → AreDistinct t → find (has_name n) t ≡ Some e → nat_le e.count 1 ≡ false
    → map (instead_of (one_less e)) t ≡ freed t n
freed_put n [] e distinct found more = absurd (none-some e found)
freed_put n (x ∷ t) e distinct found more =
    elim (cases_Bool (has_name n x)) [
      | inl named ↦
          let is = found_here n x e t named found in
          ap (λ (y : Entry). map (instead_of (one_less y)) (x ∷ t)) (sym is)
          ∙ ap (λ b. cond b (one_less x) x ∷ map (instead_of (one_less x)) t) (same_name-refl (name_of x))
          ∙ ap (λ (r : List Entry). one_less x ∷ r) (instead_none (one_less x) t distinct.0)
          ∙ sym (ap (λ b. cond b (lowered x ++ t) (x ∷ freed t n)) named
          ∙ ap (λ b. cond b [] (one_less x ∷ []) ++ t) (ap (λ (y : Entry). nat_le y.count 1) is ∙ more))
      | inr other ↦
          ap (λ b. cond b (one_less e) x ∷ map (instead_of (one_less e)) t) (ap (λ m. has_name m x) (sym (found_named n (x ∷ t) e found)) ∙ other)
          ∙ ap (λ (r : List Entry). x ∷ r) (freed_put n t e distinct.1 (found_later n x e t other found) more)
          ∙ sym (ap (λ b. cond b (lowered x ++ t) (x ∷ freed t n)) other)
    ]

lowered_op-freed : (n : LockName) (t : List Entry) (e : Entry) → AreDistinct t → find (has_name n) t ≡ Some e → after_op t (lowered_op e) ≡ freed t n
lowered_op-freed n t e distinct found =
    elim (cases_Bool (nat_le e.count 1)) [
      | inl low ↦ ap (λ b. after_op t (cond b (drop_of e) (Put (one_less e)))) low ∙ freed_drop n t e distinct found low
      | inr more ↦
          ap (λ b. after_op t (cond b (drop_of e) (Put (one_less e)))) more
          ∙ ap (λ b. cond b (map (instead_of (one_less e)) t) (t ++ one_less e ∷ [])) (ap (stands t) (sym (found_named n t e found)) ∙ found_stands n t e found)
          ∙ freed_put n t e distinct found more
    ]

pub freed_ops-freed : (t : List Entry) (n : LockName) → has_distinct_names t ≡ true → after_ops t (freed_ops t n) ≡ freed t n
freed_ops-freed t n distinct = by_found (find (has_name n) t) refl
  where
    by_found : (o : Option Entry) → find (has_name n) t ≡ o → after_ops t (option_map_or (λ e. lowered_op e ∷ []) o []) ≡ freed t n
    by_found None none = sym (replace_first-none (has_name n) lowered t (find-None (has_name n) t none))
    by_found (Some e) found = lowered_op-freed n t e (distinct_from t distinct) found
