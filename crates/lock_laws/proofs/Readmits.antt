-- Entries that are granted as they are may stand together with what stood.
use Rattle.std.proofs.Common.{◌≡◌, ◌+◌, ◌≤◌, List, [], ◌∷◌, ◌++◌, Bool, true, false, cond, not, ◌||◌, nat_lt, length, map, None, Ok, sym, ◌∙◌, ap, refl, arith, subst, inl, inr}
use Rattle.std.specs.List.{list_any, list_all, filter, find}
use Rattle.std.proofs.lemmas.Bool.{cases_Bool, and_parts, and_from, and_cases, or_parts, or_right, not_from_false, ltb-false}
use Rattle.std.proofs.lemmas.List.{length-append}
use Rattle.std.proofs.lemmas.List.Folds.{list_all-append}
use Rattle.enq_base.specs.declared.owner.Owner.{Owner}
use Rattle.enq_base.specs.Owners.{same_owner}
use Rattle.lock_entry.specs.declared.entry.Asker.{Asker}
use Rattle.lock_entry.specs.declared.entry.Entry.{Entry}
use Rattle.lock_entry.specs.declared.entry.LockName.{LockName}
use Rattle.lock_entry.specs.Names.{same_name, has_name, is_of, stands, name_of, asked_of, names_differ, has_distinct_names, all_pairs}
use Rattle.lock_entry.specs.Pairs.{IsPair, in_pair}
use Rattle.lock_entry.specs.Barring.{bars}
use Rattle.lock_entry.specs.Sound.{has_count, are_apart, in_conflict, ReadmitsOnly}
use Rattle.lock_entry.specs.Table.{Table, IsTable, with_entries}
use Rattle.lock_entry.specs.Freeing.{freed_owner}
use Rattle.lock_entry.specs.Granting.{readmitted, first_bar, newcomers, is_full, unless_barred, unless_full}
use Rattle.lock_entry.proofs.lemmas.Naming.{same_name-same, same_name-sym}
use Rattle.lock_entry.proofs.lemmas.Lists.{list_all-both, list_all-true, list_all-weaken, list_all-filter, find-None, option_or-None, all_pairs-append, all_pairs-filter}
use Rattle.lock_laws.proofs.Sounds.{sound-apart, sound-from}
use Rattle.lock_laws.proofs.Related.{pair-related, related-calm, apart-from, conflict-unbarred}
use Rattle.lock_laws.proofs.Grants.{unless_barred-Ok, unless_full-Ok}

-- entries of distinct names lose at most one to a test of one name
filter_name-none : (n : LockName) (gs : List Entry) → list_all (λ g. not (same_name n (name_of g))) gs ≡ true → filter (λ g. not (has_name n g)) gs ≡ gs
filter_name-none n [] h = refl
filter_name-none n (g ∷ gs) h =
    let hs = and_parts (not (same_name n (name_of g))) (list_all (λ k. not (same_name n (name_of k))) gs) h in
    rw hs.0 (ap (λ (r : List Entry). g ∷ r) (filter_name-none n gs hs.1))

filter_name-one : (n : LockName) (gs : List Entry) → has_distinct_names gs ≡ true → length gs ≤ length (filter (λ g. not (has_name n g)) gs) + 1
filter_name-one n [] h = omega arith
filter_name-one n (g ∷ gs) h =
    let hs = and_parts (list_all (names_differ g) gs) (has_distinct_names gs) h in
    elim (cases_Bool (has_name n g)) [
      | inl e ↦
          let s : n ≡ name_of g = same_name-same n (name_of g) e in
          let others : list_all (λ k. not (same_name n (name_of k))) gs ≡ true =
          ap (λ (m : LockName). list_all (λ k. not (same_name m (name_of k))) gs) s ∙ hs.0 in
          let all : length (filter (λ k. not (has_name n k)) gs) ≡ length gs = ap length (filter_name-none n gs others) in
          rw e (omega arith)
      | inr e ↦
          let rest : length gs ≤ length (filter (λ k. not (has_name n k)) gs) + 1 = filter_name-one n gs hs.1 in
          rw e (omega arith)
    ]

-- the two tests of one more entry
filter_both : (q : Entry → Bool) (g : Entry) (ss rs : List Entry) (a b : Bool) → q g ≡ not a → rs ≡ filter q ss
    → cond (not (a || b)) (g ∷ rs) rs ≡ filter q (cond (not b) (g ∷ ss) ss)
filter_both q g ss rs true true e h = h
filter_both q g ss rs true false e h = rw e h
filter_both q g ss rs false true e h = h
filter_both q g ss rs false false e h = rw e (ap (λ (r : List Entry). g ∷ r) h)

-- one more entry takes those of its name out of the newcomers
newcomers-cons : (e : Entry) (es gs : List Entry) → newcomers (e ∷ es) gs ≡ filter (λ g. not (has_name (name_of e) g)) (newcomers es gs)
newcomers-cons e es [] = refl
newcomers-cons e es (g ∷ gs) =
    filter_both (λ k. not (has_name (name_of e) k)) g (newcomers es gs) (newcomers (e ∷ es) gs) (has_name (name_of g) e) (stands es (name_of g))
    (ap not (same_name-sym (name_of e) (name_of g))) (newcomers-cons e es gs)

newcomers-nil : (gs : List Entry) → newcomers [] gs ≡ gs
newcomers-nil [] = refl
newcomers-nil (g ∷ gs) = ap (λ (r : List Entry). g ∷ r) (newcomers-nil gs)

-- an entry of another owner has another name
other_name : (owner : Owner) (e g : Entry) → is_of owner e ≡ false → is_of owner g ≡ true → not (same_name (name_of e) (name_of g)) ≡ true
other_name owner e g outside h =
    elim (cases_Bool (same_name (name_of e) (name_of g))) [
      | inr differ ↦ not_from_false _ differ
      | inl same ↦
          let s : name_of e ≡ name_of g = same_name-same (name_of e) (name_of g) same in
          let t : same_owner e.owner owner ≡ true = ap (λ (m : LockName). same_owner m.owner owner) s ∙ h in
          absurd (let u = sym t ∙ outside in cc)
    ]

-- entries of one owner with distinct names are no more than the owner's that stand and those that are new
count_newcomers : (owner : Owner) (es gs : List Entry) → list_all (is_of owner) gs ≡ true → has_distinct_names gs ≡ true
    → length gs ≤ length (filter (is_of owner) es) + length (newcomers es gs)
count_newcomers owner [] gs o d = let all : length (newcomers [] gs) ≡ length gs = ap length (newcomers-nil gs) in omega arith
count_newcomers owner (e ∷ es) gs o d =
    let n = name_of e in
    let ih : length gs ≤ length (filter (is_of owner) es) + length (newcomers es gs) = count_newcomers owner es gs o d in
    let fewer : length (newcomers (e ∷ es) gs) ≡ length (filter (λ g. not (has_name n g)) (newcomers es gs)) = ap length (newcomers-cons e es gs) in
    elim (cases_Bool (is_of owner e)) [
      | inl within ↦
          let one : length (newcomers es gs) ≤ length (filter (λ g. not (has_name n g)) (newcomers es gs)) + 1 =
          filter_name-one n (newcomers es gs) (all_pairs-filter names_differ (λ g. not (stands es (name_of g))) gs d) in
          rw within (omega arith)
      | inr outside ↦
          let differs : list_all (λ g. not (same_name n (name_of g))) gs ≡ true =
          list_all-weaken (is_of owner) (λ g. not (same_name n (name_of g))) (λ g h. other_name owner e g outside h) gs o in
          let none : length (filter (λ g. not (has_name n g)) (newcomers es gs)) ≡ length (newcomers es gs) =
          ap length (filter_name-none n (newcomers es gs)
          (list_all-filter (λ g. not (same_name n (name_of g))) (λ g. not (stands es (name_of g))) gs differs)) in
          rw outside (omega arith)
    ]

-- all of the owner and all of the others are all
owner_and_others : (owner : Owner) (es : List Entry) → length (filter (is_of owner) es) + length (freed_owner es owner) ≡ length es
owner_and_others owner [] = refl
owner_and_others owner (e ∷ es) =
    let ih : length (filter (is_of owner) es) + length (freed_owner es owner) ≡ length es = owner_and_others owner es in
    elim (cases_Bool (is_of owner e)) [ inl a ↦ rw a (omega arith) | inr a ↦ rw a (omega arith) ]

module _ (asker : Asker) (pair : IsPair asker) where
  of_update : (e : Entry) → is_of asker.update e ≡ true → in_pair asker e.owner ≡ true
  of_update e h = or_right (same_owner e.owner asker.dialogue) _ h

  given-apart : (gs : List Entry) → list_all (is_of asker.update) gs ≡ true → has_distinct_names gs ≡ true → all_pairs are_apart gs ≡ true
  given-apart [] o d = refl
  given-apart (g ∷ gs) o d =
      let o' = and_parts (is_of asker.update g) (list_all (is_of asker.update) gs) o in
      let d' = and_parts (list_all (names_differ g) gs) (has_distinct_names gs) d in
      let calm : list_all (λ a. not (in_conflict g a)) gs ≡ true =
      list_all-weaken (is_of asker.update) (λ a. not (in_conflict g a))
      (λ a h. not_from_false (in_conflict g a) (related-calm g a (pair-related asker g.owner a.owner pair (of_update g o'.0) (of_update a h))))
      gs o'.1 in
      and_from _ _ (list_all-both (names_differ g) (λ a. not (in_conflict g a)) gs d'.0 calm) (given-apart gs o'.1 d'.1)

  -- an entry of the update owner that isn't barred stands apart from the entries of others
  others-apart : (es : List Entry) (g : Entry) → is_of asker.update g ≡ true → list_any (bars asker (asked_of g)) es ≡ false
      → list_all (λ e. are_apart e g) (freed_owner es asker.update) ≡ true
  others-apart [] g o b = refl
  others-apart (e ∷ es) g o b =
      let b' = or_parts (bars asker (asked_of g) e) (list_any (bars asker (asked_of g)) es) b in
      elim (cases_Bool (is_of asker.update e)) [
        | inl within ↦ rw within (others-apart es g o b'.1)
        | inr outside ↦ rw outside
            (and_from (are_apart e g) (list_all (λ a. are_apart a g) (freed_owner es asker.update))
            (apart-from e g (other_name asker.update e g outside o) (conflict-unbarred asker e g pair (of_update g o) b'.0))
            (others-apart es g o b'.1))
      ]

  others-apart_all : (es gs : List Entry) → list_all (is_of asker.update) gs ≡ true → first_bar es asker (map asked_of gs) ≡ None
      → list_all (λ e. list_all (are_apart e) gs) (freed_owner es asker.update) ≡ true
  others-apart_all es [] o b = list_all-true (freed_owner es asker.update)
  others-apart_all es (g ∷ gs) o b =
      let o' = and_parts (is_of asker.update g) (list_all (is_of asker.update) gs) o in
      let b' = option_or-None (find (bars asker (asked_of g)) es) (first_bar es asker (map asked_of gs)) b in
      list_all-both (λ e. are_apart e g) (λ e. list_all (are_apart e) gs) (freed_owner es asker.update)
      (others-apart es g o'.0 (find-None (bars asker (asked_of g)) es b'.0))
      (others-apart_all es gs o'.1 b'.1)

readmitted-within : (t : Table) (asker : Asker) (given : List Entry) → IsTable t → ReadmitsOnly asker given
    → is_full t (length (newcomers t.entries given)) ≡ false → length (freed_owner t.entries asker.update ++ given) ≤ t.limit
readmitted-within t asker given good only fine =
    let kept = freed_owner t.entries asker.update in
    let owned = filter (is_of asker.update) t.entries in
    let n = length (newcomers t.entries given) in
    let within : length t.entries ≤ t.limit = good.within in
    let joined : length (kept ++ given) ≡ length kept + length given = length-append kept given in
    let split : length owned + length kept ≡ length t.entries = owner_and_others asker.update t.entries in
    let few : length given ≤ length owned + n = count_newcomers asker.update t.entries given only.owners only.names in
    elim (and_cases (nat_lt 0 n) (nat_lt t.limit (length t.entries + n)) fine) [
      | inl none ↦ let zero : n ≤ 0 = ltb-false 0 n none in omega arith
      | inr room ↦ let fits : length t.entries + n ≤ t.limit = ltb-false t.limit (length t.entries + n) room in omega arith
    ]

-- A readmission keeps the table good.
pub IsTable-readmitted : (t : Table) (asker : Asker) (given es : List Entry) → IsTable t → IsPair asker → ReadmitsOnly asker given
    → readmitted t asker given ≡ Ok es → IsTable (with_entries t es)
unfolding readmitted
IsTable-readmitted t asker given es good pair only h =
    let kept = freed_owner t.entries asker.update in
    let a = unless_barred-Ok (first_bar t.entries asker (map asked_of given)) _ es h in
    let b = unless_full-Ok t (length (newcomers t.entries given)) (Ok (kept ++ given)) es a.1 in
    let same : kept ++ given ≡ es = cc b.1 in
    let counts : list_all has_count (kept ++ given) ≡ true =
    list_all-append has_count kept given
    ∙ and_from _ _ (list_all-filter has_count (λ e. not (is_of asker.update e)) t.entries good.sound.counts) only.counts in
    let together : all_pairs are_apart (kept ++ given) ≡ true =
    all_pairs-append are_apart kept given
    (all_pairs-filter are_apart (λ e. not (is_of asker.update e)) t.entries (sound-apart t.entries good.sound))
    (given-apart asker pair given only.owners only.names)
    (others-apart_all asker pair t.entries given only.owners a.0) in
    let P : List Entry → Type 0 = λ xs. IsTable (with_entries t xs) in
    subst P same (record
    { sound = sound-from (kept ++ given) counts together; within = readmitted-within t asker given good only b.0; limit_fits = good.limit_fits })
