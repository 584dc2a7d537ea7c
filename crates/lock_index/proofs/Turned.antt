-- Names stay distinct where an optimistic entry turns.
use Rattle.std.proofs.Common.{◌≡◌, ℕ, List, [], ◌∷◌, Bool, true, false, true≢false, cond, not, map, sym, ◌∙◌, ap, refl, inl, inr}
use Rattle.std.specs.List.{list_any, list_all}
use Rattle.std.proofs.lemmas.Bool.{cases_Bool, and_parts, and_from, or_parts, not-true}
use Rattle.enq_base.specs.declared.owner.Owner.{Owner}
use Rattle.mode_rules.specs.declared.Mode.TheVariants.{E, O}
use Rattle.lock_entry.specs.declared.entry.Entry.{Entry}
use Rattle.lock_entry.specs.declared.entry.LockName.{LockName}
use Rattle.lock_entry.specs.Names.{has_name, has_distinct_names, name_of, names_differ, same_name, stands}
use Rattle.lock_entry.specs.Freeing.{without}
use Rattle.lock_entry.specs.Turning.{joined, made_exclusive, name_at, with_count_of}
use Rattle.lock_entry.proofs.lemmas.Lists.{all_pairs-filter, all_pairs-map}
use Rattle.lock_entry.proofs.lemmas.Naming.{same_name-refl, same_name-same, same_name-sym}

pub distinct-without : (n : LockName) (es : List Entry) → has_distinct_names es ≡ true → has_distinct_names (without es n) ≡ true
distinct-without n es h = all_pairs-filter names_differ (λ e. not (has_name n e)) es h

pub distinct-joined : (n : LockName) (o : Entry) (es : List Entry) → has_distinct_names es ≡ true → has_distinct_names (map (joined n o) es) ≡ true
distinct-joined n o es h = all_pairs-map names_differ (joined n o) (λ a b. same a b (has_name n a) (has_name n b)) es h
  where
    same : (a b : Entry) (x y : Bool) → names_differ (cond x (with_count_of a o) a) (cond y (with_count_of b o) b) ≡ names_differ a b
    same a b true true = refl
    same a b true false = refl
    same a b false true = refl
    same a b false false = refl

pub joined-other : (n : LockName) (o e : Entry) → has_name n e ≡ false → joined n o e ≡ e
joined-other n o e h = ap (λ b. cond b (with_count_of e o) e) h

pub made-other : (n : LockName) (e : Entry) → has_name n e ≡ false → made_exclusive n e ≡ e
made-other n e h = ap (λ b. cond b (record e { mode = E }) e) h

-- the mode of an entry stands in its name
pub named-mode : (n : LockName) (e : Entry) → has_name n e ≡ true → e.mode ≡ n.asked.mode
named-mode n e h = ap (λ (m : LockName). m.asked.mode) (sym (same_name-same n (name_of e) h))

module _ (owner : Owner) (table pattern : List ℕ) where
  abbrev optimistic : LockName
  optimistic = name_at O owner table pattern

  abbrev exclusive : LockName
  exclusive = name_at E owner table pattern

  abbrev made : Entry → Entry
  made e = made_exclusive optimistic e

  made-name : (e : Entry) → has_name optimistic e ≡ true → name_of (made e) ≡ exclusive
  made-name e h =
      ap (λ b. name_of (cond b (record e { mode = E }) e)) h
      ∙ ap (λ (n : LockName). name_at E n.owner n.asked.table n.asked.pattern) (sym (same_name-same optimistic (name_of e) h))

  kept-name : (e : Entry) → has_name optimistic e ≡ false → name_of (made e) ≡ name_of e
  kept-name e h = ap name_of (made-other optimistic e h)

  differ-made : (a b : Entry) → names_differ a b ≡ true → has_name exclusive a ≡ false → has_name exclusive b ≡ false → names_differ (made a) (made b) ≡ true
  differ-made a b d ha hb =
      elim (cases_Bool (has_name optimistic a)) [
        | inl p ↦
            elim (cases_Bool (has_name optimistic b)) [
              | inl q ↦
                  absurd (let s : name_of a ≡ name_of b = sym (same_name-same optimistic (name_of a) p) ∙ same_name-same optimistic (name_of b) q in
                  true≢false (sym (ap (same_name (name_of a)) (sym s) ∙ same_name-refl (name_of a)) ∙ not-true (same_name (name_of a) (name_of b)) d))
              | inr q ↦
                  ap (λ n. not (same_name n (name_of (made b)))) (made-name a p) ∙ ap (λ n. not (same_name exclusive n)) (kept-name b q) ∙ ap not hb
            ]
        | inr p ↦
            elim (cases_Bool (has_name optimistic b)) [
              | inl q ↦
                  ap (λ n. not (same_name n (name_of (made b)))) (kept-name a p) ∙ ap (λ n. not (same_name (name_of a) n)) (made-name b q)
                  ∙ ap not (same_name-sym (name_of a) exclusive ∙ ha)
              | inr q ↦
                  ap (λ n. not (same_name n (name_of (made b)))) (kept-name a p) ∙ ap (λ n. not (same_name (name_of a) n)) (kept-name b q) ∙ d
            ]
      ]

  differ-all : (a : Entry) (es : List Entry) → list_all (names_differ a) es ≡ true → has_name exclusive a ≡ false → list_any (has_name exclusive) es ≡ false
      → list_all (names_differ (made a)) (map made es) ≡ true
  differ-all a [] d ha none = refl
  differ-all a (e ∷ es) d ha none =
      let ds = and_parts (names_differ a e) (list_all (names_differ a) es) d in
      let ns = or_parts (has_name exclusive e) (list_any (has_name exclusive) es) none in
      and_from (names_differ (made a) (made e)) (list_all (names_differ (made a)) (map made es)) (differ-made a e ds.0 ha ns.0) (differ-all a es ds.1 ha ns.1)

  pub distinct-made : (es : List Entry) → has_distinct_names es ≡ true → stands es (name_at E owner table pattern) ≡ false
      → has_distinct_names (map (made_exclusive (name_at O owner table pattern)) es) ≡ true
  distinct-made [] h none = refl
  distinct-made (e ∷ es) h none =
      let hs = and_parts (list_all (names_differ e) es) (has_distinct_names es) h in
      let ns = or_parts (has_name exclusive e) (list_any (has_name exclusive) es) none in
      and_from (list_all (names_differ (made e)) (map made es)) (has_distinct_names (map made es)) (differ-all e es hs.0 ns.0 ns.1) (distinct-made es hs.1 ns.1)
