-- What a shipped operation does to a replica in which no name stands twice.
use Rattle.std.proofs.Common.{◌≡◌, ℕ, zero, suc, ◌<◌, List, [], ◌∷◌, ◌++◌, Bool, true, false, true≢false, cond, not, ◌&&◌, ◌||◌, set, take, drop, length, map}
use Rattle.std.proofs.Common.{Option, Some, sym, ◌∙◌, ap, refl, inl, inr, get_or, arith}
use Rattle.std.specs.List.{list_any, list_all}
use Rattle.std.proofs.lemmas.Bool.{cases_Bool, and_parts, and_from, not-true}
use Rattle.std.proofs.lemmas.List.Folds.{list_all-append}
use Rattle.enq_base.specs.declared.owner.Owner.{Owner}
use Rattle.enq_base.specs.declared.owner.Owner.TheVariants.{Upd}
use Rattle.enq_base.specs.declared.owner.UnitKey.{UnitKey}
use Rattle.mode_rules.specs.Modes.{same_mode}
use Rattle.mode_rules.specs.declared.Mode.TheVariants.{O}
use Rattle.lock_entry.specs.declared.entry.Entry.{Entry}
use Rattle.lock_entry.specs.declared.entry.LockName.{LockName}
use Rattle.lock_entry.specs.Names.{has_distinct_names, has_name, is_of, name_of, names_differ, same_name, stands}
use Rattle.lock_entry.specs.Freeing.{flagged, handed_over, without_optimistic}
use Rattle.lock_entry.proofs.lemmas.Lists.{all_pairs-append, all_pairs-filter, all_pairs-map}
use Rattle.lock_entry.proofs.lemmas.Naming.{same_name-same, same_name-sym}
use Rattle.lock_index.specs.declared.key.Key.{Key}
use Rattle.lock_index.specs.Keys.{has_key, same_key, owner_key, spot_key, stretch_key, optimistic_key}
use Rattle.lock_index.specs.Slots.{live, IsFirst}
use Rattle.lock_index.proofs.Changed.{first-any, mapped-first}
use Rattle.replica_link.specs.Operations.{instead_of, put}

-- entries of one name are found by the same keys
pub same-keys : (k : Key) (a b : Entry) → name_of a ≡ name_of b → has_key k a ≡ has_key k b
same-keys k a b h =
    ap (λ (n : LockName). list_any (λ q. same_key q k)
    (owner_key n.owner ∷ spot_key n.asked.table n.asked.pattern ∷ stretch_key n.asked.table n.asked.pattern ∷ optimistic_key n.owner n.asked.mode ∷ [])) h

flagged-names : (o : Owner) (a b : Entry) → names_differ (flagged o a) (flagged o b) ≡ names_differ a b
flagged-names o a b = go (is_of o a) (is_of o b)
  where
    go : (x y : Bool) → names_differ (cond x (record a { handed = true }) a) (cond y (record b { handed = true }) b) ≡ names_differ a b
    go true true = refl
    go true false = refl
    go false true = refl
    go false false = refl

pub distinct-handed : (es : List Entry) (u : UnitKey) → has_distinct_names es ≡ true → has_distinct_names (handed_over es u) ≡ true
distinct-handed es u h =
    all_pairs-map names_differ (flagged (Upd u)) (flagged-names (Upd u)) (without_optimistic es (Upd u))
    (all_pairs-filter names_differ (λ e. not (is_of (Upd u) e && same_mode e.mode O)) es h)

instead-name : (e x : Entry) → name_of (instead_of e x) ≡ name_of x
instead-name e x =
    elim (cases_Bool (has_name (name_of e) x)) [
      | inl t ↦ ap (λ b. name_of (cond b e x)) t ∙ same_name-same (name_of e) (name_of x) t
      | inr t ↦ ap (λ b. name_of (cond b e x)) t
    ]

instead-names : (e a b : Entry) → names_differ (instead_of e a) (instead_of e b) ≡ names_differ a b
instead-names e a b = λ i. not (same_name (instead-name e a i) (instead-name e b i))

pub distinct-instead : (e : Entry) (es : List Entry) → has_distinct_names es ≡ true → has_distinct_names (map (instead_of e) es) ≡ true
distinct-instead e es h = all_pairs-map names_differ (instead_of e) (instead-names e) es h

instead-other : (e x : Entry) → has_name (name_of e) x ≡ false → instead_of e x ≡ x
instead-other e x h = ap (λ b. cond b e x) h

-- the entry in the place of the one that alone has its name
pub instead-first : (e old : Entry) (ss : List (Option Entry)) (i : ℕ) → has_distinct_names (live ss) ≡ true → IsFirst (has_name (name_of e)) ss i old
    → live (set ss i (Some e)) ≡ map (instead_of e) (live ss)
instead-first e old ss i h first =
    ap (λ (b : Bool). live (set ss i (Some (cond b e old)))) (sym first.passes)
    ∙ mapped-first (name_of e) (instead_of e) (instead-other e) ss i old h first

pub put-first : (e old : Entry) (ss : List (Option Entry)) (i : ℕ) → has_distinct_names (live ss) ≡ true → IsFirst (has_name (name_of e)) ss i old
    → live (set ss i (Some e)) ≡ put (live ss) e
put-first e old ss i h first =
    instead-first e old ss i h first
    ∙ ap (λ (b : Bool). cond b (map (instead_of e) (live ss)) (live ss ++ e ∷ [])) (sym (first-any (has_name (name_of e)) ss i old first))

-- an entry of a new name, last
pub distinct-pushed : (e : Entry) (es : List Entry) → has_distinct_names es ≡ true → stands es (name_of e) ≡ false → has_distinct_names (es ++ e ∷ []) ≡ true
distinct-pushed e es h none = all_pairs-append names_differ es (e ∷ []) h refl (others es none)
  where
    others : (xs : List Entry) → stands xs (name_of e) ≡ false → list_all (λ x. list_all (names_differ x) (e ∷ [])) xs ≡ true
    others [] k = refl
    others (x ∷ xs) k =
        elim (cases_Bool (has_name (name_of e) x)) [
          | inl t ↦ absurd (let l = rw t at k in cc)
          | inr t ↦
              let l : stands xs (name_of e) ≡ false = rw t at k in
              let apart : names_differ x e ≡ true = ap not (same_name-sym (name_of x) (name_of e) ∙ t) in
              and_from (list_all (names_differ x) (e ∷ [])) (list_all (λ y. list_all (names_differ y) (e ∷ [])) xs)
              (and_from (names_differ x e) true apart refl) (others xs l)
        ]

-- no entry has the name of one behind it
none-ahead : (e : Entry) (xs ys : List Entry) → has_distinct_names (xs ++ e ∷ ys) ≡ true → stands xs (name_of e) ≡ false
none-ahead e [] ys h = refl
none-ahead e (x ∷ xs) ys h =
    let hs = and_parts (list_all (names_differ x) (xs ++ e ∷ ys)) (has_distinct_names (xs ++ e ∷ ys)) h in
    let later = and_parts (list_all (names_differ x) xs) (list_all (names_differ x) (e ∷ ys)) (sym (list_all-append (names_differ x) xs (e ∷ ys)) ∙ hs.0) in
    let apart = and_parts (names_differ x e) (list_all (names_differ x) ys) later.1 in
    ap (λ b. b || stands xs (name_of e)) (same_name-sym (name_of e) (name_of x) ∙ not-true (same_name (name_of x) (name_of e)) apart.0)
    ∙ none-ahead e xs ys hs.1

split-at : (es : List Entry) (i : ℕ) (e : Entry) → i < length es → e ≡ get_or es i e → es ≡ take i es ++ e ∷ drop (suc i) es
split-at [] i e below is = absurd (omega arith)
split-at (x ∷ es) zero e below is = ap (λ (y : Entry). y ∷ es) (sym is)
split-at (x ∷ es) (suc i) e below is = ap (λ (l : List Entry). x ∷ l) (split-at es i e (omega arith) is)

-- an entry has the name of one ahead of it
pub twice : (es : List Entry) (i : ℕ) (e : Entry) → i < length es → e ≡ get_or es i e → stands (take i es) (name_of e) ≡ true → has_distinct_names es ≡ false
twice es i e below is there =
    elim (cases_Bool (has_distinct_names es)) [
      | inl t ↦
          absurd (true≢false (sym there ∙ none-ahead e (take i es) (drop (suc i) es) (ap has_distinct_names (sym (split-at es i e below is)) ∙ t)))
      | inr t ↦ t
    ]
