-- What a change of one set does to the numbers under all keys.
use Rattle.std.proofs.Common.{◌≡◌, ℕ, zero, suc, ◌+◌, ◌<◌, List, [], ◌∷◌, ◌++◌, Bool, true, false, cond, not, ◌&&◌, ◌||◌, nat_eq, Option, Some, None, sym, ◌∙◌}
use Rattle.std.proofs.Common.{ap, refl, arith, inl, inr, get_or, take, length}
use Rattle.std.specs.List.{list_any, IsDistinct}
use Rattle.std.specs.Option.{option_map_or}
use Rattle.std.proofs.lemmas.Bool.{cases_Bool, or_left, or_right, or_cases, and_parts, and_from}
use Rattle.std.proofs.lemmas.Bool.Decides.{nat_tests}
use Rattle.std.proofs.lemmas.List.{take_more}
use Rattle.indexmap.specs.IndexMap.{IndexMap, get}
use Rattle.indexmap.specs.IndexSet.{IndexSet, contains}
use Rattle.lock_index.specs.declared.key.Key.{Key}
use Rattle.lock_index.specs.declared.members.NumberMap.{NumberMap}
use Rattle.lock_index.specs.Keys.{same_key}
use Rattle.lock_index.specs.Sameness.{same_key-same}
use Rattle.lock_index.specs.Members.{set_members, alone_or, members, has, AddsToSet, TakesFromSet, KeepsSets, Adds, Takes, Keeps, AddsAll, AddsSome, TakesAll}

or-cond : (b a : Bool) → cond b true a ≡ (a || b)
or-cond true true = refl
or-cond true false = refl
or-cond false true = refl
or-cond false false = refl

and-cond : (b a : Bool) → cond b false a ≡ (a && not b)
and-cond true true = refl
and-cond true false = refl
and-cond false true = refl
and-cond false false = refl

pub or-nothing : (a : Bool) → (a || false) ≡ a
or-nothing true = refl
or-nothing false = refl

and-all : (a : Bool) → (a && true) ≡ a
and-all true = refl
and-all false = refl

module _ {S T : Type 0} where
  abbrev in_set : IndexMap Key (IndexSet ℕ S) T → Key → ℕ → Bool
  in_set m k i = list_any (nat_eq i) (set_members m k)

  module _ (old new : IndexMap Key (IndexSet ℕ S) T) (key : Key) (set : IndexSet ℕ S)
      (update : (q : Key) → get same_key new q ≡ cond (same_key key q) (Some set) (get same_key old q)) where
    here : (k : Key) → same_key key k ≡ true → set_members new k ≡ set.keys
    here k e = ap (λ o. option_map_or (λ s. s.keys) o []) (update k ∙ ap (λ b. cond b (Some set) (get same_key old k)) e)

    there : (k : Key) → same_key key k ≡ false → set_members new k ≡ set_members old k
    there k e = ap (λ o. option_map_or (λ s. s.keys) o []) (update k ∙ ap (λ b. cond b (Some set) (get same_key old k)) e)

    pub adds : (n : ℕ) → ((i : ℕ) → contains nat_eq set i ≡ cond (nat_eq n i) true (list_any (nat_eq i) (set_members old key))) → AddsToSet old new key n
    adds n h k i =
        elim (cases_Bool (same_key key k)) [
          | inl e ↦
              ap (list_any (nat_eq i)) (here k e) ∙ h i ∙ or-cond (nat_eq n i) (in_set old key i)
              ∙ ap (λ q. in_set old q i || nat_eq n i) (same_key-same key k e)
              ∙ ap (λ b. in_set old k i || (b && nat_eq n i)) (sym e)
          | inr e ↦
              ap (list_any (nat_eq i)) (there k e) ∙ sym (or-nothing (in_set old k i))
              ∙ ap (λ b. in_set old k i || (b && nat_eq n i)) (sym e)
        ]

    pub takes : (n : ℕ) → ((i : ℕ) → contains nat_eq set i ≡ cond (nat_eq n i) false (list_any (nat_eq i) (set_members old key))) → TakesFromSet old new key n
    takes n h k i =
        elim (cases_Bool (same_key key k)) [
          | inl e ↦
              ap (list_any (nat_eq i)) (here k e) ∙ h i ∙ and-cond (nat_eq n i) (in_set old key i)
              ∙ ap (λ q. in_set old q i && not (nat_eq n i)) (same_key-same key k e)
              ∙ ap (λ b. in_set old k i && not (b && nat_eq n i)) (sym e)
          | inr e ↦
              ap (list_any (nat_eq i)) (there k e) ∙ sym (and-all (in_set old k i))
              ∙ ap (λ b. in_set old k i && not (b && nat_eq n i)) (sym e)
        ]

  -- a key without numbers goes
  pub keeps-empty : (old new : IndexMap Key (IndexSet ℕ S) T) (key : Key) → ((q : Key) → get same_key new q ≡ cond (same_key key q) None (get same_key old q))
      → set_members old key ≡ [] → KeepsSets old new
  keeps-empty old new key update none k i =
      elim (cases_Bool (same_key key k)) [
        | inl e ↦
            ap (λ o. list_any (nat_eq i) (option_map_or (λ s. s.keys) o [])) (update k ∙ ap (λ b. cond b None (get same_key old k)) e)
            ∙ ap (list_any (nat_eq i)) (sym none)
            ∙ ap (λ q. in_set old q i) (same_key-same key k e)
        | inr e ↦ ap (λ o. list_any (nat_eq i) (option_map_or (λ s. s.keys) o [])) (update k ∙ ap (λ b. cond b None (get same_key old k)) e)
      ]

  -- the sets after one of them is written or goes
  pub set-written : (old new : IndexMap Key (IndexSet ℕ S) T) (key : Key) (o : Option (IndexSet ℕ S))
      → ((q : Key) → get same_key new q ≡ cond (same_key key q) o (get same_key old q)) → (k : Key)
      → set_members new k ≡ cond (same_key key k) (option_map_or (λ s. s.keys) o []) (set_members old k)
  set-written old new key o update k = ap (λ o. option_map_or (λ s. s.keys) o []) (update k) ∙ within (same_key key k) (get same_key old k)
    where
      within : (b : Bool) (x : Option (IndexSet ℕ S)) → option_map_or (λ s. s.keys) (cond b o x) [] ≡ cond b (option_map_or (λ s. s.keys) o [])
          (option_map_or (λ s. s.keys) x [])
      within true x = refl
      within false x = refl

pub one-distinct : (n : ℕ) → IsDistinct nat_eq (n ∷ [])
unfolding IsDistinct
one-distinct n = (tt, tt)

nat_eq-flip : (i j : ℕ) → nat_eq i j ≡ nat_eq j i
nat_eq-flip i j = grind (arith, nat_tests)

module _ (old new : NumberMap) (key : Key) where
  -- the numbers after those alone and the sets are written at one key
  pub both-written : (a : Option ℕ) (ns : List ℕ) → ((q : Key) → get same_key new.alone q ≡ cond (same_key key q) a (get same_key old.alone q))
      → ((q : Key) → set_members new.sets q ≡ cond (same_key key q) ns (set_members old.sets q)) → (k : Key)
      → members new k ≡ cond (same_key key k) (alone_or a ns) (members old k)
  both-written a ns alone sets k = (λ i. alone_or (alone k i) (sets k i)) ∙ joined (same_key key k) (get same_key old.alone k) (set_members old.sets k)
    where
      joined : (b : Bool) (x : Option ℕ) (ys : List ℕ) → alone_or (cond b a x) (cond b ns ys) ≡ cond b (alone_or a ns) (alone_or x ys)
      joined true x ys = refl
      joined false x ys = refl

  module _ (ns : List ℕ) (update : (k : Key) → members new k ≡ cond (same_key key k) ns (members old k)) where
    adds-one : (n : ℕ) → ((i : ℕ) → list_any (nat_eq i) ns ≡ (has old key i || nat_eq n i)) → Adds old new key n
    adds-one n h k i =
        elim (cases_Bool (same_key key k)) [
          | inl e ↦
              ap (list_any (nat_eq i)) (update k ∙ ap (λ b. cond b ns (members old k)) e) ∙ h i
              ∙ ap (λ q. has old q i || nat_eq n i) (same_key-same key k e)
              ∙ ap (λ b. has old k i || (b && nat_eq n i)) (sym e)
          | inr e ↦
              ap (list_any (nat_eq i)) (update k ∙ ap (λ b. cond b ns (members old k)) e) ∙ sym (or-nothing (has old k i))
              ∙ ap (λ b. has old k i || (b && nat_eq n i)) (sym e)
        ]

    takes-one : (n : ℕ) → ((i : ℕ) → list_any (nat_eq i) ns ≡ (has old key i && not (nat_eq n i))) → Takes old new key n
    takes-one n h k i =
        elim (cases_Bool (same_key key k)) [
          | inl e ↦
              ap (list_any (nat_eq i)) (update k ∙ ap (λ b. cond b ns (members old k)) e) ∙ h i
              ∙ ap (λ q. has old q i && not (nat_eq n i)) (same_key-same key k e)
              ∙ ap (λ b. has old k i && not (b && nat_eq n i)) (sym e)
          | inr e ↦
              ap (list_any (nat_eq i)) (update k ∙ ap (λ b. cond b ns (members old k)) e) ∙ sym (and-all (has old k i))
              ∙ ap (λ b. has old k i && not (b && nat_eq n i)) (sym e)
        ]

  -- the number that a key has alone goes into a set with another
  pub adds-second : (first n : ℕ) (ns : List ℕ) → get same_key old.alone key ≡ Some first
      → ((i : ℕ) → list_any (nat_eq i) ns ≡ cond (nat_eq n i) true (cond (nat_eq first i) true false))
      → ((q : Key) → get same_key new.alone q ≡ cond (same_key key q) None (get same_key old.alone q))
      → ((q : Key) → set_members new.sets q ≡ cond (same_key key q) ns (set_members old.sets q)) → Adds old new key n
  adds-second first n ns had both alone sets =
      adds-one ns (both-written None ns alone sets) n
      (λ i.
      both i ∙ joined (nat_eq n i) (nat_eq first i) ∙ ap (λ b. (b || false) || nat_eq n i) (nat_eq-flip first i)
      ∙ ap (λ o. list_any (nat_eq i) (alone_or o (set_members old.sets key)) || nat_eq n i) (sym had))
    where
      joined : (a b : Bool) → cond a true (cond b true false) ≡ ((b || false) || a)
      joined true true = refl
      joined true false = refl
      joined false true = refl
      joined false false = refl

  -- the number that a key has alone goes
  pub takes-alone : (n : ℕ) → get same_key old.alone key ≡ Some n → ((k : Key) → members new k ≡ cond (same_key key k) [] (members old k)) → Takes old new key n
  takes-alone n had update =
      takes-one [] update n
      (λ i.
      sym (nothing (nat_eq n i)) ∙ ap (λ b. (b || false) && not (nat_eq n i)) (nat_eq-flip n i)
      ∙ ap (λ o. list_any (nat_eq i) (alone_or o (set_members old.sets key)) && not (nat_eq n i)) (sym had))
    where
      nothing : (b : Bool) → ((b || false) && not b) ≡ false
      nothing true = refl
      nothing false = refl

any-push : {X : Type 0} (p : X → Bool) (xs : List X) (y : X) → list_any p (xs ++ y ∷ []) ≡ (list_any p xs || p y)
any-push p [] y = sides (p y)
  where
    sides : (b : Bool) → (b || false) ≡ (false || b)
    sides true = refl
    sides false = refl
any-push p (x ∷ xs) y = ap (λ b. p x || b) (any-push p xs y) ∙ grouped (p x) (list_any p xs) (p y)
  where
    grouped : (a b c : Bool) → (a || (b || c)) ≡ ((a || b) || c)
    grouped true b c = refl
    grouped false b c = refl

pub any-more : {X : Type 0} (p : X → Bool) (xs : List X) (i : ℕ) (x : X) → i < length xs → x ≡ get_or xs i x
    → list_any p (take (i + 1) xs) ≡ (list_any p (take i xs) || p x)
any-more {X = X} p xs i x h r =
    let longer : take (i + 1) xs ≡ take i xs ++ x ∷ [] = take_more xs i x h ∙ ap (λ (y : X). take i xs ++ y ∷ []) (sym r) in
    ap (list_any p) longer ∙ any-push p (take i xs) x

any-take : {X : Type 0} (p : X → Bool) (i : ℕ) (xs : List X) → list_any p (take i xs) ≡ true → list_any p xs ≡ true
any-take p zero xs h = absurd (cc)
any-take p (suc i) [] h = absurd (cc)
any-take p (suc i) (x ∷ xs) h =
    elim (or_cases (p x) (list_any p (take i xs)) h) [
      | inl a ↦ or_left (p x) _ a
      | inr a ↦ or_right (p x) _ (any-take p i xs a)
    ]

module _ (first old new : NumberMap) (keys : List Key) (n i : ℕ) (q : Key) (below : i < length keys) (read : q ≡ get_or keys i q) where
  -- one more key of the list
  pub adds-more : AddsAll first old (take i keys) n → Adds old new q n → AddsAll first new (take (i + 1) keys) n
  adds-more so_far here k j =
      here k j ∙ ap (λ b. b || (same_key q k && nat_eq n j)) (so_far k j)
      ∙ joined (has first k j) (list_any (λ p. same_key p k) (take i keys)) (same_key q k) (nat_eq n j)
      ∙ ap (λ b. has first k j || (b && nat_eq n j)) (sym (any-more (λ p. same_key p k) keys i q below read))
    where
      joined : (h a b c : Bool) → ((h || (a && c)) || (b && c)) ≡ (h || ((a || b) && c))
      joined true a b c = refl
      joined false true b true = refl
      joined false true true false = refl
      joined false true false false = refl
      joined false false b c = refl

  pub takes-more : TakesAll first old (take i keys) n → Takes old new q n → TakesAll first new (take (i + 1) keys) n
  takes-more so_far here k j =
      here k j ∙ ap (λ b. b && not (same_key q k && nat_eq n j)) (so_far k j)
      ∙ joined (has first k j) (list_any (λ p. same_key p k) (take i keys)) (same_key q k) (nat_eq n j)
      ∙ ap (λ b. has first k j && not (b && nat_eq n j)) (sym (any-more (λ p. same_key p k) keys i q below read))
    where
      joined : (h a b c : Bool) → ((h && not (a && c)) && not (b && c)) ≡ (h && not ((a || b) && c))
      joined false a b c = refl
      joined true true b true = refl
      joined true true true false = refl
      joined true true false false = refl
      joined true false b c = refl

  -- memory is wanting for one of them
  pub adds-some : AddsAll first old (take i keys) n → Keeps old new → AddsSome first new keys n
  adds-some so_far same k j =
      let is = same k j ∙ so_far k j in (
        λ h. is ∙ or_left (has first k j) _ h,
        λ h. elim (or_cases (has first k j) (list_any (λ p. same_key p k) (take i keys) && nat_eq n j) (sym is ∙ h)) [
          | inl a ↦ or_left (has first k j) _ a
          | inr a ↦
              let as' = and_parts (list_any (λ p. same_key p k) (take i keys)) (nat_eq n j) a in
              or_right (has first k j) _ (and_from (list_any (λ p. same_key p k) keys) (nat_eq n j) (any-take (λ p. same_key p k) i keys as'.0) as'.1)
        ],
      )
