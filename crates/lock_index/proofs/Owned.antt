-- The entries of an owner.
use Rattle.std.proofs.Common.{◌≡◌, ℕ, zero, suc, ◌+◌, ◌<◌, List, [], ◌∷◌, ◌++◌, Bool, true, false, true≢false, cond, not, ◌&&◌, ◌||◌, nat_eq, length, take}
use Rattle.std.proofs.Common.{drop, set, map, filter, get_or, Option, Some, None, sym, ◌∙◌, ap, refl, arith, inl, inr, subst}
use Rattle.std.specs.List.{list_any, IsDistinct, AllByRecursion}
use Rattle.std.specs.Prelude.{count_by}
use Rattle.std.specs.Option.{option_map}
use Rattle.std.proofs.lemmas.Bool.{cases_Bool, or_left, eqb-true, eq-eqb}
use Rattle.std.proofs.lemmas.Bool.Decides.{nat_tests}
use Rattle.std.proofs.lemmas.List.{length-map}
use Rattle.std.proofs.lemmas.List.Sums.{sum_by-append, sum_by-cons}
use Rattle.std.proofs.lemmas.List.Elements.{filter-append}
use Rattle.enq_base.specs.declared.owner.Owner.{Owner}
use Rattle.enq_base.specs.declared.owner.Owner.TheVariants.{Dlg, Upd}
use Rattle.enq_base.specs.declared.owner.UnitKey.{UnitKey}
use Rattle.enq_base.specs.Owners.{same_owner, same_unit}
use Rattle.mode_rules.specs.Modes.{same_mode}
use Rattle.mode_rules.specs.declared.Mode.{Mode}
use Rattle.mode_rules.specs.declared.Mode.TheVariants.{S, E, X, O}
use Rattle.lock_entry.specs.declared.entry.Entry.{Entry}
use Rattle.lock_entry.specs.Names.{is_of}
use Rattle.lock_entry.specs.Freeing.{flagged}
use Rattle.lock_entry.proofs.lemmas.Lists.{count_by-none}
use Rattle.lock_index.specs.declared.key.Key.{Key}
use Rattle.lock_index.specs.declared.members.NumberMap.{NumberMap}
use Rattle.lock_index.specs.declared.key.Key.TheVariants.{Optimistic}
use Rattle.lock_index.specs.Keys.{literal, has_key, same_key, owner_key, optimistic_key, spot_key, stretch_key, lengths_key}
use Rattle.lock_index.specs.Slots.{slot_at, live, on_some, handed, flag_slot, is_lengths, IsShown}
use Rattle.lock_index.specs.Members.{has}
use Rattle.lock_index.proofs.Live.{live-split, live-set}
use Rattle.lock_index.proofs.Slots.{slot-set, slot-within}
use Rattle.lock_index.proofs.Changed.{any-none}
use Rattle.lock_index.proofs.Numbers.{any-more}

twice : (a : Bool) → (a || (false || (false || (a || false)))) ≡ a
twice true = refl
twice false = refl

nothing : (a : Bool) → (a || (false || (false || (false || false)))) ≡ a
nothing true = refl
nothing false = refl

last : (a : Bool) → (false || (false || (false || (a || false)))) ≡ (a && true)
last true = refl
last false = refl

never : (a : Bool) → false ≡ (a && false)
never true = refl
never false = refl

-- the entries under the key of an owner are the owner's
module _ (e : Entry) where
  abbrev keyed : Owner → Mode → Key → Bool
  keyed o m k = same_key (owner_key o) k
      || (same_key (spot_key e.table e.pattern) k || (same_key (stretch_key e.table e.pattern) k || (same_key (optimistic_key o m) k || false)))

  owned : (a b : Owner) (m : Mode) → keyed b m (owner_key a) ≡ same_owner b a
  owned (Dlg s n) (Dlg t k) m = twice (nat_eq t s && nat_eq k n)
  owned (Dlg s n) (Upd v) S = refl
  owned (Dlg s n) (Upd v) E = refl
  owned (Dlg s n) (Upd v) X = refl
  owned (Dlg s n) (Upd v) O = refl
  owned (Upd u) (Dlg t k) m = refl
  owned (Upd u) (Upd v) S = twice (same_unit v u)
  owned (Upd u) (Upd v) E = twice (same_unit v u)
  owned (Upd u) (Upd v) X = twice (same_unit v u)
  owned (Upd u) (Upd v) O = nothing (same_unit v u)

  mild : (u : UnitKey) (b : Owner) (m : Mode) → keyed b m (Optimistic u.start u.session u.luw) ≡ (same_owner b (Upd u) && same_mode m O)
  mild u (Dlg t k) m = refl
  mild u (Upd v) S = never (same_unit v u)
  mild u (Upd v) E = never (same_unit v u)
  mild u (Upd v) X = never (same_unit v u)
  mild u (Upd v) O = last (same_unit v u)

  pub owner-is : (o : Owner) → has_key (owner_key o) e ≡ is_of o e
  owner-is o = owned o e.owner e.mode

  pub optimistic-is : (u : UnitKey) → has_key (Optimistic u.start u.session u.luw) e ≡ (is_of (Upd u) e && same_mode e.mode O)
  optimistic-is u = mild u e.owner e.mode

pub not-lengths : (o : Owner) → is_lengths (owner_key o) ≡ false
not-lengths (Dlg s n) = refl
not-lengths (Upd u) = refl

-- an entry that a filter drops
pub filter-dropped : (p : Entry → Bool) (ss : List (Option Entry)) (i : ℕ) (e : Entry) → slot_at ss i ≡ Some e → p e ≡ false
    → filter p (live (set ss i None)) ≡ filter p (live ss)
filter-dropped p ss i e at h =
    let xs = live (take i ss) in
    let ys = live (drop (suc i) ss) in
    ap (filter p) (live-set ss i e None at) ∙ filter-append p xs ys
    ∙ ap (λ (l : List Entry). filter p xs ++ l) (sym (ap (λ b. cond b (e ∷ filter p ys) (filter p ys)) h))
    ∙ sym (filter-append p xs (e ∷ ys)) ∙ ap (filter p) (sym (live-split ss i e at))

filter-all : (p : Entry → Bool) (xs : List Entry) → list_any p xs ≡ false → filter (λ e. not (p e)) xs ≡ xs
filter-all p [] h = refl
filter-all p (x ∷ xs) h =
    elim (cases_Bool (p x)) [
      | inl t ↦ absurd (let k = rw t at h in cc)
      | inr t ↦ let k = rw t at h in ap (λ b. cond (not b) (x ∷ filter (λ e. not (p e)) xs) (filter (λ e. not (p e)) xs)) t
          ∙ ap (λ (l : List Entry). x ∷ l) (filter-all p xs k)
    ]

-- where no place passes the test, the filter keeps all
pub filter-kept : (p : Entry → Bool) (ss : List (Option Entry)) → ((i : ℕ) → on_some p (slot_at ss i) ≡ false) → live ss ≡ filter (λ e. not (p e)) (live ss)
filter-kept p ss h = sym (filter-all p (live ss) (any-none p ss h))

count-append : (p : Entry → Bool) (xs ys : List Entry) → count_by p (xs ++ ys) ≡ count_by p xs + count_by p ys
count-append p xs ys = sum_by-append (λ e. cond (p e) 1 0) xs ys

count-less : (q : Entry → Bool) (ss : List (Option Entry)) (i : ℕ) (e : Entry) → slot_at ss i ≡ Some e → q e ≡ true
    → count_by q (live ss) ≡ suc (count_by q (live (set ss i None)))
count-less q ss i e at h =
    let xs = live (take i ss) in
    let ys = live (drop (suc i) ss) in
    let one : count_by q (e ∷ ys) ≡ 1 + count_by q ys = sum_by-cons (λ x. cond (q x) 1 0) e ys ∙ ap (λ b. cond b 1 0 + count_by q ys) h in
    let whole : count_by q (live ss) ≡ count_by q xs + count_by q (e ∷ ys) = ap (count_by q) (live-split ss i e at) ∙ count-append q xs (e ∷ ys) in
    let less : count_by q (live (set ss i None)) ≡ count_by q xs + count_by q ys = ap (count_by q) (live-set ss i e None at) ∙ count-append q xs ys in
    omega arith

-- places that are distinct are as many as the entries at them
pub distinct-count : (q : Entry → Bool) (ks : List ℕ) (ss : List (Option Entry)) → IsDistinct nat_eq ks
    → ((j : ℕ) → list_any (nat_eq j) ks ≡ on_some q (slot_at ss j)) → length ks ≡ count_by q (live ss)
unfolding IsDistinct
distinct-count q [] ss d h = sym (count_by-none q (live ss) (any-none q ss (λ j. sym (h j))))
distinct-count q (k ∷ ks) ss d h = go (slot_at ss k) refl (sym (h k) ∙ or_left (nat_eq k k) _ (eq-eqb k k refl)) (distinct-count q ks (set ss k None) d.1)
  where
    others : (zs : List ℕ) → AllByRecursion (λ y. nat_eq k y ≡ false) zs → list_any (nat_eq k) zs ≡ false
    others [] a = refl
    others (z ∷ zs) a = ap (λ b. b || list_any (nat_eq k) zs) a.0 ∙ others zs a.1

    flip : (j : ℕ) → nat_eq k j ≡ false → nat_eq j k ≡ false
    flip j f = grind (arith, nat_tests)

    go : (o : Option Entry) → slot_at ss k ≡ o → on_some q (slot_at ss k) ≡ true
        → (((j : ℕ) → list_any (nat_eq j) ks ≡ on_some q (slot_at (set ss k None) j)) → length ks ≡ count_by q (live (set ss k None)))
        → length (k ∷ ks) ≡ count_by q (live ss)
    go None at t rest = absurd (true≢false (sym t ∙ ap (on_some q) at))
    go (Some e) at t rest =
        let within = slot-within ss k e at in
        let passes : q e ≡ true = sym (ap (on_some q) at) ∙ t in
        let same : (j : ℕ) → list_any (nat_eq j) ks ≡ on_some q (slot_at (set ss k None) j) = λ j.
        elim (cases_Bool (nat_eq k j)) [
          | inl e' ↦
              let is : k ≡ j = eqb-true k j e' in
              sym (ap (λ n. list_any (nat_eq n) ks) is) ∙ others ks d.0
              ∙ sym (ap (on_some q) (slot-set ss k None j within ∙ ap (λ b. cond b None (slot_at ss j)) e'))
          | inr e' ↦
              sym (ap (λ b. b || list_any (nat_eq j) ks) (flip j e')) ∙ h j
              ∙ sym (ap (on_some q) (slot-set ss k None j within ∙ ap (λ b. cond b None (slot_at ss j)) e'))
        ] in
        ap (λ (n : ℕ). suc n) (rest same) ∙ sym (count-less q ss k e at passes)

pub slots-same : (xs ys : List (Option Entry)) → length xs ≡ length ys → ((j : ℕ) → slot_at xs j ≡ slot_at ys j) → xs ≡ ys
slots-same [] [] l h = refl
slots-same [] (y ∷ ys) l h = absurd (omega arith)
slots-same (x ∷ xs) [] l h = absurd (omega arith)
slots-same (x ∷ xs) (y ∷ ys) l h = λ i. h 0 i ∷ slots-same xs ys (let s : length xs ≡ length ys = omega arith in s) (λ j. h (suc j)) i

slot-flagged : (k : Key) (ss : List (Option Entry)) (j : ℕ) → slot_at (map (flag_slot k) ss) j ≡ flag_slot k (slot_at ss j)
slot-flagged k [] j = refl
slot-flagged k (s ∷ ss) zero = refl
slot-flagged k (s ∷ ss) (suc j) = slot-flagged k ss j

flag-cond : (k : Key) (o : Option Entry) → cond (on_some (has_key k) o) (option_map handed o) o ≡ flag_slot k o
flag-cond k None = refl
flag-cond k (Some e) = go (has_key k e)
  where
    go : (b : Bool) → cond b (Some (handed e)) (Some e) ≡ Some (cond b (handed e) e)
    go true = refl
    go false = refl

pub on-flagged : (k q : Key) (o : Option Entry) → on_some (has_key q) (flag_slot k o) ≡ on_some (has_key q) o
on-flagged k q None = refl
on-flagged k q (Some e) = go (has_key k e)
  where
    go : (b : Bool) → has_key q (cond b (handed e) e) ≡ has_key q e
    go true = refl
    go false = refl

-- flags change no key
pub shown-flagged : (k : Key) (ss : List (Option Entry)) (m : NumberMap) → IsShown ss m → IsShown (map (flag_slot k) ss) m
shown-flagged k ss m shown = record {
  exact = λ q j h. shown.exact q j h ∙ sym (ap (on_some (has_key q)) (slot-flagged k ss j) ∙ on-flagged k q (slot_at ss j));
  lengths = λ j f h. known j f (slot_at ss j) refl (sym (slot-flagged k ss j) ∙ h);
}
  where
    known : (j : ℕ) (f : Entry) (o : Option Entry) → slot_at ss j ≡ o → flag_slot k (slot_at ss j) ≡ Some f
        → has m (lengths_key f.table) (literal f.pattern) ≡ true
    known j f None at h = absurd (let g = rw at at h in cc)
    known j f (Some e) at h = go (has_key k e) (sym (ap (flag_slot k) at) ∙ h)
      where
        go : (b : Bool) → Some (cond b (handed e) e) ≡ Some f → has m (lengths_key f.table) (literal f.pattern) ≡ true
        go true g = let is : handed e ≡ f = cc in subst (λ x. has m (lengths_key x.table) (literal x.pattern) ≡ true) is (shown.lengths j e at)
        go false g = let is : e ≡ f = cc in subst (λ x. has m (lengths_key x.table) (literal x.pattern) ≡ true) is (shown.lengths j e at)

pub length-flagged : (k : Key) (ss : List (Option Entry)) → length (live (map (flag_slot k) ss)) ≡ length (live ss)
length-flagged k [] = refl
length-flagged k (None ∷ ss) = length-flagged k ss
length-flagged k (Some e ∷ ss) = ap (λ (n : ℕ). suc n) (length-flagged k ss)

pub flagged-is : (k : Key) (old new : List (Option Entry)) (ps : List ℕ) → length new ≡ length old
    → ((j : ℕ) → slot_at new j ≡ cond (list_any (nat_eq j) ps) (option_map handed (slot_at old j)) (slot_at old j))
    → ((j : ℕ) → list_any (nat_eq j) ps ≡ on_some (has_key k) (slot_at old j)) → new ≡ map (flag_slot k) old
flagged-is k old new ps l h shown =
    slots-same new (map (flag_slot k) old) (l ∙ sym (length-map old (flag_slot k)))
    (λ j. h j ∙ ap (λ b. cond b (option_map handed (slot_at old j)) (slot_at old j)) (shown j) ∙ flag-cond k (slot_at old j) ∙ sym (slot-flagged k old j))

live-flagged : (k : Key) (f : Entry → Entry) → ((e : Entry) → cond (has_key k e) (handed e) e ≡ f e) → (ss : List (Option Entry))
    → live (map (flag_slot k) ss) ≡ map f (live ss)
live-flagged k f h [] = refl
live-flagged k f h (None ∷ ss) = live-flagged k f h ss
live-flagged k f h (Some e ∷ ss) = λ i. h e i ∷ live-flagged k f h ss i

pub live-handed : (o : Owner) (ss : List (Option Entry)) → live (map (flag_slot (owner_key o)) ss) ≡ map (flagged o) (live ss)
live-handed o ss = live-flagged (owner_key o) (flagged o) (λ e. ap (λ b. cond b (handed e) e) (owner-is e o)) ss

pub slot-handed : (ss : List (Option Entry)) (i : ℕ) (e : Entry) → slot_at ss i ≡ Some e → (j : ℕ)
    → slot_at (set ss i (Some (handed e))) j ≡ cond (nat_eq i j) (option_map handed (slot_at ss j)) (slot_at ss j)
slot-handed ss i e at j =
    slot-set ss i (Some (handed e)) j (slot-within ss i e at)
    ∙ elim (cases_Bool (nat_eq i j)) [
      | inl t ↦
          let is : i ≡ j = eqb-true i j t in
          ap (λ b. cond b (Some (handed e)) (slot_at ss j)) t
          ∙ sym (ap (λ b. cond b (option_map handed (slot_at ss j)) (slot_at ss j)) t ∙ ap (option_map handed) (ap (slot_at ss) (sym is) ∙ at))
      | inr t ↦ ap (λ b. cond b (Some (handed e)) (slot_at ss j)) t ∙ sym (ap (λ b. cond b (option_map handed (slot_at ss j)) (slot_at ss j)) t)
    ]

pub slot-none : (ss : List (Option Entry)) (i : ℕ) → slot_at ss i ≡ None → (j : ℕ)
    → slot_at ss j ≡ cond (nat_eq i j) (option_map handed (slot_at ss j)) (slot_at ss j)
slot-none ss i at j =
    elim (cases_Bool (nat_eq i j)) [
      | inl t ↦
          let is : i ≡ j = eqb-true i j t in
          let none : slot_at ss j ≡ None = ap (slot_at ss) (sym is) ∙ at in
          none ∙ sym (ap (λ b. cond b (option_map handed (slot_at ss j)) (slot_at ss j)) t ∙ ap (option_map handed) none)
      | inr t ↦ sym (ap (λ b. cond b (option_map handed (slot_at ss j)) (slot_at ss j)) t)
    ]

pub get_or-same : {X : Type 0} (xs : List X) (i : ℕ) (a b : X) → i < length xs → get_or xs i a ≡ get_or xs i b
get_or-same [] i a b h = absurd (omega arith)
get_or-same (x ∷ xs) zero a b h = refl
get_or-same (x ∷ xs) (suc i) a b h = get_or-same xs i a b (omega arith)

pub flag-more : (old mid new : List (Option Entry)) (ps : List ℕ) (i : ℕ) → i < length ps
    → ((j : ℕ) → slot_at mid j ≡ cond (list_any (nat_eq j) (take i ps)) (option_map handed (slot_at old j)) (slot_at old j))
    → ((j : ℕ) → slot_at new j ≡ cond (nat_eq (get_or ps i 0) j) (option_map handed (slot_at mid j)) (slot_at mid j)) → (j : ℕ)
    → slot_at new j ≡ cond (list_any (nat_eq j) (take (i + 1) ps)) (option_map handed (slot_at old j)) (slot_at old j)
flag-more old mid new ps i below so_far step j =
    let p = get_or ps i 0 in
    step j
    ∙ ap (λ o. cond (nat_eq p j) (option_map handed o) o) (so_far j)
    ∙ joined (nat_eq p j) (list_any (nat_eq j) (take i ps)) (slot_at old j)
    ∙ ap (λ b. cond b (option_map handed (slot_at old j)) (slot_at old j))
    (ap (λ b. list_any (nat_eq j) (take i ps) || b) (flip p j) ∙ sym (any-more (nat_eq j) ps i p below (get_or-same ps i 0 p below)))
  where
    flip : (a b : ℕ) → nat_eq a b ≡ nat_eq b a
    flip a b = grind (arith, nat_tests)

    joined : (b a : Bool) (o : Option Entry) → cond b (option_map handed (cond a (option_map handed o) o)) (cond a (option_map handed o) o) ≡ cond (a || b)
        (option_map handed o) o
    joined true true None = refl
    joined true true (Some e) = refl
    joined true false o = refl
    joined false true o = refl
    joined false false o = refl
