-- Several places are emptied.
use Rattle.std.proofs.Common.{◌≡◌, ℕ, zero, suc, ◌+◌, ◌<◌, List, [], ◌∷◌, ◌++◌, Bool, true, false, cond, not, ◌||◌, nat_eq, length, take, set, map, filter}
use Rattle.std.proofs.Common.{get_or, Option, Some, None, sym, ◌∙◌, ap, refl, arith}
use Rattle.std.specs.List.{list_any, cons_option}
use Rattle.std.proofs.lemmas.Bool.Decides.{nat_tests}
use Rattle.std.proofs.lemmas.List.{length-map}
use Rattle.lock_entry.specs.declared.entry.Entry.{Entry}
use Rattle.lock_index.specs.Slots.{slot_at, live, on_some}
use Rattle.lock_index.proofs.Numbers.{any-more}
use Rattle.lock_index.proofs.Owned.{get_or-same, slots-same}

zero-suc : (j : ℕ) → nat_eq 0 (suc j) ≡ false
zero-suc j = grind (arith, nat_tests)

suc-zero : (j : ℕ) → nat_eq (suc j) 0 ≡ false
suc-zero j = grind (arith, nat_tests)

suc-suc : (i j : ℕ) → nat_eq (suc i) (suc j) ≡ nat_eq i j
suc-suc i j = grind (arith, nat_tests)

nowhere : (b : Bool) (o : Option Entry) → o ≡ cond b o o
nowhere true o = refl
nowhere false o = refl

slot-cleared : (ss : List (Option Entry)) (i j : ℕ) → slot_at (set ss i None) j ≡ cond (nat_eq i j) None (slot_at ss j)
slot-cleared [] i j = nowhere (nat_eq i j) None
slot-cleared (s ∷ ss) zero zero = refl
slot-cleared (s ∷ ss) zero (suc j) = ap (λ b. cond b None (slot_at ss j)) (sym (zero-suc j))
slot-cleared (s ∷ ss) (suc i) zero = ap (λ b. cond b None s) (sym (suc-zero i))
slot-cleared (s ∷ ss) (suc i) (suc j) = slot-cleared ss i j ∙ ap (λ b. cond b None (slot_at ss j)) (sym (suc-suc i j))

-- one place more is emptied
pub cleared-more : (old mid new : List (Option Entry)) (ps : List ℕ) (i : ℕ) → i < length ps
    → ((j : ℕ) → slot_at mid j ≡ cond (list_any (nat_eq j) (take i ps)) None (slot_at old j)) → new ≡ set mid (get_or ps i 0) None → (j : ℕ)
    → slot_at new j ≡ cond (list_any (nat_eq j) (take (i + 1) ps)) None (slot_at old j)
cleared-more old mid new ps i below so_far step j =
    let p = get_or ps i 0 in
    ap (λ ss. slot_at ss j) step ∙ slot-cleared mid p j
    ∙ ap (λ o. cond (nat_eq p j) None o) (so_far j)
    ∙ joined (nat_eq p j) (list_any (nat_eq j) (take i ps)) (slot_at old j)
    ∙ ap (λ b. cond b None (slot_at old j))
    (ap (λ b. list_any (nat_eq j) (take i ps) || b) (flip p j) ∙ sym (any-more (nat_eq j) ps i p below (get_or-same ps i 0 p below)))
  where
    flip : (a b : ℕ) → nat_eq a b ≡ nat_eq b a
    flip a b = grind (arith, nat_tests)

    joined : (b a : Bool) (o : Option Entry) → cond b None (cond a None o) ≡ cond (a || b) None o
    joined true true o = refl
    joined true false o = refl
    joined false true o = refl
    joined false false o = refl

-- empty where the test is passed
abbrev clear_slot : (Entry → Bool) → Option Entry → Option Entry
clear_slot q None = None
clear_slot q (Some e) = cond (q e) None (Some e)

slot-clear : (q : Entry → Bool) (ss : List (Option Entry)) (j : ℕ) → slot_at (map (clear_slot q) ss) j ≡ clear_slot q (slot_at ss j)
slot-clear q [] j = refl
slot-clear q (s ∷ ss) zero = refl
slot-clear q (s ∷ ss) (suc j) = slot-clear q ss j

clear-cond : (q : Entry → Bool) (o : Option Entry) → cond (on_some q o) None o ≡ clear_slot q o
clear-cond q None = refl
clear-cond q (Some e) = refl

live-clear : (q : Entry → Bool) (ss : List (Option Entry)) → live (map (clear_slot q) ss) ≡ filter (λ e. not (q e)) (live ss)
live-clear q [] = refl
live-clear q (None ∷ ss) = live-clear q ss
live-clear q (Some e ∷ ss) = ap (λ (l : List Entry). cons_option (cond (q e) None (Some e)) l) (live-clear q ss) ∙ put (q e) (filter (λ x. not (q x)) (live ss))
  where
    put : (b : Bool) (l : List Entry) → cons_option (cond b None (Some e)) l ≡ cond (not b) (e ∷ l) l
    put true l = refl
    put false l = refl

-- what stood where the test is passed went
pub live-cleared : (q : Entry → Bool) (old new : List (Option Entry)) (ps : List ℕ) → length new ≡ length old
    → ((j : ℕ) → slot_at new j ≡ cond (list_any (nat_eq j) ps) None (slot_at old j)) → ((j : ℕ) → list_any (nat_eq j) ps ≡ on_some q (slot_at old j))
    → live new ≡ filter (λ e. not (q e)) (live old)
live-cleared q old new ps long cleared shown =
    let is : new ≡ map (clear_slot q) old =
    slots-same new (map (clear_slot q) old) (long ∙ sym (length-map old (clear_slot q)))
    (λ j. cleared j ∙ ap (λ b. cond b None (slot_at old j)) (shown j) ∙ clear-cond q (slot_at old j) ∙ sym (slot-clear q old j)) in
    ap live is ∙ live-clear q old

-- What stood where the test is passed went, and what stands behind stays.
pub live-replaced : (q : Entry → Bool) (gone : ℕ → Bool) (old rest new : List (Option Entry)) → length new ≡ length (old ++ rest)
    → ((j : ℕ) → slot_at new j ≡ cond (gone j) None (slot_at (old ++ rest) j)) → ((j : ℕ) → gone j ≡ on_some q (slot_at old j))
    → live new ≡ filter (λ e. not (q e)) (live old) ++ live rest
live-replaced q gone [] rest new long cleared shown =
    ap live (slots-same new rest long (λ j. cleared j ∙ ap (λ b. cond b None (slot_at rest j)) (shown j)))
live-replaced q gone (o ∷ old) rest [] long cleared shown = absurd (omega arith)
live-replaced q gone (o ∷ old) rest (x ∷ new) long cleared shown =
    let behind : live new ≡ filter (λ e. not (q e)) (live old) ++ live rest =
    live-replaced q (λ j. gone (suc j)) old rest new (let s : length new ≡ length (old ++ rest) = omega arith in s) (λ j. cleared (suc j))
    (λ j. shown (suc j)) in
    let first : x ≡ clear_slot q o = cleared 0 ∙ ap (λ b. cond b None o) (shown 0) ∙ clear-cond q o in
    ap (λ (y : Option Entry). cons_option y (live new)) first
    ∙ ap (λ (l : List Entry). cons_option (clear_slot q o) l) behind
    ∙ put o
  where
    put : (y : Option Entry) → cons_option (clear_slot q y) (filter (λ e. not (q e)) (live old) ++ live rest) ≡ filter (λ e. not (q e))
        (cons_option y (live old)) ++ live rest
    put None = refl
    put (Some e) = kept (q e)
      where
        kept : (b : Bool) → cons_option (cond b None (Some e)) (filter (λ x. not (q x)) (live old) ++ live rest) ≡ cond (not b)
            (e ∷ filter (λ x. not (q x)) (live old)) (filter (λ x. not (q x)) (live old)) ++ live rest
        kept true = refl
        kept false = refl
