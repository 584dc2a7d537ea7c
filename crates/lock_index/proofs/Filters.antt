-- Tests over lists of entries.
use Rattle.std.proofs.Common.{◌≡◌, ℕ, suc, ◌+◌, List, [], ◌∷◌, Bool, true, false, cond, not, ◌&&◌, ◌||◌, length, map, Some, None, sym, ◌∙◌, ap, refl, arith, inl, inr}
use Rattle.std.specs.Prelude.{count_by, min, option_map}
use Rattle.std.specs.List.{list_any, list_all, filter, position}
use Rattle.std.specs.Option.{option_map_or}
use Rattle.std.proofs.lemmas.Bool.{cases_Bool}
use Rattle.std.proofs.lemmas.List.Sums.{sum_by-cons}
use Rattle.enq_base.specs.Owners.{same_owner}
use Rattle.mode_rules.specs.Modes.{same_mode}
use Rattle.mode_rules.specs.declared.Mode.{Mode}
use Rattle.mode_rules.specs.declared.Mode.TheVariants.{S, E, X, O}
use Rattle.lock_entry.specs.declared.entry.Asked.{Asked}
use Rattle.lock_entry.specs.declared.entry.Asker.{Asker}
use Rattle.lock_entry.specs.declared.entry.Entry.{Entry}
use Rattle.lock_entry.specs.Names.{asked_of, has_name, stands, same_place}
use Rattle.lock_entry.specs.Converting.{is_optimistic}
use Rattle.lock_entry.specs.Sound.{are_apart, has_count, stands_with, first_against}
use Rattle.lock_entry.specs.Turning.{name_at}
use Rattle.lock_entry.proofs.lemmas.Naming.{same_owner-sym}
use Rattle.lock_entry.proofs.lemmas.Places.{position-Some, position-None, position-any}
use Rattle.lock_index.specs.Slots.{on_some}
use Rattle.lock_index.proofs.Oldest.{position-cons}

pub length-filter : {X : Type 0} (p : X → Bool) (xs : List X) → count_by p xs ≡ length (filter p xs)
length-filter p [] = refl
length-filter p (x ∷ xs) =
    elim (cases_Bool (p x)) [
      | inl t ↦ sum_by-cons (λ y. cond (p y) 1 0) x xs ∙ ap (λ b. cond b 1 0 + count_by p xs) t
          ∙ (let r = length-filter p xs in let s : 1 + count_by p xs ≡ suc (length (filter p xs)) = omega arith in s)
          ∙ sym (ap (λ b. length (cond b (x ∷ filter p xs) (filter p xs))) t)
      | inr t ↦ sum_by-cons (λ y. cond (p y) 1 0) x xs ∙ ap (λ b. cond b 1 0 + count_by p xs) t
          ∙ (let r = length-filter p xs in let s : 0 + count_by p xs ≡ length (filter p xs) = omega arith in s)
          ∙ sym (ap (λ b. length (cond b (x ∷ filter p xs) (filter p xs))) t)
    ]

pub any-either : {X : Type 0} (p q r : X → Bool) → ((x : X) → p x ≡ (q x || r x)) → (xs : List X) → list_any p xs ≡ (list_any q xs || list_any r xs)
any-either p q r h [] = refl
any-either p q r h (x ∷ xs) = (λ i. h x i || any-either p q r h xs i) ∙ mixed (q x) (r x) (list_any q xs) (list_any r xs)
  where
    mixed : (a b c d : Bool) → ((a || b) || (c || d)) ≡ ((a || c) || (b || d))
    mixed true b c d = refl
    mixed false true true d = refl
    mixed false true false d = refl
    mixed false false c d = refl

mode-turned : (m : Mode) → same_mode m O ≡ same_mode O m
mode-turned S = refl
mode-turned E = refl
mode-turned X = refl
mode-turned O = refl

-- an O entry of the pair is one of its two owners'
pub optimistic-either : (asker : Asker) (a : Asked) (es : List Entry) → list_any
    (is_optimistic asker a) es ≡ (stands es (name_at O asker.dialogue a.table a.pattern) || stands es (name_at O asker.update a.table a.pattern))
optimistic-either asker a es = any-either (is_optimistic asker a) (has_name (name_at O asker.dialogue a.table a.pattern))
    (has_name (name_at O asker.update a.table a.pattern)) each es
  where
    shape : (m x y p : Bool) → (m && ((x || y) && p)) ≡ ((x && (p && m)) || (y && (p && m)))
    shape true true y true = refl
    shape true true true false = refl
    shape true true false false = refl
    shape true false true true = refl
    shape true false true false = refl
    shape true false false p = refl
    shape false true true true = refl
    shape false true true false = refl
    shape false true false true = refl
    shape false true false false = refl
    shape false false true true = refl
    shape false false true false = refl
    shape false false false p = refl

    each : (e : Entry)
        → is_optimistic asker a e ≡ (has_name (name_at O asker.dialogue a.table a.pattern) e || has_name (name_at O asker.update a.table a.pattern) e)
    each e =
        shape (same_mode e.mode O) (same_owner e.owner asker.dialogue) (same_owner e.owner asker.update) (same_place a (asked_of e))
        ∙ (λ i. (same_owner-sym e.owner asker.dialogue i && (same_place a (asked_of e) && mode-turned e.mode i))
        || (same_owner-sym e.owner asker.update i && (same_place a (asked_of e) && mode-turned e.mode i)))

-- places of a list without empty ones
pub position-full : (q : Entry → Bool) (es : List Entry) → position (on_some q) (map (λ (e : Entry). Some e) es) ≡ position q es
position-full q [] = refl
position-full q (e ∷ es) =
    position-cons (on_some q) (Some e) (map (λ (x : Entry). Some x) es)
    ∙ ap (λ o. cond (q e) (Some 0) (option_map (λ i. i + 1) o)) (position-full q es)
    ∙ sym (position-cons q e es)

all-not_any : {X : Type 0} (p : X → Bool) (xs : List X) → list_all p xs ≡ not (list_any (λ x. not (p x)) xs)
all-not_any p [] = refl
all-not_any p (x ∷ xs) = ap (λ b. p x && b) (all-not_any p xs) ∙ shape (p x) (list_any (λ y. not (p y)) xs)
  where
    shape : (a b : Bool) → (a && not b) ≡ not (not a || b)
    shape true b = refl
    shape false b = refl

and-false : (a : Bool) → (a && false) ≡ false
and-false true = refl
and-false false = refl

and-true : (a : Bool) → (a && true) ≡ a
and-true true = refl
and-true false = refl

-- an entry before it stands against the entry
pub against-some : (before : List Entry) (e : Entry) (own i : ℕ) → position (on_some (λ a. not (are_apart a e))) (map (λ (x : Entry). Some x) before) ≡ Some i
    → length before ≡ own → Some (min i own + 1) ≡ cond (stands_with before e) None (Some (first_against before e))
against-some before e own i h long =
    let at : position (λ a. not (are_apart a e)) before ≡ Some i = sym (position-full (λ a. not (are_apart a e)) before) ∙ h in
    let within = (position-Some (λ a. not (are_apart a e)) before i at).1 in
    let least : min i own + 1 ≡ i + 1 = omega arith in
    let no : stands_with before e ≡ false =
    ap (λ b. has_count e && b) (all-not_any (λ a. are_apart a e) before ∙ ap not (position-any (λ a. not (are_apart a e)) before i at))
    ∙ and-false (has_count e) in
    ap (λ (n : ℕ). Some n) least
    ∙ sym (ap (λ b. cond b None (Some (first_against before e))) no ∙ ap (λ o. Some (option_map_or (λ k. k + 1) o (length before + 1))) at)

pub against-none : (before : List Entry) (e : Entry) (own : ℕ) → position (on_some (λ a. not (are_apart a e))) (map (λ (x : Entry). Some x) before) ≡ None
    → length before ≡ own → cond (has_count e) None (Some (own + 1)) ≡ cond (stands_with before e) None (Some (first_against before e))
against-none before e own h long =
    let at : position (λ a. not (are_apart a e)) before ≡ None = sym (position-full (λ a. not (are_apart a e)) before) ∙ h in
    let yes' : stands_with before e ≡ has_count e = ap (λ b. has_count e && b)
    (all-not_any (λ a. are_apart a e) before ∙ ap not (position-None (λ a. not (are_apart a e)) before at)) ∙ and-true (has_count e) in
    ap (λ (n : ℕ). cond (has_count e) None (Some (n + 1))) (sym long)
    ∙ sym (ap (λ b. cond b None (Some (first_against before e))) yes' ∙ ap
    (λ o. cond (has_count e) None (Some (option_map_or (λ k. k + 1) o (length before + 1)))) at)

pub stands-stop : (b : Bool) (n m : ℕ) → Some n ≡ cond b None (Some m) → (b ≡ false) × (n ≡ m)
stands-stop true n m h = absurd (cc)
stands-stop false n m h = let s : n ≡ m = cc in (refl, s)

pub stands-go : (b : Bool) (m : ℕ) → None ≡ cond b None (Some m) → b ≡ true
stands-go true m h = refl
stands-go false m h = absurd (cc)
