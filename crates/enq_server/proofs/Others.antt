-- The lists that stand in a file while others are freed, one by one.
use Rattle.std.proofs.Common.{◌≡◌, ◌⊎◌, inl, inr, ℕ, ◌+◌, ◌<◌, Bool, true, false, not, ◌||◌, ◌&&◌, cond, List, [], ◌∷◌, ◌++◌, map, length, take, get_or, refl, sym, ap, subst, ◌∙◌}
use Rattle.std.specs.List.{filter, AllByRecursion}
use Rattle.std.proofs.lemmas.List.{take_more}
use Rattle.enq_base.specs.Owners.{same_unit}
use Rattle.lock_entry.specs.declared.entry.UnitLocks.{UnitLocks}
use Rattle.enq_base.specs.declared.owner.UnitKey.{UnitKey}
use Rattle.backup_file.specs.File.{Stands}
use Rattle.backup_file.specs.Lists.{has_unit, without}
use Rattle.backup_file.specs.declared.handed.Handed.{Handed}
use Rattle.backup_file.proofs.lemmas.Units.{flipped, itself, same_key}
use Rattle.enq_server.specs.Recovery.{StandsLess, is_among, is_one_of, left, lists_among, stays}

-- the units of these lists
abbrev pub units_of : List Handed → List UnitKey
units_of l = map (λ (h : Handed). h.unit) l

units-push : (l : List Handed) (h : Handed) → units_of (l ++ h ∷ []) ≡ units_of l ++ h.unit ∷ []
units-push [] h = refl
units-push (g ∷ l) h = ap (λ (us : List UnitKey). g.unit ∷ us) (units-push l h)

filter_alike : {X : Type 0} (p q : X → Bool) (xs : List X) → ((x : X) → p x ≡ q x) → filter p xs ≡ filter q xs
filter_alike p q [] same = refl
filter_alike p q (x ∷ xs) same = ap (λ b. cond b (x ∷ filter p xs) (filter p xs)) (same x) ∙ ap (λ r. cond (q x) (x ∷ r) r) (filter_alike p q xs same)

filter_same : {X : Type 0} (p q : X → Bool) (xs : List X) → AllByRecursion (λ x. p x ≡ q x) xs → filter p xs ≡ filter q xs
filter_same p q [] same = refl
filter_same p q (x ∷ xs) same = ap (λ b. cond b (x ∷ filter p xs) (filter p xs)) same.0 ∙ ap (λ r. cond (q x) (x ∷ r) r) (filter_same p q xs same.1)

filter_twice : {X : Type 0} (p q : X → Bool) (xs : List X) → filter p (filter q xs) ≡ filter (λ x. q x && p x) xs
filter_twice p q [] = refl
filter_twice p q (x ∷ xs) =
    elim (q x) as (λ b. filter p (cond b (x ∷ filter q xs) (filter q xs)) ≡ cond (b && p x) (x ∷ filter (λ y. q y && p y) xs) (filter (λ y. q y && p y) xs)) [
      | true ↦ ap (λ r. cond (p x) (x ∷ r) r) (filter_twice p q xs)
      | false ↦ filter_twice p q xs
    ]

or_false : (a : Bool) → (a || false) ≡ a
or_false true = refl
or_false false = refl

or_true : (a : Bool) → (a || true) ≡ true
or_true true = refl
or_true false = refl

or_assoc : (a b c : Bool) → (a || (b || c)) ≡ ((a || b) || c)
or_assoc true b c = refl
or_assoc false b c = refl

among_push : (v : UnitKey) (gone : List UnitKey) (u : UnitKey) → is_among v (gone ++ u ∷ []) ≡ (is_among v gone || same_unit u v)
among_push v [] u = or_false (same_unit u v)
among_push v (k ∷ gone) u = ap (λ b. same_unit k v || b) (among_push v gone u) ∙ or_assoc (same_unit k v) (is_among v gone) (same_unit u v)

dropped : (a g s r : Bool) → (s ≡ true → a ≡ false) → r ≡ s → ((a || not g) && not s) ≡ (a || not (g || r))
dropped true g true r h e = let odd : true ≡ false = h refl in cc
dropped true g false r h e = refl
dropped false true true r h e = refl
dropped false true false r h e = refl
dropped false false true r h e = sym (ap not e)
dropped false false false r h e = sym (ap not e)

unneeded : (a g r : Bool) → (r ≡ true → a ≡ true) → (a || not (g || r)) ≡ (a || not g)
unneeded true g r h = refl
unneeded false true r h = refl
unneeded false false true h = let odd : false ≡ true = h refl in cc
unneeded false false false h = refl

-- a list of another unit goes
pub left_freed : (units : List UnitLocks) (gone : List UnitKey) (l : List Handed) (u : UnitKey) → is_one_of units u ≡ false
    → without u (left units gone l) ≡ left units (gone ++ u ∷ []) l
left_freed units gone l u other =
    filter_twice (λ (h : Handed). not (same_unit h.unit u)) (stays units gone) l
    ∙ filter_alike (λ (h : Handed). stays units gone h && not (same_unit h.unit u)) (stays units (gone ++ u ∷ [])) l (λ h.
    dropped (is_one_of units h.unit) (is_among h.unit gone) (same_unit h.unit u) (same_unit u h.unit)
    (λ e. ap (λ v. is_one_of units v) (same_key h.unit u e) ∙ other) (flipped u h.unit)
    ∙ ap (λ b. is_one_of units h.unit || not b) (sym (among_push h.unit gone u)))

-- a list of one of these units stays
pub left_stays : (units : List UnitLocks) (gone : List UnitKey) (l : List Handed) (u : UnitKey) → is_one_of units u ≡ true
    → left units gone l ≡ left units (gone ++ u ∷ []) l
left_stays units gone l u own = filter_alike (stays units gone) (stays units (gone ++ u ∷ [])) l (λ h.
    sym (ap (λ b. is_one_of units h.unit || not b) (among_push h.unit gone u)
    ∙ unneeded (is_one_of units h.unit) (is_among h.unit gone) (same_unit u h.unit) (λ e. ap (λ v. is_one_of units v) (sym (same_key u h.unit e)) ∙ own)))

absent : (b : Bool) (h : Handed) (xs ys : List Handed) → b ≡ false → ys ≡ xs → cond (not b) (h ∷ ys) ys ≡ h ∷ xs
absent true h xs ys e same = cc
absent false h xs ys e same = ap (λ r. h ∷ r) same

first_false : (a b : Bool) → (a || b) ≡ false → a ≡ false
first_false true b h = h
first_false false b h = refl

second_false : (a b : Bool) → (a || b) ≡ false → b ≡ false
second_false true b h = cc
second_false false b h = h

pub without_absent : (u : UnitKey) (l : List Handed) → has_unit u l ≡ false → without u l ≡ l
without_absent u [] h = refl
without_absent u (x ∷ l) h = absent (same_unit x.unit u) x l (without u l) (first_false (same_unit x.unit u) (has_unit u l) h)
    (without_absent u l (second_false (same_unit x.unit u) (has_unit u l) h))

-- a unit without a list changes nothing
pub left_absent : (units : List UnitLocks) (gone : List UnitKey) (l : List Handed) (u : UnitKey) → is_one_of units u ≡ false
    → has_unit u (left units gone l) ≡ false → left units gone l ≡ left units (gone ++ u ∷ []) l
left_absent units gone l u other none = sym (without_absent u (left units gone l) none) ∙ left_freed units gone l u other

members : (l : List Handed) (us : List UnitKey) → ((v : UnitKey) → is_among v (units_of l) ≡ true → is_among v us ≡ true)
    → AllByRecursion (λ (h : Handed). is_among h.unit us ≡ true) l
members [] us at = tt
members (x ∷ l) us at = (
  at x.unit (ap (λ b. b || is_among x.unit (units_of l)) (itself x.unit)),
  members l us (λ v there. at v (ap (λ b. same_unit x.unit v || b) there ∙ or_true (same_unit x.unit v))),
)

gone_all : (units : List UnitLocks) (us : List UnitKey) (l : List Handed) → AllByRecursion (λ (h : Handed). is_among h.unit us ≡ true) l
    → AllByRecursion (λ (h : Handed). stays units us h ≡ is_one_of units h.unit) l
gone_all units us [] all = tt
gone_all units us (h ∷ l) all = (ap (λ b. is_one_of units h.unit || not b) all.0 ∙ or_false (is_one_of units h.unit), gone_all units us l all.1)

-- once all were looked at only those of these units stand
pub left_all : (units : List UnitLocks) (l : List Handed) → left units (units_of l) l ≡ lists_among units l
left_all units l = filter_same (stays units (units_of l)) (λ (h : Handed). is_one_of units h.unit) l
    (gone_all units (units_of l) l (members l (units_of l) (λ v at. at)))

filter_all : {X : Type 0} (p : X → Bool) (xs : List X) → ((x : X) → p x ≡ true) → filter p xs ≡ xs
filter_all p [] all = refl
filter_all p (x ∷ xs) all = ap (λ b. cond b (x ∷ filter p xs) (filter p xs)) (all x) ∙ ap (λ r. x ∷ r) (filter_all p xs all)

-- at first all stand
pub left_none : (units : List UnitLocks) (l : List Handed) → left units [] l ≡ l
left_none units l = filter_all (stays units []) l (λ h. or_true (is_one_of units h.unit))

pub taken_units : (l : List Handed) (i : ℕ) (h : Handed) → i < length l → h ≡ get_or l i h → units_of (take (i + 1) l) ≡ units_of (take i l) ++ h.unit ∷ []
taken_units l i h low is =
    ap units_of (take_more l i h low ∙ ap (λ x. take i l ++ x ∷ []) (sym is)) ∙ units-push (take i l) h

-- whichever side of a free a crash leaves, only lists of other units are gone
pub still : (units : List UnitLocks) (gone : List UnitKey) (l : List Handed) (u : UnitKey) (bytes : List ℕ) → is_one_of units u ≡ false
    → Stands bytes (left units gone l) ⊎ Stands bytes (without u (left units gone l))
    → StandsLess units l bytes
still units gone l u bytes other (inl stands) = record { gone = gone; stands = stands }
still units gone l u bytes other (inr stands) =
    record { gone = gone ++ u ∷ []; stands = subst (Stands bytes) (left_freed units gone l u other) stands }
