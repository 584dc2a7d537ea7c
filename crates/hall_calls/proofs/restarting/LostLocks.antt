-- Sessions that lose a lock of their own with a lock server.
use Rattle.std.proofs.Common.{◌≡◌, ℕ, zero, suc, ◌+◌, ◌<◌, Bool, true, false, not, ◌&&◌, ◌||◌, cond, refl, sym, ap, ◌∙◌, arith, add-one, List, [], ◌∷◌, length, map, set, slice_get, Some, IfSome}
use Rattle.std.specs.Prelude.{if◌then◌else◌, Option}
use Rattle.std.specs.List.{AllByRecursion, list_any}
use Rattle.std.specs.Map.{values_of}
use Rattle.indexmap.specs.IndexMap.{set_value_at}
use Rattle.lock_entry.specs.Freeing.{has_unhanded}
use Rattle.lock_entry.specs.Names.{is_of}
use Rattle.lock_entry.specs.Pairs.{in_pair}
use Rattle.lock_entry.specs.declared.entry.Asker.{Asker}
use Rattle.lock_entry.specs.declared.entry.Entry.{Entry}
use Rattle.hall_calls.specs.Named.{AreNamed}
use Rattle.hall_model.specs.Sessions.{bereft, bereft_if, loses}
use Rattle.hall_model.specs.State.{unhanded}
use Rattle.hall_model.specs.declared.command.Session.{Session}

-- ---- a session's own locks

either_owner : (h d u a b : Bool) → (((d && h) || a) || ((u && h) || b)) ≡ ((h && (d || u)) || (a || b))
either_owner false true true a b = refl
either_owner false true false a b = refl
either_owner false false true a b = refl
either_owner false false false a b = refl
either_owner true true u a b = refl
either_owner true false true true b = refl
either_owner true false true false b = refl
either_owner true false false a b = refl

any_kept : {X : Type 0} (p : X → Bool) (b : Bool) (x : X) (xs : List X) → list_any p (cond b (x ∷ xs) xs) ≡ ((b && p x) || list_any p xs)
any_kept p true x xs = refl
any_kept p false x xs = refl

-- a pair of owners has a lock that wasn't handed over, or one of the two has
pub either_has : (asker : Asker) (es : List Entry)
    → (has_unhanded asker.dialogue es || has_unhanded asker.update es) ≡ list_any (λ (e : Entry). in_pair asker e.owner) (unhanded es)
either_has asker [] = refl
either_has asker (e ∷ es) =
    let own : Entry → Bool = λ x. in_pair asker x.owner in
    either_owner (not e.handed) (is_of asker.dialogue e) (is_of asker.update e) (has_unhanded asker.dialogue es) (has_unhanded asker.update es)
    ∙ ap (λ r. (not e.handed && in_pair asker e.owner) || r) (either_has asker es)
    ∙ sym (any_kept own (not e.handed) e (unhanded es))

-- a session that may lose keeps its name
pub bereft_named : (caller : Option (List ℕ)) (x : Session) → (bereft_if caller x).name ≡ x.name
bereft_named caller x = elim (loses caller x) as (λ b. (if b then bereft x else x).name ≡ x.name) [ true ↦ refl | false ↦ refl ]

-- ---- a value that is found by its place

pub values_set : {V : Type 0} (es : List (List ℕ × V)) (i : ℕ) (w : V) → values_of (set_value_at es i w) ≡ set (values_of es) i w
values_set [] i w = refl
values_set (e ∷ es) zero w = refl
values_set (e ∷ es) (suc i) w = ap (λ vs. e.1 ∷ vs) (values_set es i w)

-- it keeps its name
pub are_named_set : {V : Type 0} (name : V → List ℕ) (es : List (List ℕ × V)) (i : ℕ) (v w : V) → AreNamed name es
    → slice_get (values_of es) i ≡ Some v → name w ≡ name v → AreNamed name (set_value_at es i w)
are_named_set name [] i v w h at same = tt
are_named_set name (e ∷ es) zero v w h at same = let own : v ≡ e.1 = cc in (h.0 ∙ sym (same ∙ ap name own), h.1)
are_named_set name (e ∷ es) (suc i) v w h at same = (h.0, are_named_set name es i v w h.1 at same)

pub all_at : {X : Type 0} (P : X → Type 0) (xs : List X) (i : ℕ) → AllByRecursion P xs → IfSome (slice_get xs i) P
all_at P [] i h = tt
all_at P (x ∷ xs) zero h = h.0
all_at P (x ∷ xs) (suc i) h = all_at P xs i h.1

-- ---- a list whose elements are changed in turn

-- the first of them are changed
abbrev pub first_changed : {X : Type 0} → (X → X) → ℕ → List X → List X
first_changed f zero xs = xs
first_changed f (suc i) [] = []
first_changed f (suc i) (x ∷ xs) = f x ∷ first_changed f i xs

-- the next one is as it was
pub next_as_before : {X : Type 0} (f : X → X) (xs : List X) (i : ℕ) → slice_get (first_changed f i xs) i ≡ slice_get xs i
next_as_before f xs zero = refl
next_as_before f [] (suc i) = refl
next_as_before f (x ∷ xs) (suc i) = next_as_before f xs i

next_changed : {X : Type 0} (f : X → X) (xs : List X) (i : ℕ) (x : X) → slice_get xs i ≡ Some x
    → set (first_changed f i xs) i (f x) ≡ first_changed f (suc i) xs
next_changed f [] zero x at = absurd (cc)
next_changed f [] (suc i) x at = absurd (cc)
next_changed f (y ∷ xs) zero x at = let is : x ≡ y = cc in ap (λ z. f z ∷ xs) is
next_changed f (y ∷ xs) (suc i) x at = ap (λ zs. f y ∷ zs) (next_changed f xs i x at)

there : {X : Type 0} (xs : List X) (i : ℕ) → i < length xs → (x : X) × (slice_get xs i ≡ Some x)
there [] i within = absurd (omega arith)
there (x ∷ xs) zero within = (x, refl)
there (x ∷ xs) (suc i) within = there xs i (omega arith)

-- one more
pub one_changed : {X : Type 0} (f : X → X) (xs now next : List X) (i : ℕ) → i < length xs → now ≡ first_changed f i xs
    → ((x : X) → slice_get now i ≡ Some x → next ≡ set now i (f x)) → next ≡ first_changed f (i + 1) xs
one_changed f xs now next i within so_far change =
    let one = there xs i within in
    let at : slice_get now i ≡ Some one.0 = ap (λ ys. slice_get ys i) so_far ∙ next_as_before f xs i ∙ one.1 in
    change one.0 at ∙ ap (λ ys. set ys i (f one.0)) so_far ∙ next_changed f xs i one.0 one.1 ∙ ap (λ n. first_changed f n xs) (sym (add-one i))

-- once all are changed
pub all_changed : {X : Type 0} (f : X → X) (xs : List X) → first_changed f (length xs) xs ≡ map f xs
all_changed f [] = refl
all_changed f (x ∷ xs) = ap (λ zs. f x ∷ zs) (all_changed f xs)
