-- Numbers that never fall, and what stands at such places of a list of such numbers.
use Rattle.std.proofs.Common.{◌≡◌, ℕ, zero, suc, ◌<◌, ◌≤◌, List, [], ◌∷◌, ◌++◌, All, length, map, slice_get, refl, sym, ap, ◌∙◌, subst, arith}
use Rattle.std.specs.Prelude.{Option, None, Some, slice_index_or}
use Rattle.std.specs.List.{AllByRecursion}
use Rattle.std.specs.List.Sorted.{IsNonDecreasing}
use Rattle.std.proofs.lemmas.List.{map-append}
use Rattle.seat_sums.specs.Entries.{entry_of, entries_at}

-- ---- each element, told by places and one behind the other

pub all_told : {X : Type 0} (P : X → Type 0) (xs : List X) → All P xs → AllByRecursion P xs
all_told P [] h = tt
all_told P (x ∷ xs) h = (h 0 x (omega arith), all_told P xs (λ k d lt. h (suc k) d (omega (arith, lt))))

pub all_placed : {X : Type 0} (P : X → Type 0) (xs : List X) → AllByRecursion P xs → (k : ℕ) (d : X) → k < length xs → P (slice_index_or xs k d)
all_placed P [] h k d lt = absurd (omega (arith, lt))
all_placed P (x ∷ xs) h zero d lt = h.0
all_placed P (x ∷ xs) h (suc k) d lt = all_placed P xs h.1 k d (omega (arith, lt))

pub all_more : {X : Type 0} (P : X → Type 0) (xs ys : List X) → AllByRecursion P xs → AllByRecursion P ys → AllByRecursion P (xs ++ ys)
all_more P [] ys a b = b
all_more P (x ∷ xs) ys a b = (a.0, all_more P xs ys a.1 b)

pub all_front : {X : Type 0} (P : X → Type 0) (xs ys : List X) → AllByRecursion P (xs ++ ys) → AllByRecursion P xs
all_front P [] ys h = tt
all_front P (x ∷ xs) ys h = (h.0, all_front P xs ys h.1)

pub all_last : {X : Type 0} (P : X → Type 0) (xs : List X) (x : X) → AllByRecursion P (xs ++ x ∷ []) → P x
all_last P [] x h = h.0
all_last P (y ∷ xs) x h = all_last P xs x h.1

pub all_later : {X : Type 0} (P Q : X → Type 0) → ((x : X) → P x → Q x) → (xs : List X) → AllByRecursion P xs → AllByRecursion Q xs
all_later P Q f [] h = tt
all_later P Q f (x ∷ xs) h = (f x h.0, all_later P Q f xs h.1)

no_entry : {X : Type 0} (x : X) → ◌≡◌ {A = Option X} None (Some x) → ⊥
no_entry x e = cc

same_entry : {X : Type 0} (x y : X) → ◌≡◌ {A = Option X} (Some x) (Some y) → x ≡ y
same_entry x y e = cc

all_there : {X : Type 0} (P : X → Type 0) (xs : List X) → AllByRecursion P xs → (k : ℕ) (x : X) → slice_get xs k ≡ Some x → P x
all_there P [] h k x e = absurd (no_entry x e)
all_there P (y ∷ xs) h zero x e = subst P (same_entry y x e) h.0
all_there P (y ∷ xs) h (suc k) x e = all_there P xs h.1 k x e

-- ---- numbers that never fall

abbrev pub Rising : List ℕ → Type 0
Rising [] = Unit {0}
Rising (n ∷ ns) = AllByRecursion (λ (m : ℕ). n ≤ m) ns × Rising ns

pub rising_told : (ns : List ℕ) → IsNonDecreasing ns → Rising ns
rising_told [] h = tt
rising_told (n ∷ ns) h = (
  all_told (λ (m : ℕ). n ≤ m) ns (λ k d lt. h 0 (suc k) d (omega arith) (omega (arith, lt))),
  rising_told ns (λ i j d le lt. h (suc i) (suc j) d (omega (arith, le)) (omega (arith, lt))),
)

pub rising_placed : (ns : List ℕ) → Rising ns → (i j : ℕ) (d : ℕ) → i ≤ j → j < length ns → slice_index_or ns i d ≤ slice_index_or ns j d
rising_placed [] h i j d le lt = absurd (omega (arith, lt))
rising_placed (n ∷ ns) h zero zero d le lt = omega arith
rising_placed (n ∷ ns) h zero (suc j) d le lt = all_placed (λ (m : ℕ). n ≤ m) ns h.0 j d (omega (arith, lt))
rising_placed (n ∷ ns) h (suc i) zero d le lt = absurd (omega (arith, le))
rising_placed (n ∷ ns) h (suc i) (suc j) d le lt = rising_placed ns h.1 i j d (omega (arith, le)) (omega (arith, lt))

-- ---- at places

-- what stands further on is no less
further : (ns : List ℕ) → Rising ns → (j k : ℕ) (a b : ℕ) → j ≤ k → slice_get ns j ≡ Some a → slice_get ns k ≡ Some b → a ≤ b
further [] h j k a b le e f = absurd (no_entry a e)
further (n ∷ ns) h zero zero a b le e f =
    let x : n ≡ a = same_entry n a e in
    let y : n ≡ b = same_entry n b f in
    omega (arith, x, y)
further (n ∷ ns) h zero (suc k) a b le e f =
    let x : n ≡ a = same_entry n a e in
    let y : n ≤ b = all_there (λ (m : ℕ). n ≤ m) ns h.0 k b f in
    omega (arith, x, y)
further (n ∷ ns) h (suc j) zero a b le e f = absurd (omega (arith, le))
further (n ∷ ns) h (suc j) (suc k) a b le e f = further ns h.1 j k a b (omega (arith, le)) e f

all_entry : {X : Type 0} (P : X → Type 0) (xs : List X) (k : ℕ) → ((x : X) → slice_get xs k ≡ Some x → P x) → AllByRecursion P (entry_of (slice_get xs k))
all_entry P [] k f = tt
all_entry P (x ∷ xs) zero f = (f x refl, tt)
all_entry P (x ∷ xs) (suc k) f = all_entry P xs k f

pub all_entries : {X : Type 0} (P : X → Type 0) (xs : List X) → AllByRecursion P xs → (ks : List ℕ) → AllByRecursion P (entries_at xs ks)
all_entries P xs h [] = tt
all_entries P xs h (k ∷ ks) =
    all_more P (entry_of (slice_get xs k)) (entries_at xs ks) (all_entry P xs k (λ x e. all_there P xs h k x e)) (all_entries P xs h ks)

above : (ns : List ℕ) → Rising ns → (j a : ℕ) → slice_get ns j ≡ Some a → (ks : List ℕ) → AllByRecursion (λ (k : ℕ). j ≤ k) ks
    → AllByRecursion (λ (b : ℕ). a ≤ b) (entries_at ns ks)
above ns h j a e [] low = tt
above ns h j a e (k ∷ ks) low =
    all_more (λ (b : ℕ). a ≤ b) (entry_of (slice_get ns k)) (entries_at ns ks)
    (all_entry (λ (b : ℕ). a ≤ b) ns k (λ b f. further ns h j k a b low.0 e f)) (above ns h j a e ks low.1)

rising_entry : (ns : List ℕ) (k : ℕ) (rest : List ℕ) → ((a : ℕ) → slice_get ns k ≡ Some a → AllByRecursion (λ (b : ℕ). a ≤ b) rest) → Rising rest
    → Rising (entry_of (slice_get ns k) ++ rest)
rising_entry [] k rest f h = h
rising_entry (n ∷ ns) zero rest f h = (f n refl, h)
rising_entry (n ∷ ns) (suc k) rest f h = rising_entry ns k rest f h

pub rising_entries : (ns : List ℕ) → Rising ns → (ks : List ℕ) → Rising ks → Rising (entries_at ns ks)
rising_entries ns h [] low = tt
rising_entries ns h (k ∷ ks) low = rising_entry ns k (entries_at ns ks) (λ a e. above ns h k a e ks low.0) (rising_entries ns h ks low.1)

entry_map : {X Y : Type 0} (f : X → Y) (xs : List X) (k : ℕ) → entry_of (slice_get (map f xs) k) ≡ map f (entry_of (slice_get xs k))
entry_map f [] k = refl
entry_map f (x ∷ xs) zero = refl
entry_map f (x ∷ xs) (suc k) = entry_map f xs k

pub entries_map : {X Y : Type 0} (f : X → Y) (xs : List X) (ks : List ℕ) → entries_at (map f xs) ks ≡ map f (entries_at xs ks)
entries_map f xs [] = refl
entries_map f xs (k ∷ ks) =
    (λ i. entry_map f xs k i ++ entries_map f xs ks i) ∙ sym (map-append f (entry_of (slice_get xs k)) (entries_at xs ks))
