-- The entries at given places of a history.
use Rattle.std.proofs.Common.{◌≡◌, ℕ, zero, suc, ◌+◌, ◌-◌, ◌<◌, ◌==◌, ltb, cond, Bool, true, false, if◌then◌else◌, List, [], ◌∷◌, ◌++◌, length, get_or, drop}
use Rattle.std.proofs.Common.{map, All, Option, Some, None, slice_get, refl, sym, ap, subst, ◌∙◌, arith}
use Rattle.std.specs.List.{remove}
use Rattle.std.specs.List.Sorted.{IsPermutation}
use Rattle.std.proofs.lemmas.List.Sorted.{IsPermutation-refl, IsPermutation-sym, IsPermutation-trans, IsPermutation-cons, IsPermutation-map, IsPermutation-remove, sum_by-IsPermutation}
use Rattle.std.proofs.lemmas.Bool.Decides.{nat_tests}
use Rattle.std.proofs.lemmas.Option.{none-some}
use Rattle.std.proofs.lemmas.List.Elements.{All-append}
use mathlib.Core.List.{IsPrefix}
use Rattle.seat_sums.specs.Sums.{times, one_if}
use Rattle.seat_sums.specs.Entries.{entry_of, entries_at}
use Rattle.seat_sums.proofs.lemmas.Entries.{entries_append, entries_longer}
use Rattle.turn_lock.specs.Rule.{numbers, places_from, own_entries, Stands, longer_of, shorter_of, both_of, opener}
use Rattle.turn_lock.specs.declared.view.View.{View}
use Rattle.seat_sums.proofs.lemmas.Beginnings.{whole_is_front, front_of_front, front_is_short}
use Rattle.seat_sums.proofs.lemmas.Totals.{times_cons}
use Rattle.turn_lock.proofs.Places.{numbers_below, numbers_times}

-- a number that stands in the list stands at some index
found_if : (n x : ℕ) (xs : List ℕ) (b : Bool) → (n == x) ≡ b → (0 < times n xs → (i : ℕ) × (i < length xs) × (n ≡ get_or xs i n)) → 0 < times n (x ∷ xs)
    → (i : ℕ) × (i < length (x ∷ xs)) × (n ≡ get_or (x ∷ xs) i n)
found_if n x xs true e later some = (0, omega arith, grind (arith, nat_tests))
found_if n x xs false e later some =
    let t = later (let c = times_cons n x xs in let z : one_if (n == x) ≡ 0 = ap one_if e in omega arith) in
    (suc t.0, (let lt = t.1 in omega arith), t.2)

found : (n : ℕ) (xs : List ℕ) → 0 < times n xs → (i : ℕ) × (i < length xs) × (n ≡ get_or xs i n)
found n [] some = absurd (omega arith)
found n (x ∷ xs) some = found_if n x xs (n == x) refl (found n xs) some

has_itself : (x : ℕ) (xs : List ℕ) → 0 < times x (x ∷ xs)
has_itself x xs = let one : one_if (x == x) ≡ 1 = grind (arith, nat_tests) in omega (arith, times_cons x x xs)

-- lists that have each number as often are permutations of one another
pub same_times : (xs ys : List ℕ) → ((n : ℕ) → times n xs ≡ times n ys) → IsPermutation xs ys
same_times [] [] e = IsPermutation-refl []
same_times [] (y ∷ ys) e = absurd (let h = has_itself y ys in let z = e y in omega arith)
same_times (x ∷ xs) ys e =
    let at = found x ys (let h = has_itself x xs in let z = e x in omega arith) in
    let rest = remove ys at.0 in
    let moved : IsPermutation ys (x ∷ rest) = IsPermutation-remove ys at.0 x at.1 at.2 in
    let same : (n : ℕ) → times n xs ≡ times n rest = λ n.
    let a = e n in
    let b = sum_by-IsPermutation (λ (y : ℕ). cond (n == y) 1 0) ys (x ∷ rest) moved in
    omega (arith, times_cons n x xs, times_cons n x rest) in
    IsPermutation-trans (x ∷ xs) (x ∷ rest) ys (IsPermutation-cons x xs rest (same_times xs rest same)) (IsPermutation-sym ys (x ∷ rest) moved)

-- each number below n once, and no other
pub each_number : (n : ℕ) (own : List ℕ) → ((q : ℕ) → times q own ≡ one_if (ltb q n)) → IsPermutation (numbers 0 n) own
each_number n own each_once =
    let none_below : (q : ℕ) → one_if (ltb q 0) ≡ 0 = λ q. grind (arith, nat_tests) in
    same_times (numbers 0 n) own
    (λ q. let a = numbers_times q 0 n in let b = each_once q in let c = none_below q in let all_of : one_if (ltb q (0 + n)) ≡ one_if (ltb q n) =
    ap (λ (m : ℕ). one_if (ltb q m)) (omega arith) in omega arith)

module _ {E : Type 0} where
  entry_get : (log : List E) (d : E) (k : ℕ) → k < length log → entry_of (slice_get log k) ≡ get_or log k d ∷ []
  entry_get [] d k lt = absurd (omega arith)
  entry_get (x ∷ xs) d zero lt = refl
  entry_get (x ∷ xs) d (suc k) lt = entry_get xs d k (omega arith)

  at_drop : (log : List E) (k : ℕ) → k < length log → entry_of (slice_get log k) ++ drop (suc k) log ≡ drop k log
  at_drop [] k lt = absurd (omega arith)
  at_drop (x ∷ xs) zero lt = refl
  at_drop (x ∷ xs) (suc k) lt = at_drop xs k (omega arith)

  drop_all : (log : List E) (k : ℕ) → k ≡ length log → drop k log ≡ []
  drop_all [] zero e = refl
  drop_all [] (suc k) e = absurd (omega arith)
  drop_all (x ∷ xs) zero e = absurd (omega arith)
  drop_all (x ∷ xs) (suc k) e = drop_all xs k (omega arith)

  pub entries_from : (log : List E) (first n : ℕ) → first + n ≡ length log → entries_at log (numbers first n) ≡ drop first log
  entries_from log first zero e = sym (drop_all log first (omega arith))
  entries_from log first (suc n) e = ap (λ (l : List E). entry_of (slice_get log first) ++ l) (entries_from log (suc first) n (omega arith))
      ∙ at_drop log first (omega arith)

  -- a call adds to the pass's own entries what it added to the history
  pub own_called : (seen before after : List E) (own : List ℕ) → All (λ k. k < length seen) own → IsPrefix seen before → IsPrefix before after
      → entries_at after (own ++ places_from before after) ≡ entries_at seen own ++ drop (length before) after
  own_called seen before after own all p q =
      let old = entries_longer seen after own (front_of_front seen before after p q) all in
      let new = entries_from after (length before) (length after - length before) (let le = front_is_short before after q in omega arith) in
      entries_append after own (places_from before after) ∙ (λ i. old i ++ new i)

  pub own_called_below : (seen before after : List E) (own : List ℕ) → All (λ k. k < length seen) own → IsPrefix seen before → IsPrefix before after
      → All (λ k. k < length after) (own ++ places_from before after)
  own_called_below seen before after own all p q =
      let a = front_is_short seen before p in
      let b = front_is_short before after q in
      All-append (λ k. k < length after) own (places_from before after)
      (λ k d lt. let h = all k d lt in omega arith)
      (numbers_below (length before) (length after - length before) (length after) (omega arith))

  entries_map : (log : List E) (d : E) (ks : List ℕ) → All (λ k. k < length log) ks → entries_at log ks ≡ map (λ k. get_or log k d) ks
  entries_map log d [] all = refl
  entries_map log d (k ∷ ks) all =
      let here = entry_get log d k (all 0 k (omega arith)) in
      let later = entries_map log d ks (λ j e lt. all (suc j) e (omega arith)) in
      λ i. here i ++ later i

  permuted : (log : List E) (ks ls : List ℕ) → All (λ k. k < length log) ks → All (λ k. k < length log) ls → IsPermutation ks ls
      → IsPermutation (entries_at log ks) (entries_at log ls)
  permuted [] [] [] a b p = IsPermutation-refl []
  permuted [] (k ∷ ks) ls a b p = absurd (let h = a 0 k (omega arith) in omega arith)
  permuted [] [] (l ∷ ls) a b p = absurd (let h = b 0 l (omega arith) in omega arith)
  permuted (x ∷ xs) ks ls a b p = subst (λ (u : List E × List E). IsPermutation u.0 u.1)
      (λ i. (sym (entries_map (x ∷ xs) x ks a) i, sym (entries_map (x ∷ xs) x ls b) i))
      (IsPermutation-map (λ (k : ℕ). get_or (x ∷ xs) k x) ks ls p)

  -- who has each place once has the whole history
  pub whole_own : (log : List E) (own : List ℕ) → All (λ k. k < length log) own → IsPermutation (numbers 0 (length log)) own
      → IsPermutation log (entries_at log own)
  whole_own log own below whole =
      let n = length log in
      subst (λ (l : List E). IsPermutation l (entries_at log own)) (entries_from log 0 n (omega arith))
      (permuted log (numbers 0 n) own (numbers_below 0 n n (omega arith)) below whole)

  stands_there : (o : Option E) (x : E) → o ≡ Some x → (os : List (Option E)) (xs : List E) → os ≡ map Some xs → (o ∷ os) ≡ map Some (entry_of o ++ xs)
  stands_there None x is os xs h = absurd (none-some x is)
  stands_there (Some y) x is os xs h = ap (λ (l : List (Option E)). Some y ∷ l) h

  has_entry : (log : List E) (k : ℕ) → k < length log → (x : E) × (slice_get log k ≡ Some x)
  has_entry [] k lt = absurd (omega arith)
  has_entry (x ∷ xs) zero lt = (x, refl)
  has_entry (x ∷ xs) (suc k) lt = has_entry xs k (omega arith)

  entries_stand : (log : List E) (ks : List ℕ) → All (λ k. k < length log) ks → map (slice_get log) ks ≡ map Some (entries_at log ks)
  entries_stand log [] all = refl
  entries_stand log (k ∷ ks) all =
      let x = has_entry log k (all 0 k (omega arith)) in
      stands_there (slice_get log k) x.0 x.1 (map (slice_get log) ks) (entries_at log ks) (entries_stand log ks (λ j d lt. all (suc j) d (omega arith)))

  -- what a pass has of its own stands at the same places in each longer history
  pub own_stands : (v : View E) (log : List E) → All (λ k. k < length v.seen) v.own → IsPrefix v.seen log → Stands log v
  own_stands v log all p =
      let le = front_is_short v.seen log p in
      entries_stand log v.own (λ k d lt. let h = all k d lt in omega arith) ∙ ap (map Some) (entries_longer v.seen log v.own p all)

  longer_begins_if : (xs ys : List E) (b : Bool) → IsPrefix (if b then xs else ys) (if b then ys else xs) → IsPrefix xs (if b then ys else xs)
      × IsPrefix ys (if b then ys else xs)
  longer_begins_if xs ys true p = (p, whole_is_front ys)
  longer_begins_if xs ys false p = (whole_is_front xs, p)

  -- where the shorter begins the longer, each of two begins the longer
  pub longer_begins : (xs ys : List E) → IsPrefix (shorter_of xs ys) (longer_of xs ys) → IsPrefix xs (longer_of xs ys) × IsPrefix ys (longer_of xs ys)
  longer_begins xs ys p = longer_begins_if xs ys (ltb (length xs) (length ys)) p

  -- of two that are joined, the entries of each stand where they stood
  pub both_stand : (v w : View E) → All (λ k. k < length v.seen) v.own → All (λ k. k < length w.seen) w.own
      → IsPrefix (shorter_of v.seen w.seen) (longer_of v.seen w.seen)
      → Stands (longer_of v.seen w.seen) v × Stands (longer_of v.seen w.seen) w
  both_stand v w a b p = let q = longer_begins v.seen w.seen p in (own_stands v (longer_of v.seen w.seen) a q.0, own_stands w (longer_of v.seen w.seen) b q.1)

  pub both_entries : (v w : View E) → All (λ k. k < length v.seen) v.own → All (λ k. k < length w.seen) w.own
      → IsPrefix (shorter_of v.seen w.seen) (longer_of v.seen w.seen)
      → own_entries (both_of v w) ≡ own_entries v ++ own_entries w
  both_entries v w a b p =
      let seen : List E = longer_of v.seen w.seen in
      let q = longer_begins v.seen w.seen p in
      let old = entries_longer v.seen seen v.own q.0 a in
      let new = entries_longer w.seen seen w.own q.1 b in
      entries_append seen v.own w.own ∙ (λ i. old i ++ new i)

  pub opener_entries : (parts : ℕ) (log : List E) → own_entries (opener parts log) ≡ log
  opener_entries parts log = entries_from log 0 (length log) (omega arith)
