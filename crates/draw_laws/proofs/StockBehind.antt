-- The numbers behind the one that memory hands out next, up to the level, may be committed as those of a stock.
use Rattle.std.proofs.Common.{◌≡◌, inl, inr, ℕ, zero, suc, ◌+◌, ◌≤◌, ◌<◌, Bool, true, false, cond, nat_eq, List, [], ◌∷◌, ◌++◌, map, Some, refl, sym, ap, subst, ◌∙◌, arith}
use Rattle.std.specs.Prelude.{Contains, IsSomeAnd, count_by}
use Rattle.std.specs.List.{AllByRecursion, find, range_with_len}
use Rattle.std.proofs.lemmas.Bool.{eqb-true}
use Rattle.enq_base.specs.declared.unit.Num.{Num}
use Rattle.number_ranges.specs.Intervals.{is_buffered, is_named}
use Rattle.number_ranges.specs.declared.interval.Interval.{Interval}
use Rattle.update_records.specs.Ledger.{Levels}
use Rattle.ledger_steps.specs.Drawn.{AreDrawnRight, IsDrawnAs, IsReserved, IsStock, IsUpToLevel, drawn_from, num_of, times, times_given}
use Rattle.ledger_steps.specs.Levels.{AreApart, intervals_of, level_in, name_of, present}
use Rattle.ledger_steps.specs.declared.range.NumberRange.{NumberRange}
use Rattle.draw_laws.proofs.Counting.{bit, count_cons}
use Rattle.draw_laws.proofs.Drawing.{by_name, interval_among}
use Rattle.draw_laws.proofs.IntervalNames.{contains_cases, contains_none, is_named_so, named_is, none_named, one_interval}
use Rattle.draw_laws.proofs.OwnNumbers.{from_other, from_own, numbers_append}
use Rattle.draw_laws.proofs.PresentLevels.{drawn_at}

-- ---- a run of numbers

abbrev pub run_of : Interval → ℕ → ℕ → List Num
run_of i first count = map (num_of i) (range_with_len first count)

run_from : (i : Interval) (first count : ℕ) → drawn_from i (run_of i first count) ≡ range_with_len first count
run_from i first zero = refl
run_from i first (suc count) =
    numbers_append (name_of i) (num_of i first ∷ []) (run_of i (first + 1) count)
    ∙ ap (λ ns. ns ++ drawn_from i (run_of i (first + 1) count)) (from_own i first)
    ∙ ap (λ ns. first ∷ ns) (run_from i (first + 1) count)

run_other : (i j : Interval) (first count : ℕ) → (name_of i ≡ name_of j → ⊥) → drawn_from j (run_of i first count) ≡ []
run_other i j first zero apart = refl
run_other i j first (suc count) apart =
    numbers_append (name_of j) (num_of i first ∷ []) (run_of i (first + 1) count)
    ∙ ap (λ ns. ns ++ drawn_from j (run_of i (first + 1) count)) (from_other i j first apart)
    ∙ run_other i j (first + 1) count apart

-- a number stands in a run once, from the first on
record IsInRun (n first many : ℕ) : Type 0 where
  once : many ≤ 1
  from : 1 ≤ many → first ≤ n

run_counts : (n first count : ℕ) → IsInRun n first (count_by (nat_eq n) (range_with_len first count))
run_counts n first zero = record { once = omega arith; from = λ some. absurd (omega (arith, some)) }
run_counts n first (suc count) =
    let whole = count_cons (nat_eq n) first (range_with_len (first + 1) count) in
    let rest = run_counts n (first + 1) count in
    elim (nat_eq n first) as (λ b. nat_eq n first ≡ b → IsInRun n first (count_by (nat_eq n) (range_with_len first (suc count)))) [
      | true ↦ λ e.
          let same : n ≡ first = eqb-true n first e in
          let here : bit (nat_eq n first) ≡ 1 = ap bit e in
          let none : count_by (nat_eq n) (range_with_len (first + 1) count) ≡ 0 =
          none_before (count_by (nat_eq n) (range_with_len (first + 1) count)) rest.from same in
          record { once = omega (arith, whole, here, none); from = λ some. omega (arith, same) }
      | false ↦ λ e.
          let here : bit (nat_eq n first) ≡ 0 = ap bit e in
          let few = rest.once in
          record { once = omega (arith, whole, here, few); from = λ some. let from = rest.from (omega (arith, whole, here, some)) in omega (arith, from) }
    ] refl
  where
    none_before : (many : ℕ) → (1 ≤ many → first + 1 ≤ n) → n ≡ first → many ≡ 0
    none_before zero from same = refl
    none_before (suc many) from same = let past = from (omega arith) in absurd (omega (arith, past, same))

-- ---- as a stock

found_here : (intervals : List Interval) (i : Interval) (P : Interval → Type 0) → AreApart intervals → Contains intervals i → P i
    → IsSomeAnd (find (is_named i.object i.nr) intervals) P
found_here [] i P apart among h = absurd (contains_none i among)
found_here (x ∷ intervals) i P apart among h =
    elim (contains_cases x intervals i among) as (λ _. IsSomeAnd (find (is_named i.object i.nr) (x ∷ intervals)) P) [
      | inl e ↦
          subst (λ b. IsSomeAnd (cond b (Some x) (find (is_named i.object i.nr) intervals)) P) (sym (is_named_so i.object i.nr x (ap name_of e)))
          (subst P (sym e) h)
      | inr e ↦ elim (is_named i.object i.nr x) as (λ b. is_named i.object i.nr x ≡ b → IsSomeAnd (cond b (Some x) (find (is_named i.object i.nr) intervals)) P) [
        | true ↦ λ t. absurd (none_named x.object x.nr intervals i apart.0 e (sym (named_is i.object i.nr x t)))
        | false ↦ λ t. found_here intervals i P apart.1 e h
      ] refl
    ]

module _ (ranges : List NumberRange) (levels : Levels) (draws : List (List Num)) (committed : List Num) (r : NumberRange) (first count : ℕ)
    (h : AreDrawnRight ranges levels draws committed) (among : Contains ranges r) (is : is_buffered r.interval ≡ true)
    (behind : r.next ≤ first) (within : first + count ≤ level_in levels r.interval + 1) where
  abbrev own : Interval
  own = r.interval

  abbrev run : List Num
  run = run_of own first count

  among_them : Contains (intervals_of ranges) own
  among_them = interval_among ranges r among

  drawn_so : (b : Bool) → b ≡ true → IsDrawnAs b (present levels own) r.next draws committed → (own.from ≤ r.next)
      × ((n : ℕ) → 1 ≤ times_given own draws committed n → n < r.next)
  drawn_so false e d = cc
  drawn_so true e d = (d.low, λ n some. (d.inside n some).1)

  drawn_here : (own.from ≤ r.next) × ((n : ℕ) → 1 ≤ times_given own draws committed n → n < r.next)
  drawn_here = drawn_so (is_buffered own) is (drawn_at ranges levels draws committed h r among)

  reserved_run : (from many : ℕ) → first ≤ from → from + many ≤ level_in levels own + 1
      → AllByRecursion (IsReserved (intervals_of ranges) levels) (run_of own from many)
  reserved_run from zero low high = tt
  reserved_run from (suc many) low high =
      let begun = drawn_here.0 in (
        found_here (intervals_of ranges) own (IsUpToLevel levels from) h.intervals.apart among_them
            (record { buffered = is; first = omega (arith, begun, behind, low); last = omega (arith, high) }),
        reserved_run (from + 1) many (omega (arith, low)) (omega (arith, high)),
      )

  counts_own : (n : ℕ) → IsInRun n first (times own n run)
  counts_own n = subst (λ ns. IsInRun n first (count_by (nat_eq n) ns)) (sym (run_from own first count)) (run_counts n first count)

  none_given : (n given : ℕ) → (1 ≤ given → n < r.next) → first ≤ n → given ≡ 0
  none_given n zero inside from = refl
  none_given n (suc given) inside from = let low = inside (omega arith) in absurd (omega (arith, low, behind, from))

  once_of : (j : Interval) → Contains (intervals_of ranges) j → (n : ℕ) → times j n run ≤ 1
  once_of j there n = by_name (name_of own) (name_of j)
      (λ same. subst (λ (x : Interval). times x n run ≤ 1) (one_interval (intervals_of ranges) own j h.intervals.apart among_them there same)
      (counts_own n).once)
      (λ apart. let none : times j n run ≡ 0 = ap (count_by (nat_eq n)) (run_other own j first count apart) in omega (arith, none))

  fresh_of : (j : Interval) → Contains (intervals_of ranges) j → (n : ℕ) → 1 ≤ times j n run → times_given j draws committed n ≡ 0
  fresh_of j there n = by_name (name_of own) (name_of j)
      (λ same. subst (λ (x : Interval). 1 ≤ times x n run → times_given x draws committed n ≡ 0)
      (one_interval (intervals_of ranges) own j h.intervals.apart among_them there same)
      (λ some. none_given n (times_given own draws committed n) (drawn_here.1 n) ((counts_own n).from some)))
      (λ apart some. let none : times j n run ≡ 0 = ap (count_by (nat_eq n)) (run_other own j first count apart) in absurd (omega (arith, none, some)))

  pub run_is_stock : IsStock (intervals_of ranges) levels draws committed (map (num_of r.interval) (range_with_len first count))
  run_is_stock = record { reserved = reserved_run first count (omega arith) within; once = once_of; fresh = fresh_of }
