-- What sessions have drawn stays right as they draw.
use Rattle.std.proofs.Common.{◌≡◌, inl, inr, ℕ, zero, suc, ◌+◌, ◌≤◌, ◌<◌, Bool, true, false, true≢false, cond, ◌||◌, nat_eq, nat_lt, List, [], ◌∷◌, ◌++◌, map}
use Rattle.std.proofs.Common.{length, Some, if◌then◌else◌, refl, sym, ap, subst, ◌∙◌, arith}
use Rattle.std.specs.Prelude.{Contains, count_by, sum_by}
use Rattle.std.specs.List.{AllByRecursion, list_any, range_with_len}
use Rattle.std.proofs.lemmas.Bool.{eqb-true}
use Rattle.std.proofs.lemmas.List.{length-append}
use Rattle.std.proofs.lemmas.List.Sums.{sum_by-append, sum_by-cons}
use Rattle.enq_base.specs.declared.unit.Num.{Num}
use Rattle.module_effects.proofs.lemmas.Tables.{same_row, same_row-Decides}
use Rattle.module_effects.specs.Rows.{RowName}
use Rattle.number_ranges.specs.Intervals.{is_buffered, is_named}
use Rattle.number_ranges.specs.declared.interval.Interval.{Interval}
use Rattle.update_records.specs.Ledger.{Levels}
use Rattle.ledger_steps.specs.Drawn.{AreDrawnRight, AreOfOne, IsDrawnAs, IsDrawnBuffered, IsDrawnPlain, IsDrawnRight, IsOfOne, IsRun, drawn_from, drawn_of}
use Rattle.ledger_steps.specs.Drawn.{handed_out, has_drawn, num_of, times, times_given}
use Rattle.ledger_steps.specs.Levels.{AreApart, AreIntervals, FitLevels, intervals_of, level_in, name_of, present, range_at}
use Rattle.ledger_steps.specs.declared.range.NumberRange.{NumberRange}
use Rattle.draw_laws.proofs.Counting.{all_append, bit, count_append, count_cons, run_append}
use Rattle.draw_laws.proofs.HandedOut.{handed_intervals}
use Rattle.draw_laws.proofs.IntervalNames.{contains_cases, contains_first, contains_more, contains_none, is_named_so, named_is, none_named, one_interval}
use Rattle.draw_laws.proofs.OwnNumbers.{drawn_length, same_drawn, from_own, of_one, others_same, own_more, times_append}

-- ---- ranges of a list

-- what each range comes to by what it is
pub each_as : (P Q : NumberRange → Type 0) (ranges : List NumberRange) → ((r : NumberRange) → Contains ranges r → P r → Q r) → AllByRecursion P ranges
    → AllByRecursion Q ranges
each_as P Q [] f h = tt
each_as P Q (r ∷ ranges) f h = (f r (contains_first ranges r) h.0, each_as P Q ranges (λ s among. f s (contains_more ranges r s among)) h.1)

pub each_changed : (P Q : NumberRange → Type 0) (change : NumberRange → NumberRange) (ranges : List NumberRange)
    → ((r : NumberRange) → Contains ranges r → P r → Q (change r)) → AllByRecursion P ranges → AllByRecursion Q (map change ranges)
each_changed P Q change [] f h = tt
each_changed P Q change (r ∷ ranges) f h =
    (f r (contains_first ranges r) h.0, each_changed P Q change ranges (λ s among. f s (contains_more ranges r s among)) h.1)

pub interval_among : (ranges : List NumberRange) (r : NumberRange) → Contains ranges r → Contains (intervals_of ranges) r.interval
interval_among [] r among = absurd (contains_none r among)
interval_among (x ∷ ranges) r among =
    elim (contains_cases x ranges r among) as (λ _. Contains (intervals_of (x ∷ ranges)) r.interval) [
      | inl e ↦ subst (λ (y : NumberRange). Contains (intervals_of (x ∷ ranges)) y.interval) e (contains_first (intervals_of ranges) x.interval)
      | inr e ↦ contains_more (intervals_of ranges) x.interval r.interval (interval_among ranges r e)
    ]

-- two ranges with one name are one
pub one_range : (ranges : List NumberRange) (r s : NumberRange) → AreApart (intervals_of ranges) → Contains ranges r → Contains ranges s
    → name_of r.interval ≡ name_of s.interval → r ≡ s
one_range [] r s apart at_r at_s same = absurd (contains_none r at_r)
one_range (x ∷ ranges) r s apart at_r at_s same =
    elim (contains_cases x ranges r at_r) as (λ _. r ≡ s) [
      | inl e ↦ elim (contains_cases x ranges s at_s) as (λ _. r ≡ s) [
        | inl f ↦ sym e ∙ f
        | inr f ↦ absurd (none_named x.interval.object x.interval.nr (intervals_of ranges) s.interval apart.0 (interval_among ranges s f)
            (sym same ∙ ap (λ (y : NumberRange). name_of y.interval) (sym e)))
      ]
      | inr e ↦ elim (contains_cases x ranges s at_s) as (λ _. r ≡ s) [
        | inl f ↦ absurd (none_named x.interval.object x.interval.nr (intervals_of ranges) r.interval apart.0 (interval_among ranges r e)
            (same ∙ ap (λ (y : NumberRange). name_of y.interval) (sym f)))
        | inr f ↦ one_range ranges r s apart.1 e f same
      ]
    ]

pub record IsFound (ranges : List NumberRange) (object nr : List ℕ) (r : NumberRange) : Type 0 where
  pub among : Contains ranges r
  pub name : name_of r.interval ≡ (object, nr)

-- the range that a name has
pub range_found : (ranges : List NumberRange) (object nr : List ℕ) (r : NumberRange) → range_at ranges object nr ≡ Some r → IsFound ranges object nr r
range_found [] object nr r h = cc
range_found (x ∷ ranges) object nr r h =
    elim (is_named object nr x.interval)
    as (λ b. is_named object nr x.interval ≡ b → cond b (Some x) (range_at ranges object nr) ≡ Some r → IsFound (x ∷ ranges) object nr r) [
      | true ↦ λ e is. let same : x ≡ r = cc in subst (IsFound (x ∷ ranges) object nr) same
          (record { among = contains_first ranges x; name = named_is object nr x.interval e })
      | false ↦ λ e is. let found = range_found ranges object nr r is in record { among = contains_more ranges x r found.among; name = found.name }
    ] refl h

-- whether two names are one
pub by_name : {P : Type 0} (a b : RowName) → (a ≡ b → P) → ((a ≡ b → ⊥) → P) → P
by_name {P = P} a b same apart = elim (same_row a b) as (λ t. same_row a b ≡ t → P) [
  | true ↦ λ e. same ((same_row-Decides a b).0 e)
  | false ↦ λ e. apart (λ is. true≢false (sym ((same_row-Decides a b).1 is) ∙ e))
] refl

-- ---- one session's draws are others

pub count_split : (p : List Num → Bool) (before : List (List Num)) (x : List Num) (after : List (List Num))
    → count_by p (before ++ x ∷ after) ≡ count_by p before + (bit (p x) + count_by p after)
count_split p before x after = count_append p before (x ∷ after) ∙ ap (λ n. count_by p before + n) (count_cons p x after)

pub sum_split : (f : List Num → ℕ) (before : List (List Num)) (x : List Num) (after : List (List Num))
    → sum_by f (before ++ x ∷ after) ≡ sum_by f before + (f x + sum_by f after)
sum_split f before x after = sum_by-append f before (x ∷ after) ∙ ap (λ n. sum_by f before + n) (sum_by-cons f x after)

pub all_with : (P : List Num → Type 0) (before : List (List Num)) (x y : List Num) (after : List (List Num)) → (P x → P y)
    → AllByRecursion P (before ++ x ∷ after) → AllByRecursion P (before ++ y ∷ after)
all_with P [] x y after f h = (f h.0, h.1)
all_with P (z ∷ before) x y after f h = (h.0, all_with P before x y after f h.1)

-- an interval of which both have the same numbers sees no difference
pub same_as : (buffered : Bool) (i : Interval) (next : ℕ) (before : List (List Num)) (x y : List Num) (after : List (List Num)) (committed : List Num)
    → drawn_from i x ≡ drawn_from i y
    → IsDrawnAs buffered i next (before ++ x ∷ after) committed → IsDrawnAs buffered i next (before ++ y ∷ after) committed
same_as false i next before x y after committed same h =
    let many = same_drawn i x y same in
    let a = count_split (has_drawn i) before x after in
    let b = count_split (has_drawn i) before y after in
    let c : bit (has_drawn i x) ≡ bit (has_drawn i y) = ap (λ n. bit (nat_lt 0 n)) many in
    let most = h.sole in
    record {
      begun = h.begun;
      sole = omega (arith, a, b, c, most);
      runs = all_with (IsRun i) before x y after (λ run. record {
        follows = sym same ∙ run.follows ∙ ap (range_with_len (i.level + 1)) many;
        within = subst (λ n. i.level + n ≤ i.to) many run.within;
      }) h.runs;
    }
same_as true i next before x y after committed same h =
    let total : (n : ℕ) → times_given i (before ++ y ∷ after) committed n ≡ times_given i (before ++ x ∷ after) committed n = λ n.
    let a = sum_split (times i n) before x after in
    let b = sum_split (times i n) before y after in
    let c : times i n x ≡ times i n y = ap (count_by (nat_eq n)) same in
    omega (arith, a, b, c) in
    record {
      once = λ n. let e = total n in let most = h.once n in omega (arith, e, most);
      inside = λ n some. let e = total n in h.inside n (omega (arith, e, some));
      low = h.low;
      high = h.high;
    }

-- ---- a number of an interval without a buffer

none_of_these : (p : List Num → Bool) (draws : List (List Num)) → list_any p draws ≡ false → count_by p draws ≡ 0
none_of_these p [] h = refl
none_of_these p (x ∷ draws) h =
    let both = or_parts (p x) (list_any p draws) h in
    let whole = count_cons p x draws in
    let here : bit (p x) ≡ 0 = ap bit both.0 in
    let rest = none_of_these p draws both.1 in
    omega (arith, whole, here, rest)
  where
    or_parts : (a b : Bool) → (a || b) ≡ false → (a ≡ false) × (b ≡ false)
    or_parts true b h = cc
    or_parts false b h = (refl, h)

at_most_one : (b : Bool) → bit b ≤ 1
at_most_one true = omega arith
at_most_one false = omega arith

run_more : (i : Interval) (x : List Num) (number : ℕ) → number ≡ i.level + drawn_of i x + 1 → number ≤ i.to → IsRun i x → IsRun i (x ++ num_of i number ∷ [])
run_more i x number is within run =
    let many : drawn_of i (x ++ num_of i number ∷ []) ≡ drawn_of i x + 1 =
    drawn_length i (x ++ num_of i number ∷ []) ∙ ap length (own_more i x number) ∙ length-append (drawn_from i x) (number ∷ [])
    ∙ ap (λ n. n + 1) (sym (drawn_length i x)) in
    let at : number ≡ i.level + 1 + drawn_of i x = omega (arith, is) in
    record {
      follows =
          own_more i x number
          ∙ ap (λ ns. ns ++ number ∷ []) run.follows
          ∙ ap (λ n. range_with_len (i.level + 1) (drawn_of i x) ++ n ∷ []) at
          ∙ sym (run_append (i.level + 1) (drawn_of i x) 1)
          ∙ ap (range_with_len (i.level + 1)) (sym many);
      within = omega (arith, many, is, within);
    }

plain_more : (i : Interval) (before : List (List Num)) (x : List Num) (after : List (List Num)) (number : ℕ) → list_any (has_drawn i) before ≡ false
    → list_any (has_drawn i) after ≡ false
    → number ≡ i.level + drawn_of i x + 1 → number ≤ i.to → IsDrawnPlain i (before ++ x ∷ after)
    → IsDrawnPlain i (before ++ (x ++ num_of i number ∷ []) ∷ after)
plain_more i before x after number front back is within h =
    let y = x ++ num_of i number ∷ [] in
    let whole = count_split (has_drawn i) before y after in
    let a = none_of_these (has_drawn i) before front in
    let b = none_of_these (has_drawn i) after back in
    let c = at_most_one (has_drawn i y) in
    record { begun = h.begun; sole = omega (arith, whole, a, b, c); runs = all_with (IsRun i) before x y after (run_more i x number is within) h.runs }

pub known_more : (intervals : List Interval) (i : Interval) (x : List Num) (number : ℕ) → Contains intervals i → AreOfOne intervals x
    → AreOfOne intervals (x ++ num_of i number ∷ [])
known_more intervals i x number among h = all_append (IsOfOne intervals) x (num_of i number ∷ []) h (of_one intervals i (num_of i number) among refl, tt)

module _ (ranges : List NumberRange) (levels : Levels) (before : List (List Num)) (x : List Num) (after : List (List Num)) (committed : List Num) (i : Interval)
    (number : ℕ)
    (among : Contains (intervals_of ranges) i) (is : is_buffered i ≡ false) (front : list_any (has_drawn i) before ≡ false)
    (back : list_any (has_drawn i) after ≡ false)
    (next : number ≡ level_in levels i + drawn_of i x + 1) (within : number ≤ i.to) (h : AreDrawnRight ranges levels (before ++ x ∷ after) committed) where
  abbrev plain_new : List (List Num)
  plain_new = before ++ (x ++ num_of i number ∷ []) ∷ after

  abbrev PlainStep : Interval → Type 0
  PlainStep j = (given : ℕ) → IsDrawnAs (is_buffered j) (present levels j) given (before ++ x ∷ after) committed
      → IsDrawnAs (is_buffered j) (present levels j) given plain_new committed

  plain_own : PlainStep i
  plain_own given = subst (λ b. IsDrawnAs b (present levels i) given (before ++ x ∷ after) committed → IsDrawnAs b (present levels i) given plain_new committed)
      (sym is)
      (plain_more (present levels i) before x after number front back next within)

  plain_step : (r : NumberRange) → Contains ranges r → IsDrawnRight levels (before ++ x ∷ after) committed r → IsDrawnRight levels plain_new committed r
  plain_step r there = by_name (name_of i) (name_of r.interval)
      (λ same. subst PlainStep (one_interval (intervals_of ranges) i r.interval h.intervals.apart among (interval_among ranges r there) same) plain_own r.next)
      (λ apart. same_as (is_buffered r.interval) (present levels r.interval) r.next before x (x ++ num_of i number ∷ []) after committed
      (sym (others_same i r.interval x number apart)))

  -- a session draws the number behind those that it has, where no other session has drawn from the interval
  pub plain_drawn : AreDrawnRight ranges levels (before ++ (x ++ num_of i number ∷ []) ∷ after) committed
  plain_drawn = record {
    intervals = h.intervals;
    fit = h.fit;
    each = each_as (IsDrawnRight levels (before ++ x ∷ after) committed) (IsDrawnRight levels plain_new committed) ranges plain_step h.each;
    known = all_with (AreOfOne (intervals_of ranges)) before x (x ++ num_of i number ∷ []) after (known_more (intervals_of ranges) i x number among) h.known;
  }

-- ---- a number of an interval with a buffer

none_yet : (given number next from : ℕ) → (1 ≤ given → (from ≤ number) × (number < next)) → number ≡ next → given ≡ 0
none_yet zero number next from inside same = refl
none_yet (suc given) number next from inside same = let at = inside (omega arith) in let low = at.1 in absurd (omega (arith, low, same))

buffered_more : (i : Interval) (next : ℕ) (before : List (List Num)) (x : List Num) (after : List (List Num)) (committed : List Num) → next ≤ i.level
    → IsDrawnBuffered i next (before ++ x ∷ after) committed → IsDrawnBuffered i (next + 1) (before ++ (x ++ num_of i next ∷ []) ∷ after) committed
buffered_more i next before x after committed reserved h =
    record {
      once = λ n. once_more n (nat_eq n next) refl;
      inside = λ n some. inside_more n (nat_eq n next) refl some;
      low = let low = h.low in omega (arith, low);
      high = omega (arith, reserved);
    }
  where
    one : (n : ℕ) → times i n (num_of i next ∷ []) ≡ bit (nat_eq n next)
    one n = ap (count_by (nat_eq n)) (from_own i next) ∙ count_cons (nat_eq n) next [] ∙ plus_none (bit (nat_eq n next))
      where
        plus_none : (k : ℕ) → k + 0 ≡ k
        plus_none k = omega arith

    total : (n : ℕ) → times_given i (before ++ (x ++ num_of i next ∷ []) ∷ after) committed n ≡ times_given i (before ++ x ∷ after) committed n + bit
        (nat_eq n next)
    total n =
        let a = sum_split (times i n) before x after in
        let b = sum_split (times i n) before (x ++ num_of i next ∷ []) after in
        let c = times_append i n x (num_of i next ∷ []) in
        let d = one n in
        omega (arith, a, b, c, d)

    once_more : (n : ℕ) (b : Bool) → nat_eq n next ≡ b → times_given i (before ++ (x ++ num_of i next ∷ []) ∷ after) committed n ≤ 1
    once_more n true e =
        let all = total n in
        let here : bit (nat_eq n next) ≡ 1 = ap bit e in
        let none = none_yet (times_given i (before ++ x ∷ after) committed n) n next i.from (h.inside n) (eqb-true n next e) in
        omega (arith, all, here, none)
    once_more n false e =
        let all = total n in
        let here : bit (nat_eq n next) ≡ 0 = ap bit e in
        let most = h.once n in
        omega (arith, all, here, most)

    inside_more : (n : ℕ) (b : Bool) → nat_eq n next ≡ b → 1 ≤ times_given i (before ++ (x ++ num_of i next ∷ []) ∷ after) committed n → (i.from ≤ n)
        × (n < next + 1)
    inside_more n true e some =
        let same : n ≡ next = eqb-true n next e in
        let low = h.low in
        (omega (arith, same, low), omega (arith, same))
    inside_more n false e some =
        let all = total n in
        let here : bit (nat_eq n next) ≡ 0 = ap bit e in
        let at = h.inside n (omega (arith, all, here, some)) in
        let high = at.1 in
        (at.0, omega (arith, high))

module _ (ranges : List NumberRange) (levels : Levels) (before : List (List Num)) (x : List Num) (after : List (List Num)) (committed : List Num)
    (r : NumberRange)
    (among : Contains ranges r) (is : is_buffered r.interval ≡ true) (reserved : r.next ≤ level_in levels r.interval)
    (h : AreDrawnRight ranges levels (before ++ x ∷ after) committed) where
  abbrev taken : List (List Num)
  taken = before ++ (x ++ num_of r.interval r.next ∷ []) ∷ after

  abbrev change : NumberRange → NumberRange
  change s = if is_named r.interval.object r.interval.nr s.interval then record s { next = s.next + 1 } else s

  abbrev TakenStep : NumberRange → Type 0
  TakenStep s = IsDrawnRight levels (before ++ x ∷ after) committed s → IsDrawnRight levels taken committed (record s { next = s.next + 1 })

  taken_own : TakenStep r
  taken_own = subst
      (λ b. IsDrawnAs b (present levels r.interval) r.next (before ++ x ∷ after) committed
      → IsDrawnAs b (present levels r.interval) (r.next + 1) taken committed) (sym is)
      (buffered_more (present levels r.interval) r.next before x after committed reserved)

  taken_step : (s : NumberRange) → Contains ranges s → IsDrawnRight levels (before ++ x ∷ after) committed s → IsDrawnRight levels taken committed (change s)
  taken_step s there old = elim (is_named r.interval.object r.interval.nr s.interval)
      as (λ b. is_named r.interval.object r.interval.nr s.interval ≡ b → IsDrawnRight levels taken committed (if b then record s { next = s.next + 1 } else s)) [
        | true ↦ λ e.
            let name = sym (named_is r.interval.object r.interval.nr s.interval e) in
            subst TakenStep (one_range ranges r s h.intervals.apart among there name) taken_own old
        | false ↦ λ e.
            same_as (is_buffered s.interval) (present levels s.interval) s.next before x (x ++ num_of r.interval r.next ∷ []) after committed
            (sym (others_same r.interval s.interval x r.next
            (λ same. true≢false (sym (is_named_so r.interval.object r.interval.nr s.interval (sym same)) ∙ e))))
            old
      ] refl

  -- a session takes the next number out of memory, up to the level
  pub buffered_drawn : AreDrawnRight (handed_out r.interval ranges) levels (before ++ (x ++ num_of r.interval r.next ∷ []) ∷ after) committed
  buffered_drawn =
      let same = sym (handed_intervals r.interval.object r.interval.nr ranges) in
      record {
        intervals = subst AreIntervals same h.intervals;
        fit = subst (λ is. FitLevels is levels) same h.fit;
        each = each_changed (IsDrawnRight levels (before ++ x ∷ after) committed) (IsDrawnRight levels taken committed) change ranges taken_step h.each;
        known = subst (λ is. AllByRecursion (AreOfOne is) taken) same
            (all_with (AreOfOne (intervals_of ranges)) before x (x ++ num_of r.interval r.next ∷ []) after
            (known_more (intervals_of ranges) r.interval x r.next (interval_among ranges r among)) h.known);
      }
