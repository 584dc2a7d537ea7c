-- Intervals that are found by a place that a map has.
use Rattle.std.proofs.Common.{◌≡◌, ℕ, suc, ◌+◌, ◌-◌, ◌<◌, ◌≤◌, Bool, true, false, cond, nat_eq, nat_le, ◌&&◌, ◌||◌, List, [], ◌∷◌, length, drop, get_or, Option}
use Rattle.std.proofs.Common.{Some, None, if◌then◌else◌, refl, sym, ap, subst, ◌∙◌, arith}
use Rattle.std.specs.Bool.{beq}
use Rattle.std.specs.List.{list_any, position_from, slice_get}
use Rattle.std.specs.Option.{option_map_or}
use Rattle.std.proofs.Math.Seq.{drop-cons}
use Rattle.number_ranges.specs.Intervals.{is_buffered, is_named}
use Rattle.number_ranges.specs.declared.interval.Interval.{Interval}
use Rattle.update_records.specs.declared.stored.StoredInterval.{StoredInterval}
use Rattle.ledger_steps.specs.Levels.{AreApart, fits, intervals_of, is_row_of, range_at}
use Rattle.ledger_steps.specs.declared.range.NumberRange.{NumberRange}
use Rattle.draw_laws.proofs.IntervalNames.{named_is}

-- ---- places

-- the interval before the last ones is noted
pub places_more : (is : List Interval) (left : ℕ) (i : Interval) (object nr : List ℕ) (old : Option ℕ) → 0 < left → left ≤ length is
    → i ≡ get_or is (left - 1) i
    → old ≡ position_from (is_named object nr) left (drop left is)
    → (if is_named object nr i then Some (left - 1) else old) ≡ position_from (is_named object nr) (left - 1) (drop (left - 1) is)
places_more is left i object nr old some within at before =
    let low : left - 1 < length is = omega arith in
    let next : suc (left - 1) ≡ left = omega arith in
    let more : left - 1 + 1 ≡ left = omega arith in
    let rest : drop (left - 1) is ≡ i ∷ drop left is = drop-cons is (left - 1) i low ∙ (λ k. sym at k ∷ drop (next k) is) in
    ap (cond (is_named object nr i) (Some (left - 1))) before
    ∙ ap (λ n. cond (is_named object nr i) (Some (left - 1)) (position_from (is_named object nr) n (drop left is))) (sym more)
    ∙ ap (position_from (is_named object nr) (left - 1)) (sym rest)

abbrev pub at_place_of : (ℕ → Option NumberRange) → Option ℕ → Option NumberRange
at_place_of read None = None
at_place_of read (Some place) = read place

found_from : (object nr : List ℕ) (ranges : List NumberRange) (first : ℕ) (read : ℕ → Option NumberRange) → ((k : ℕ) → read (first + k) ≡ slice_get ranges k)
    → at_place_of read (position_from (is_named object nr) first (intervals_of ranges)) ≡ range_at ranges object nr
found_from object nr [] first read same = refl
found_from object nr (r ∷ ranges) first read same =
    let here : first ≡ first + 0 = omega arith in
    let behind : (k : ℕ) → read (first + 1 + k) ≡ slice_get ranges k = λ k.
    let next : first + 1 + k ≡ first + suc k = omega arith in
    ap read next ∙ same (suc k) in
    elim (is_named object nr r.interval)
    as (λ b. at_place_of read (cond b (Some first) (position_from (is_named object nr) (first + 1) (intervals_of ranges))) ≡ cond b (Some r)
    (range_at ranges object nr)) [
      | true ↦ ap read here ∙ same 0
      | false ↦ found_from object nr ranges (first + 1) read behind
    ]

-- what stands at the place of a name is the range of this name
pub found_at : (object nr : List ℕ) (ranges : List NumberRange) → at_place_of (slice_get ranges)
    (position_from (is_named object nr) 0 (intervals_of ranges)) ≡ range_at ranges object nr
found_at object nr ranges = found_from object nr ranges 0 (slice_get ranges) (λ k. let same : 0 + k ≡ k = omega arith in ap (slice_get ranges) same)

-- ---- rows of intervals

-- where a name is no interval's no row of this name is
none_fits : (row : StoredInterval) (is : List Interval) → list_any (is_named row.object row.nr) is ≡ false → fits is row ≡ false
none_fits row [] h = refl
none_fits row (i ∷ is) h =
    let both = or_parts (is_named row.object row.nr i) (list_any (is_named row.object row.nr) is) h in
    not_this (is_named row.object row.nr i) (nat_eq row.from i.from) (beq row.buffered (is_buffered i) && nat_le row.level i.to) (fits is row) both.0
    ∙ none_fits row is both.1
  where
    or_parts : (a b : Bool) → (a || b) ≡ false → (a ≡ false) × (b ≡ false)
    or_parts true b h = cc
    or_parts false b h = (refl, h)

    not_this : (a b c d : Bool) → a ≡ false → ((a && b) && c || d) ≡ d
    not_this true b c d h = cc
    not_this false b c d h = refl

-- a row is that of some interval where it is that of the interval of its name
pub fits_found : (row : StoredInterval) (ranges : List NumberRange) → AreApart (intervals_of ranges)
    → fits (intervals_of ranges) row ≡ option_map_or (λ (r : NumberRange). is_row_of row r.interval) (range_at ranges row.object row.nr) false
fits_found row [] apart = refl
fits_found row (r ∷ ranges) apart =
    by_name (is_named row.object row.nr r.interval) (nat_eq row.from r.interval.from)
    (beq row.buffered (is_buffered r.interval) && nat_le row.level r.interval.to)
    (fits (intervals_of ranges) row) r (range_at ranges row.object row.nr) (λ e.
    let name = named_is row.object row.nr r.interval e in
    none_fits row (intervals_of ranges) (subst (λ n. list_any (is_named n.0 n.1) (intervals_of ranges) ≡ false) name apart.0))
    refl (fits_found row ranges apart.1)
  where
    or_false : (b : Bool) → (b || false) ≡ b
    or_false true = refl
    or_false false = refl

    by_name : (a b c d : Bool) (r : NumberRange) (found : Option NumberRange) → (a ≡ true → d ≡ false) → is_row_of row r.interval ≡ ((a && b) && c)
        → d ≡ option_map_or (λ (x : NumberRange). is_row_of row x.interval) found false
        → ((a && b) && c || d) ≡ option_map_or (λ (x : NumberRange). is_row_of row x.interval) (cond a (Some r) found) false
    by_name true b c d r found none is rest = ap (λ e. b && c || e) (none refl) ∙ or_false (b && c) ∙ sym is
    by_name false b c d r found none is rest = rest
