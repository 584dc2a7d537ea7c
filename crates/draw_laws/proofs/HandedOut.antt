-- One interval whose next number in memory changes: it is handed out, or passed.
use Rattle.std.proofs.Common.{◌≡◌, ℕ, suc, ◌+◌, ◌<◌, Bool, true, false, cond, List, [], ◌∷◌, length, drop, get_or, map, max, set, Some, None, if◌then◌else◌, refl, sym, ap, subst, ◌∙◌, ◌||◌, arith}
use Rattle.std.specs.List.{AllByRecursion, list_any, position_from, slice_get}
use Rattle.std.proofs.Math.Seq.{drop-cons}
use Rattle.number_ranges.specs.Intervals.{is_named}
use Rattle.number_ranges.specs.declared.interval.Interval.{Interval}
use Rattle.enq_base.specs.declared.unit.Num.{Num}
use Rattle.ledger_steps.specs.Drawn.{handed_out_of, passed, passed_by}
use Rattle.ledger_steps.specs.Levels.{AreApart, intervals_of, range_at}
use Rattle.ledger_steps.specs.declared.range.NumberRange.{NumberRange}
use Rattle.draw_laws.proofs.IntervalNames.{named_is}

abbrev pub with_next : NumberRange → NumberRange
with_next r = record r { next = r.next + 1 }

-- at least what is behind this number
abbrev pub with_passed : ℕ → NumberRange → NumberRange
with_passed number r = record r { next = max r.next (number + 1) }

module _ (change : NumberRange → NumberRange) (keeps : (r : NumberRange) → (change r).interval ≡ r.interval) where
  -- the range of this name changes
  abbrev pub changed_of : List ℕ → List ℕ → NumberRange → NumberRange
  changed_of object nr r = if is_named object nr r.interval then change r else r

  -- the intervals stay
  pub changed_intervals : (object nr : List ℕ) (ranges : List NumberRange) → intervals_of (map (changed_of object nr) ranges) ≡ intervals_of ranges
  changed_intervals object nr [] = refl
  changed_intervals object nr (r ∷ ranges) =
      let same : (changed_of object nr r).interval ≡ r.interval = one (is_named object nr r.interval) in
      λ k. same k ∷ changed_intervals object nr ranges k
    where
      one : (b : Bool) → (if b then change r else r).interval ≡ r.interval
      one true = keeps r
      one false = refl

  -- where no interval has the name all stay
  pub none_changed : (object nr : List ℕ) (ranges : List NumberRange) → list_any (is_named object nr) (intervals_of ranges) ≡ false
      → map (changed_of object nr) ranges ≡ ranges
  none_changed object nr [] h = refl
  none_changed object nr (r ∷ ranges) h =
      by (is_named object nr r.interval) (list_any (is_named object nr) (intervals_of ranges)) h (λ e. none_changed object nr ranges e)
    where
      by : (a b : Bool) → (a || b) ≡ false → (b ≡ false → map (changed_of object nr) ranges ≡ ranges)
          → (if a then change r else r) ∷ map (changed_of object nr) ranges ≡ r ∷ ranges
      by true b e f = cc
      by false b e f = ap (λ rs. r ∷ rs) (f e)

  none_from : (object nr : List ℕ) (is : List Interval) (first : ℕ) → position_from (is_named object nr) first is ≡ None
      → list_any (is_named object nr) is ≡ false
  none_from object nr [] first h = refl
  none_from object nr (i ∷ is) first h =
      elim (is_named object nr i)
      as (λ b. cond b (Some first) (position_from (is_named object nr) (first + 1) is) ≡ None → (b || list_any (is_named object nr) is) ≡ false) [
        | true ↦ λ e. cc
        | false ↦ λ e. none_from object nr is (first + 1) e
      ] h

  -- a name that has no place
  pub none_placed : (object nr : List ℕ) (ranges : List NumberRange) → position_from (is_named object nr) 0 (intervals_of ranges) ≡ None
      → ranges ≡ map (changed_of object nr) ranges
  none_placed object nr ranges h = sym (none_changed object nr ranges (none_from object nr (intervals_of ranges) 0 h))

  -- the range of a name, so many places behind the first one, is the one that changes
  record IsChangedFrom (object nr : List ℕ) (ranges : List NumberRange) (first place : ℕ) : Type 0 where
    behind : ℕ
    range : NumberRange
    at : place ≡ first + behind
    within : behind < length ranges
    found : slice_get ranges behind ≡ Some range
    called : range_at ranges object nr ≡ Some range
    changed : set ranges behind (change range) ≡ map (changed_of object nr) ranges

  first_changed : (object nr : List ℕ) (r : NumberRange) (ranges : List NumberRange) (first place : ℕ)
      → list_any (is_named r.interval.object r.interval.nr) (intervals_of ranges) ≡ false
      → is_named object nr r.interval ≡ true → Some first ≡ Some place → IsChangedFrom object nr (r ∷ ranges) first place
  first_changed object nr r ranges first place none e is =
      let name = named_is object nr r.interval e in
      let others : list_any (is_named object nr) (intervals_of ranges) ≡ false =
      subst (λ n. list_any (is_named n.0 n.1) (intervals_of ranges) ≡ false) name none in
      let same : first ≡ place = cc in
      record {
        behind = 0;
        range = r;
        at = omega (arith, same);
        within = omega arith;
        found = refl;
        called = ap (λ b. cond b (Some r) (range_at ranges object nr)) e;
        changed =
            sym (ap (λ b. (if b then change r else r) ∷ map (changed_of object nr) ranges) e
            ∙ ap (λ rs. change r ∷ rs) (none_changed object nr ranges others));
      }

  later_changed : (object nr : List ℕ) (r : NumberRange) (ranges : List NumberRange) (first place : ℕ) → is_named object nr r.interval ≡ false
      → IsChangedFrom object nr ranges (first + 1) place → IsChangedFrom object nr (r ∷ ranges) first place
  later_changed object nr r ranges first place e rest = record {
    behind = suc rest.behind;
    range = rest.range;
    at = omega (arith, rest.at);
    within = omega (arith, rest.within);
    found = rest.found;
    called = ap (λ b. cond b (Some r) (range_at ranges object nr)) e ∙ rest.called;
    changed =
        ap (λ rs. r ∷ rs) rest.changed
        ∙ sym (ap (λ b. (if b then change r else r) ∷ map (changed_of object nr) ranges) e);
  }

  changed_from : (object nr : List ℕ) (ranges : List NumberRange) (first place : ℕ) → AreApart (intervals_of ranges)
      → position_from (is_named object nr) first (intervals_of ranges) ≡ Some place → IsChangedFrom object nr ranges first place
  changed_from object nr [] first place apart h = cc
  changed_from object nr (r ∷ ranges) first place apart h =
      elim (is_named object nr r.interval) as (λ b. is_named object nr r.interval ≡ b
      → cond b (Some first) (position_from (is_named object nr) (first + 1) (intervals_of ranges)) ≡ Some place
      → IsChangedFrom object nr (r ∷ ranges) first place) [
        | true ↦ λ e is. first_changed object nr r ranges first place apart.0 e is
        | false ↦ λ e is. later_changed object nr r ranges first place e (changed_from object nr ranges (first + 1) place apart.1 is)
      ] refl h

  -- the range that stands at the place of a name is the one that changes
  pub record IsChangedAt (object nr : List ℕ) (ranges : List NumberRange) (place : ℕ) : Type 0 where
    pub range : NumberRange
    pub within : place < length ranges
    pub found : slice_get ranges place ≡ Some range
    pub called : range_at ranges object nr ≡ Some range
    pub changed : set ranges place (change range) ≡ map (changed_of object nr) ranges

  pub changed_at : (object nr : List ℕ) (ranges : List NumberRange) (place : ℕ) → AreApart (intervals_of ranges)
      → position_from (is_named object nr) 0 (intervals_of ranges) ≡ Some place → IsChangedAt object nr ranges place
  changed_at object nr ranges place apart h =
      let from = changed_from object nr ranges 0 place apart h in
      let same : from.behind ≡ place = omega (arith, from.at) in
      subst (λ n. IsChangedAt object nr ranges n) same
      (record { range = from.range; within = from.within; found = from.found; called = from.called; changed = from.changed })

-- ---- a number is handed out

pub next_keeps : (r : NumberRange) → (with_next r).interval ≡ r.interval
next_keeps r = refl

pub handed_intervals : (object nr : List ℕ) (ranges : List NumberRange) → intervals_of (map (handed_out_of object nr) ranges) ≡ intervals_of ranges
handed_intervals = changed_intervals with_next next_keeps

-- a name that has no place
pub none_handed : (object nr : List ℕ) (ranges : List NumberRange) → position_from (is_named object nr) 0 (intervals_of ranges) ≡ None
    → ranges ≡ map (handed_out_of object nr) ranges
none_handed = none_placed with_next next_keeps

pub handed_at : (object nr : List ℕ) (ranges : List NumberRange) (place : ℕ) → AreApart (intervals_of ranges)
    → position_from (is_named object nr) 0 (intervals_of ranges) ≡ Some place → IsChangedAt with_next next_keeps object nr ranges place
handed_at = changed_at with_next next_keeps

-- ---- numbers are passed

pub passed_keeps : (number : ℕ) (r : NumberRange) → (with_passed number r).interval ≡ r.interval
passed_keeps number r = refl

pub passed_by_intervals : (num : Num) (ranges : List NumberRange) → intervals_of (map (passed_by num) ranges) ≡ intervals_of ranges
passed_by_intervals num = changed_intervals (with_passed num.number) (passed_keeps num.number) num.object num.nr

pub passed_intervals : (nums : List Num) (ranges : List NumberRange) → intervals_of (passed nums ranges) ≡ intervals_of ranges
passed_intervals [] ranges = refl
passed_intervals (num ∷ nums) ranges = passed_intervals nums (map (passed_by num) ranges) ∙ passed_by_intervals num ranges

-- one number of a list after the other
pub passed_next : (nums : List Num) (k : ℕ) (num : Num) (ranges now : List NumberRange) → k < length nums → num ≡ get_or nums k num
    → now ≡ map (passed_by num) ranges
    → passed (drop (k + 1) nums) now ≡ passed (drop k nums) ranges
passed_next nums k num ranges now within at is =
    let next : suc k ≡ k + 1 = omega arith in
    ap (passed (drop (k + 1) nums)) is
    ∙ sym (ap (λ ns. passed ns ranges) (drop-cons nums k num within ∙ (λ j. sym at j ∷ drop (next j) nums)))

pub all_next : (P : Num → Type 0) (nums : List Num) (k : ℕ) (num : Num) → k < length nums → num ≡ get_or nums k num → AllByRecursion P (drop k nums)
    → P num × AllByRecursion P (drop (k + 1) nums)
all_next P nums k num within at h =
    let next : suc k ≡ k + 1 = omega arith in
    subst (AllByRecursion P) (drop-cons nums k num within ∙ (λ j. sym at j ∷ drop (next j) nums)) h

pub none_passed : (num : Num) (ranges : List NumberRange) → position_from (is_named num.object num.nr) 0 (intervals_of ranges) ≡ None
    → ranges ≡ map (passed_by num) ranges
none_passed num = none_placed (with_passed num.number) (passed_keeps num.number) num.object num.nr

pub passed_at : (num : Num) (ranges : List NumberRange) (place : ℕ) → AreApart (intervals_of ranges)
    → position_from (is_named num.object num.nr) 0 (intervals_of ranges) ≡ Some place
    → IsChangedAt (with_passed num.number) (passed_keeps num.number) num.object num.nr ranges place
passed_at num = changed_at (with_passed num.number) (passed_keeps num.number) num.object num.nr
