-- The intervals and the stocks of a hall that was opened.
use Rattle.std.proofs.Common.{◌≡◌, ℕ, ◌+◌, ◌-◌, ◌≤◌, Bool, true, false, cond, List, [], ◌∷◌, length, map, take, refl, sym, ap, ◌∙◌, subst, arith, if◌then◌else◌}
use Rattle.std.proofs.lemmas.List.{take_all}
use Rattle.std.specs.Prelude.{Option, Some, None}
use Rattle.std.specs.List.{AllByRecursion}
use Rattle.std.specs.Option.{option_map}
use Rattle.hall_model.specs.Numbers.{holder_of, next_of, range_state, shown_range}
use Rattle.hall_model.specs.State.{State}
use Rattle.hall_model.specs.Views.{ranges_shown}
use Rattle.ledger_steps.specs.Levels.{AreIntervals, IsUnused, first_range, first_ranges, intervals_of, level_in, present, range_at}
use Rattle.ledger_steps.specs.declared.range.NumberRange.{NumberRange}
use Rattle.number_ranges.specs.Draws.{RangeState}
use Rattle.number_ranges.specs.Intervals.{is_buffered, is_named, with_level}
use Rattle.number_ranges.specs.declared.interval.Interval.{Interval}
use Rattle.script_actors.specs.Drawings.{interval_at}
use Rattle.update_records.specs.Ledger.{Levels}
use Rattle.thread_runner.specs.Stocking.{IsOpened, opened_by}

-- ---- what is shown

-- where nobody is logged on nobody holds an interval
nobody : (b : Bool) (i : Interval) (next : ℕ) → shown_range i next (if b then None else None) ≡ record { interval = i; holder = None; drawn = 0; next = next }
nobody true i next = refl
nobody false i next = refl

less_one : (level from : ℕ) → level + 1 ≡ from → from - 1 ≡ level
less_one level from h = omega (arith, h)

opened_one : (s : State) (levels : Levels) (i : Interval) → s.sessions ≡ [] → s.stored.levels ≡ levels → IsUnused i
    → opened_by (range_state s (first_range levels i)) ≡ first_range levels i
opened_one s levels i none at unused =
    subst (λ ss. opened_by (shown_range (present s.stored.levels i) (next_of (first_range levels i) (present s.stored.levels i))
    (holder_of ss (present s.stored.levels i))) ≡ first_range levels i) (sym none)
    (subst (λ ls. opened_by (shown_range (present ls i) (next_of (first_range levels i) (present ls i)) (holder_of [] (present ls i))) ≡ first_range levels i)
    (sym at)
    (ap opened_by (nobody (is_buffered (present levels i)) (present levels i) (next_of (first_range levels i) (present levels i)))
    ∙ (λ k. record { interval = with_level (less_one i.level i.from unused.first k) i; next = level_in levels i + 1 })))

opened_each : (s : State) (levels : Levels) (is : List Interval) → s.sessions ≡ [] → s.stored.levels ≡ levels → AllByRecursion IsUnused is
    → map opened_by (map (range_state s) (first_ranges levels is)) ≡ first_ranges levels is
opened_each s levels [] none at each = refl
opened_each s levels (i ∷ is) none at each = λ k. opened_one s levels i none at each.0 k ∷ opened_each s levels is none at each.1 k

ranges_are : (s : State) (o : IsOpened s) → s.ranges ≡ first_ranges s.stored.levels o.intervals
ranges_are s o = ap (λ (x : State). x.ranges) o.is

-- what an opened hall shows are its ranges
pub shown_opened : (s : State) → IsOpened s → map opened_by (ranges_shown s) ≡ s.ranges
shown_opened s o =
    ap (λ rs. map opened_by (map (range_state s) rs)) (ranges_are s o)
    ∙ opened_each s s.stored.levels o.intervals (ap (λ (x : State). x.sessions) o.is) refl o.known.each ∙ sym (ranges_are s o)

-- so it is of all that was taken over, one by one
pub all_shown : (s : State) (shown : List RangeState) (k : ℕ) (found : List NumberRange) → IsOpened s → shown ≡ ranges_shown s
    → found ≡ map opened_by (take k shown) → length shown ≤ k → found ≡ s.ranges
all_shown s shown k found o given is past = is ∙ (ap (map opened_by) (take_all k shown past ∙ given) ∙ shown_opened s o)

-- the intervals of first ranges
intervals_first : (levels : Levels) (is : List Interval) → intervals_of (first_ranges levels is) ≡ is
intervals_first levels [] = refl
intervals_first levels (i ∷ is) = ap (λ l. i ∷ l) (intervals_first levels is)

pub opened_intervals : (s : State) (o : IsOpened s) → intervals_of s.ranges ≡ o.intervals
opened_intervals s o = ap intervals_of (ranges_are s o) ∙ intervals_first s.stored.levels o.intervals

pub opened_known : (s : State) → IsOpened s → AreIntervals (intervals_of s.ranges)
opened_known s o = subst AreIntervals (sym (opened_intervals s o)) o.known

-- ---- a range by its name

-- its interval is the one of the name
pub range_interval : (rs : List NumberRange) (object nr : List ℕ) → option_map (λ (r : NumberRange). r.interval) (range_at rs object nr) ≡ interval_at
    (intervals_of rs) object nr
range_interval [] object nr = refl
range_interval (r ∷ rs) object nr = by (is_named object nr r.interval) (range_interval rs object nr)
  where
    by : (b : Bool) → option_map (λ (x : NumberRange). x.interval) (range_at rs object nr) ≡ interval_at (intervals_of rs) object nr
        → option_map (λ (x : NumberRange). x.interval) (cond b (Some r) (range_at rs object nr)) ≡ cond b (Some r.interval)
        (interval_at (intervals_of rs) object nr)
    by true rest = refl
    by false rest = rest

-- in an opened hall a range of this name has the number behind the level
some_same : {X : Type 0} (x y : X) → Some x ≡ Some y → x ≡ y
some_same x y e = ap (λ (o : Option _). elim o [ None ↦ x | Some z ↦ z ]) e

first_named : (levels : Levels) (is : List Interval) (object nr : List ℕ) (i : Interval) → interval_at is object nr ≡ Some i
    → range_at (first_ranges levels is) object nr ≡ Some (first_range levels i)
first_named levels [] object nr i h = cc
first_named levels (j ∷ is) object nr i h = by (is_named object nr j) h (λ e. first_named levels is object nr i e)
  where
    by : (b : Bool) → cond b (Some j) (interval_at is object nr) ≡ Some i
        → (interval_at is object nr ≡ Some i → range_at (first_ranges levels is) object nr ≡ Some (first_range levels i))
        → cond b (Some (first_range levels j)) (range_at (first_ranges levels is) object nr) ≡ Some (first_range levels i)
    by true e later = ap (λ (x : Interval). Some (first_range levels x)) (some_same j i e)
    by false e later = later e

pub opened_next : (s : State) → IsOpened s → (object nr : List ℕ) (i : Interval) → interval_at (intervals_of s.ranges) object nr ≡ Some i
    → range_at s.ranges object nr ≡ Some (first_range s.stored.levels i)
opened_next s o object nr i h =
    ap (λ rs. range_at rs object nr) (ranges_are s o)
    ∙ first_named s.stored.levels o.intervals object nr i (ap (λ is. interval_at is object nr) (sym (opened_intervals s o)) ∙ h)
