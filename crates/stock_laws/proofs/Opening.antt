-- A start has a lot for each interval with a buffer.
use Rattle.std.proofs.Common.{◌≡◌, inl, inr, ℕ, ◌+◌, ◌<◌, ◌≤◌, Bool, true, false, List, [], ◌∷◌, sym, subst, arith}
use Rattle.std.specs.Prelude.{Contains}
use Rattle.enq_base.specs.declared.unit.Num.{Num}
use Rattle.number_ranges.specs.Intervals.{is_buffered}
use Rattle.number_ranges.specs.declared.interval.Interval.{Interval}
use Rattle.store_reading.specs.Good.{IsSound}
use Rattle.update_records.specs.Business.{numbers_of}
use Rattle.update_records.specs.Ledger.{Ledger, Levels}
use Rattle.ledger_steps.specs.Drawn.{IsDrawnAs, times_given}
use Rattle.ledger_steps.specs.Levels.{AreIntervals, FitRows, first_range, first_ranges, level_in, present}
use Rattle.ledger_steps.specs.Starts.{IsRaised}
use Rattle.draw_laws.proofs.IntervalNames.{contains_cases, contains_first, contains_more, contains_none}
use Rattle.draw_laws.proofs.PresentLevels.{drawn_at}
use Rattle.draw_laws.proofs.StartedRanges.{first_intervals}
use Rattle.hall_laws.proofs.starting.FirstKeeps.{nothing_drawn}
use Rattle.hall_model.specs.State.{opened}
use Rattle.stock_laws.specs.Stocked.{IsStocked, first_lot}

range_among : (levels : Levels) (intervals : List Interval) (i : Interval) → Contains intervals i
    → Contains (first_ranges levels intervals) (first_range levels i)
range_among levels [] i among = absurd (contains_none i among)
range_among levels (x ∷ intervals) i among =
    elim (contains_cases x intervals i among) as (λ _. Contains (first_ranges levels (x ∷ intervals)) (first_range levels i)) [
      | inl e ↦
          subst (λ j. Contains (first_ranges levels (x ∷ intervals)) (first_range levels j)) e
          (contains_first (first_ranges levels intervals) (first_range levels x))
      | inr e ↦ contains_more (first_ranges levels intervals) (first_range levels x) (first_range levels i) (range_among levels intervals i e)
    ]

-- memory hands out no number below the first one, and all that are committed lie before it
record IsBehind (i : Interval) (next : ℕ) (committed : List Num) : Type 0 where
  low : i.from ≤ next
  before : (n : ℕ) → 1 ≤ times_given i [] committed n → n < next

behind_as : (b : Bool) (i : Interval) (next : ℕ) (committed : List Num) → b ≡ true → IsDrawnAs b i next [] committed → IsBehind i next committed
behind_as false i next committed e d = cc
behind_as true i next committed e d = record { low = d.low; before = λ n some. (d.inside n some).1 }

none_more : (n : ℕ) → n + 0 ≤ n
none_more n = omega arith

plus_none : (k : ℕ) → 1 ≤ k → 1 ≤ k + 0
plus_none k h = omega (arith, h)

pub lot_opened : (max_locks mark_limit : ℕ) (intervals : List Interval) (told link_told : Bool) (ledger : Ledger) (i : Interval) → AreIntervals intervals
    → FitRows intervals ledger.levels → IsRaised IsSound true ledger → Contains intervals i → is_buffered i ≡ true
    → IsStocked (opened max_locks mark_limit intervals told link_told ledger) (first_lot ledger.levels i)
lot_opened max_locks mark_limit intervals told link_told ledger i are fit first among is =
    let levels = ledger.levels in
    let committed = numbers_of ledger.units ledger.marks in
    let next = level_in levels i + 1 in
    let drawn = nothing_drawn ledger intervals (record { good = are; fit = fit }) first in
    let behind : IsBehind (present levels i) next committed = behind_as (is_buffered i) (present levels i) next committed is
    (drawn_at (first_ranges levels intervals) levels [] committed drawn (first_range levels i) (range_among levels intervals i among)) in
    record {
      one = subst (λ js. Contains js i) (sym (first_intervals levels intervals)) among;
      buffered = is;
      first = behind.low;
      level = none_more next;
      committed = λ n some. inl (behind.before n (plus_none _ some));
      flight_goes = tt;
      undrawn = tt;
    }
