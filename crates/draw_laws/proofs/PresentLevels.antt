-- An interval with its present level is one still.
use Rattle.std.proofs.Common.{ℕ, ◌+◌, ◌≤◌, Bool, true, false, List, arith}
use Rattle.std.specs.Prelude.{Contains}
use Rattle.std.proofs.lemmas.List.Elements.{All-contains, All-from_recursion}
use Rattle.enq_base.specs.declared.unit.Num.{Num}
use Rattle.number_ranges.specs.Intervals.{IsInterval, is_buffered}
use Rattle.number_ranges.specs.declared.interval.Interval.{Interval}
use Rattle.update_records.specs.Ledger.{Levels}
use Rattle.ledger_steps.specs.Drawn.{AreDrawnRight, IsDrawnAs, IsDrawnRight}
use Rattle.ledger_steps.specs.Levels.{intervals_of, level_in, present}
use Rattle.ledger_steps.specs.declared.range.NumberRange.{NumberRange}
use Rattle.draw_laws.proofs.Drawing.{interval_among}
use Rattle.draw_laws.proofs.FittingLevels.{level_fits, unused_in}

module _ (ranges : List NumberRange) (levels : Levels) (draws : List (List Num)) (committed : List Num) (h : AreDrawnRight ranges levels draws committed) where
  -- what is drawn of one of the ranges
  pub drawn_at : (r : NumberRange) → Contains ranges r → IsDrawnRight levels draws committed r
  drawn_at r among = All-contains (IsDrawnRight levels draws committed) ranges r (All-from_recursion (IsDrawnRight levels draws committed) ranges h.each) among

  begins : (i : Interval) (next : ℕ) (b : Bool) → IsDrawnAs b (present levels i) next draws committed → i.from ≤ level_in levels i + 1
  begins i next false d = d.begun
  begins i next true d = let low = d.low in let high = d.high in omega (arith, low, high)

  pub present_is : (r : NumberRange) → Contains ranges r → IsInterval (present levels r.interval)
  present_is r among =
      let inside = interval_among ranges r among in
      let is = (unused_in (intervals_of ranges) r.interval h.intervals inside).interval in
      record {
        low = is.low;
        order = is.order;
        high = is.high;
        begun = begins r.interval r.next (is_buffered r.interval) (drawn_at r among);
        within = level_fits (intervals_of ranges) levels r.interval h.intervals h.fit inside;
        percentage = is.percentage;
      }
