-- The numbers that a hall has reserved in its first interval, and that its memory has yet to hand out, are those of a stock.
use Rattle.std.proofs.Common.{◌≡◌, ℕ, ◌+◌, ◌≤◌, ◌<◌, true, List, [], ◌∷◌, cond, map, Option, None, Some, refl, sym, ap, subst, ◌∙◌}
use Rattle.std.specs.List.{range_with_len}
use Rattle.std.proofs.lemmas.Bool.{lt-ltb}
use Rattle.enq_base.specs.declared.unit.Num.{Num}
use Rattle.number_ranges.specs.Draws.{RangeState}
use Rattle.number_ranges.specs.Intervals.{is_buffered}
use Rattle.number_ranges.specs.declared.interval.Interval.{Interval}
use Rattle.ledger_steps.specs.Drawn.{AreDrawnRight, IsStock, num_of}
use Rattle.ledger_steps.specs.Levels.{intervals_of, present}
use Rattle.ledger_steps.specs.declared.range.NumberRange.{NumberRange}
use Rattle.draw_laws.proofs.StockBehind.{run_is_stock}
use Rattle.draw_laws.proofs.IntervalNames.{contains_first}
use Rattle.hall_model.specs.Kept.{draws_in}
use Rattle.hall_model.specs.Numbers.{holder_of, next_of, range_state, shown_range}
use Rattle.hall_model.specs.State.{State}
use Rattle.hall_model.specs.declared.command.Session.{Session}

shown_interval : (i : Interval) (next : ℕ) (holder : Option Session) → (shown_range i next holder).interval ≡ i
shown_interval i next None = refl
shown_interval i next (Some x) = refl

shown_next : (i : Interval) (next : ℕ) (holder : Option Session) → (shown_range i next holder).next ≡ next
shown_next i next None = refl
shown_next i next (Some x) = refl

-- the first of the ranges that are shown
abbrev first_shown : RangeState → List RangeState → RangeState
first_shown none [] = none
first_shown none (r ∷ rs) = r

pub first_reserved : (s : State) (committed : List Num) (ranges : List NumberRange) (found : RangeState) (first count : ℕ)
    → AreDrawnRight ranges s.stored.levels (draws_in s.sessions) committed → found ∷ [] ≡ map (range_state s) ranges
    → 0 < found.interval.buffer → found.next ≤ first → first + count ≤ found.interval.level + 1
    → IsStock (intervals_of ranges) s.stored.levels (draws_in s.sessions) committed (map (num_of found.interval) (range_with_len first count))
first_reserved s committed [] found first count drawn e buffer behind within = cc
first_reserved s committed (r ∷ ranges) found first count drawn e buffer behind within =
    let i : Interval = present s.stored.levels r.interval in
    let shown : found ≡ range_state s r = ap (first_shown found) e in
    let interval : found.interval ≡ i = ap (λ (x : RangeState). x.interval) shown ∙ shown_interval i (next_of r i) (holder_of s.sessions i) in
    let is : is_buffered r.interval ≡ true = lt-ltb 0 r.interval.buffer (subst (λ (x : Interval). 0 < x.buffer) interval buffer) in
    let next : found.next ≡ r.next =
    ap (λ (x : RangeState). x.next) shown ∙ shown_next i (next_of r i) (holder_of s.sessions i) ∙ ap (λ b. cond b r.next (i.level + 1)) is in
    subst (λ (x : Interval). IsStock (intervals_of (r ∷ ranges)) s.stored.levels (draws_in s.sessions) committed (map (num_of x) (range_with_len first count))) (sym interval)
    (run_is_stock (r ∷ ranges) s.stored.levels (draws_in s.sessions) committed r first count drawn (contains_first ranges r) is
    (subst (λ n. n ≤ first) next behind)
    (subst (λ (x : Interval). first + count ≤ x.level + 1) interval within))
