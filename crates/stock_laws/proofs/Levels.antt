-- What becomes of the level of an interval with a buffer.
use Rattle.std.proofs.Common.{◌≡◌, ℕ, ◌-◌, ◌≤◌, Bool, true, false, cond, not, ◌&&◌, List, [], ◌∷◌, Some, le_refl, refl, sym, ap, subst, ◌∙◌}
use Rattle.std.specs.Prelude.{Contains, if◌then◌else◌, nat_le}
use Rattle.std.specs.FinMap.{get}
use Rattle.std.specs.Option.{option_map_or}
use Rattle.enq_base.specs.declared.unit.Num.{Num}
use Rattle.number_ranges.specs.Intervals.{block_level, is_buffered, level_with, with_level}
use Rattle.number_ranges.specs.declared.interval.Interval.{Interval}
use Rattle.std.specs.Int.{div_ceil}
use Rattle.update_records.specs.Intervals.{level_of}
use Rattle.update_records.specs.Ledger.{Ledger, Levels}
use Rattle.update_records.specs.RecordRows.{Level}
use Rattle.update_records.specs.declared.stored.StoredInterval.{StoredInterval}
use Rattle.ledger_steps.specs.Drawn.{has_drawn, settled_rows, stored_as}
use Rattle.ledger_steps.specs.Intervals.{with_intervals, with_levels}
use Rattle.ledger_steps.specs.Levels.{AreApart, AreIntervals, FitLevels, intervals_of, level_in, name_of, present}
use Rattle.ledger_steps.specs.declared.range.NumberRange.{NumberRange}
use Rattle.draw_laws.proofs.Drawing.{by_name}
use Rattle.draw_laws.proofs.FittingLevels.{found_level, level_fits}
use Rattle.draw_laws.proofs.IntervalNames.{one_interval}
use Rattle.draw_laws.proofs.SettledRows.{insert_other, insert_own, own_level, row_for}
use Rattle.model_laws.proofs.BlockLevels.{IsBlock, blocks}
use Rattle.hall_model.specs.Numbers.{raised_to}

-- an interval whose row is the same has the same level
same_level : (old new : Levels) (i : Interval) → get new (name_of i) ≡ get old (name_of i) → level_in new i ≡ level_in old i
same_level old new i same = ap (λ o. option_map_or (λ (l : Level). l.level) o i.level) same

-- numbers that are recorded leave it
pub settled_level : (levels : Levels) (ranges : List NumberRange) (nums : List Num) (i : Interval) → AreApart (intervals_of ranges)
    → Contains (intervals_of ranges) i → is_buffered i ≡ true → level_in (with_levels (settled_rows levels ranges nums) levels) i ≡ level_in levels i
settled_level levels ranges nums i apart among is =
    same_level levels (with_levels (settled_rows levels ranges nums) levels) i
    (own_level levels levels nums i (intervals_of ranges) apart among
    ∙ ap (λ b. cond b (Some (level_of (row_for levels nums i))) (get levels (name_of i))) (ap (λ b. not b && has_drawn i nums) is))

module _ (ranges : List NumberRange) (ledger : Ledger) (i : Interval) (upto : ℕ) (intervals : AreIntervals (intervals_of ranges))
    (fit : FitLevels (intervals_of ranges) ledger.levels) (among : Contains (intervals_of ranges) i) (is : is_buffered i ≡ true) (within : upto ≤ i.to) where
  abbrev now : Interval
  now = present ledger.levels i

  abbrev level : ℕ
  level = block_level now upto

  abbrev row : StoredInterval
  row = stored_as (with_level level i)

  abbrev over : Levels
  over = with_levels (row ∷ []) ledger.levels

  abbrev behind : Bool → Ledger
  behind b = if b then ledger else with_intervals (row ∷ []) ledger

  block : IsBlock now upto level
  block = blocks now upto is (level_fits (intervals_of ranges) ledger.levels i intervals fit among) within

  own_over : level_in over i ≡ level
  own_over = found_level over i (Some (level_of row)) (insert_own row ledger.levels (name_of i) refl)

  -- no level falls
  risen_over : (j : Interval) → Contains (intervals_of ranges) j → level_in ledger.levels j ≤ level_in over j
  risen_over j there = by_name (name_of i) (name_of j)
      (λ same. subst (λ x. level_in ledger.levels x ≤ level_in over x) (one_interval (intervals_of ranges) i j intervals.apart among there same)
      (subst (λ n. level_in ledger.levels i ≤ n) (sym own_over) block.risen))
      (λ apart. subst (λ n. level_in ledger.levels j ≤ n)
      (sym (same_level ledger.levels over j (insert_other row ledger.levels (name_of j) (λ same. apart (sym same))))) (le_refl (level_in ledger.levels j)))

  pub raised_risen : (j : Interval) → Contains (intervals_of ranges) j → level_in ledger.levels j ≤ level_in (raised_to now upto ledger).levels j
  raised_risen j there = elim (nat_le upto now.level) as (λ b. level_in ledger.levels j ≤ level_in (behind b).levels j) [
    | true ↦ le_refl (level_in ledger.levels j)
    | false ↦ risen_over j there
  ]

  -- the interval's own is the one that was told, which reaches the number
  pub raised_own : level_in (raised_to now upto ledger).levels i ≡ level
  raised_own =
      elim (nat_le upto now.level) as (λ b. nat_le upto now.level ≡ b → level_in (behind b).levels i ≡ level) [
        | true ↦ λ e. sym (ap (λ b. if b then now.level else level_with now (div_ceil (upto - now.level) now.buffer)) e)
        | false ↦ λ e. own_over
      ] refl

  pub raised_reached : upto ≤ level
  raised_reached = block.reached
