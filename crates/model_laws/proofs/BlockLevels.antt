-- The level up to which whole blocks reach.
use Rattle.std.proofs.Common.{◌≡◌, ℕ, ◌-◌, ◌*◌, ◌≤◌, ◌<◌, true, false, List, refl, subst, arith, mul_comm}
use Rattle.std.specs.Prelude.{if◌then◌else◌, nat_le, nat_lt}
use Rattle.std.specs.Int.{div_ceil}
use Rattle.std.proofs.lemmas.Bool.Decides.{nat_tests}
use Rattle.std.proofs.lemmas.Grind.{div_ceil_times}
use Rattle.number_ranges.specs.Intervals.{block_level, is_buffered, level_with}
use Rattle.number_ranges.specs.declared.interval.Interval.{Interval}
use Rattle.ledger_steps.specs.Drawn.{AreDrawnRight}
use Rattle.ledger_steps.specs.declared.range.NumberRange.{NumberRange}
use Rattle.update_records.specs.Business.{numbers_of}
use Rattle.update_records.specs.Ledger.{Ledger}
use Rattle.hall_model.specs.Kept.{draws_in}
use Rattle.hall_model.specs.declared.command.Session.{Session}

-- the draws of these sessions are right over a ledger
abbrev pub AreRightIn : List NumberRange → List Session → Ledger → Type 0
AreRightIn ranges sessions ledger = AreDrawnRight ranges ledger.levels (draws_in sessions) (numbers_of ledger.units ledger.marks)

pub up_to : (m n : ℕ) → nat_le m n ≡ true → m ≤ n
up_to m n h = grind (arith, nat_tests)

above_zero : (n : ℕ) → nat_lt 0 n ≡ true → 0 < n
above_zero n h = grind (arith, nat_tests)

-- a level that is raised in blocks to a number reaches it, and doesn't pass the end
pub record IsBlock (i : Interval) (upto level : ℕ) : Type 0 where
  pub risen : i.level ≤ level
  pub within : level ≤ i.to
  pub reached : upto ≤ level

pub blocks : (i : Interval) (upto : ℕ) → is_buffered i ≡ true → i.level ≤ i.to → upto ≤ i.to → IsBlock i upto (block_level i upto)
blocks i upto is level within =
    let d = div_ceil (upto - i.level) i.buffer in
    elim (nat_le upto i.level) as (λ b. nat_le upto i.level ≡ b → IsBlock i upto (if b then i.level else level_with i d)) [
      | true ↦ λ e. record { risen = omega arith; within = level; reached = up_to upto i.level e }
      | false ↦ λ e.
          let reach : upto - i.level ≤ i.buffer * d = subst (λ n. upto - i.level ≤ n) (mul_comm d i.buffer)
          (div_ceil_times (upto - i.level) i.buffer (above_zero i.buffer is)).0 in
          record {
            risen = grind (arith, level, reach);
            within = grind (arith, level);
            reached = grind (arith, level, within, reach);
          }
    ] refl
