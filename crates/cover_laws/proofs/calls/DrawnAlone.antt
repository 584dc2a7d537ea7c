-- What numbers that are drawn, and levels that are raised, leave of a state.
use Rattle.std.proofs.Common.{◌≡◌, ℕ, true, false, [], ◌∷◌, refl}
use Rattle.std.specs.Prelude.{if◌then◌else◌, nat_le}
use Rattle.ledger_steps.specs.Drawn.{handed_out, num_of, stored_as}
use Rattle.ledger_steps.specs.Intervals.{with_intervals}
use Rattle.number_ranges.specs.Intervals.{block_level, is_buffered, with_level}
use Rattle.number_ranges.specs.declared.interval.Interval.{Interval}
use Rattle.update_records.specs.Ledger.{Ledger}
use Rattle.hall_model.specs.declared.command.Session.{Session}
use Rattle.hall_model.specs.Numbers.{drawn, raised_to}
use Rattle.hall_model.specs.Sessions.{with_draw, with_session}
use Rattle.hall_model.specs.State.{State}

-- a level that is raised leaves the start
pub raised_start : (i : Interval) (upto : ℕ) (ledger : Ledger) → (raised_to i upto ledger).start ≡ ledger.start
raised_start i upto ledger =
    let raised = with_intervals (stored_as (with_level (block_level i upto) i) ∷ []) ledger in
    elim (nat_le upto i.level) as (λ b. (if b then ledger else raised).start ≡ ledger.start) [
      | true ↦ refl
      | false ↦ refl
    ]

-- a number that is drawn leaves the locks
pub drawn_locks : (s : State) (x : Session) (i : Interval) (number : ℕ) → (drawn s x i number).locks ≡ s.locks
drawn_locks s x i number =
    let t : State = record s { sessions = with_session x.name (with_draw (num_of i number)) s.sessions } in
    let behind : State = record t { ranges = handed_out i t.ranges; stored = raised_to i number t.stored } in
    elim (is_buffered i) as (λ b. (if b then behind else t).locks ≡ s.locks) [
      | true ↦ refl
      | false ↦ refl
    ]
