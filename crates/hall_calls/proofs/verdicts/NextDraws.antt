-- What is drawn or reserved next lies within its interval, and its level may be stored.
use Rattle.std.proofs.Common.{◌≡◌, ℕ, ◌+◌, ◌-◌, ◌≤◌, ◌<◌, ◌^◌, Bool, true, false, List, [], ◌∷◌, refl, sym, ap, ◌∙◌, subst, arith}
use Rattle.std.specs.Prelude.{Contains, ◌&&◌, IfSome, Option, Some, nat_le, nat_lt, if◌then◌else◌}
use Rattle.std.specs.Int.{div_ceil}
use Rattle.std.specs.Option.{option_map_or}
use Rattle.std.proofs.lemmas.Bool.Decides.{nat_tests}
use Rattle.enq_base.specs.declared.unit.Num.{Num}
use Rattle.number_ranges.specs.Intervals.{IsInterval, block_level, is_buffered, level_with, with_level}
use Rattle.number_ranges.specs.declared.interval.Interval.{Interval}
use Rattle.ledger_steps.specs.Intervals.{MayStore}
use Rattle.draw_laws.proofs.Drawing.{interval_among, range_found}
use Rattle.draw_laws.proofs.PresentLevels.{drawn_at, present_is}
use Rattle.draw_laws.proofs.StoredDraws.{may_raise}
use Rattle.ledger_steps.specs.Drawn.{IsDrawnAs, drawn_of, stored_as}
use Rattle.ledger_steps.specs.Levels.{intervals_of, present, range_at}
use Rattle.ledger_steps.specs.declared.range.NumberRange.{NumberRange}
use Rattle.update_records.specs.Business.{numbers_of}
use Rattle.update_records.specs.Ledger.{Ledger, Levels}
use Rattle.hall_model.specs.Calls.{Draws, Reserves}
use Rattle.hall_model.specs.Devices.{raises_level}
use Rattle.hall_model.specs.Kept.{draws_in}
use Rattle.hall_model.specs.Numbers.{IsNextDraw, IsNextReserve, level_for}
use Rattle.hall_model.specs.State.{State}
use Rattle.hall_model.specs.declared.command.Session.{Session}
use Rattle.model_laws.proofs.BlockLevels.{AreRightIn, blocks}

not_past : (m n : ℕ) → nat_lt m n ≡ false → n ≤ m
not_past m n h = grind (arith, nat_tests)

module _ (sessions : List Session) (ranges : List NumberRange) (ledger : Ledger) (h : AreRightIn ranges sessions ledger) where
  abbrev committed : List Num
  committed = numbers_of ledger.units ledger.marks

  abbrev here : Interval → Interval
  here = present ledger.levels

  -- the level of an interval with a buffer may be raised to reach a number
  raised_stored : (r : NumberRange) (upto : ℕ) → Contains ranges r → is_buffered r.interval ≡ true → upto ≤ r.interval.to
      → MayStore ledger (stored_as (with_level (block_level (here r.interval) upto) (here r.interval)) ∷ []) []
  raised_stored r upto among buffered within =
      let is = present_is ranges ledger.levels (draws_in sessions) committed h r among in
      let block = blocks (here r.interval) upto buffered is.within within in
      may_raise ledger (intervals_of ranges) r.interval (block_level (here r.interval) upto) h.intervals h.fit
      (interval_among ranges r among) buffered block.risen block.within

  -- the row of a level that reserves a number, of an interval with a buffer
  stored_for : (r : NumberRange) (i : Interval) (upto level : ℕ) → Contains ranges r → i ≡ here r.interval → is_buffered i ≡ true → upto ≤ i.to
      → level ≡ level_for i upto → MayStore ledger (stored_as (with_level level i) ∷ []) []
  stored_for r i upto level among is buffered within reserved =
      let at : level ≡ block_level i upto = reserved ∙ ap (λ b. if b then block_level i upto else i.level) buffered in
      subst (λ n. MayStore ledger (stored_as (with_level n i) ∷ []) []) (sym at)
      (subst (λ j. MayStore ledger (stored_as (with_level (block_level j upto) j) ∷ []) []) (sym is)
      (raised_stored r upto among (ap is_buffered (sym is) ∙ buffered) (subst (λ (j : Interval). upto ≤ j.to) is within)))

  module _ (name object nr : List ℕ) (i : Interval) (number level : ℕ) (draws : List Num)
      (d : IsNextDraw sessions ranges ledger.levels name object nr i number level draws) where
    among_them : Contains ranges d.range
    among_them = (range_found ranges object nr d.range d.chosen).among

    pub next_is : IsInterval i
    next_is = subst IsInterval (sym d.interval) (present_is ranges ledger.levels (draws_in sessions) committed h d.range among_them)

    pub next_high : number ≤ i.to
    next_high = not_past i.to number d.within

    drawn_here : IsDrawnAs (is_buffered i) i d.range.next (draws_in sessions) committed
    drawn_here = subst (λ j. IsDrawnAs (is_buffered j) j d.range.next (draws_in sessions) committed) (sym d.interval)
        (drawn_at ranges ledger.levels (draws_in sessions) committed h d.range among_them)

    -- what memory hands out next stands at most behind the end
    next_bound : (b : Bool) → IsDrawnAs b i d.range.next (draws_in sessions) committed → b ≡ true → (i.from ≤ d.range.next) × (d.range.next ≤ i.level + 1)
    next_bound true k e = (k.low, k.high)
    next_bound false k e = cc

    pub next_low : i.from ≤ number
    next_low =
        let begun = next_is.begun in
        elim (is_buffered i) as (λ b. is_buffered i ≡ b → i.from ≤ number) [
          | true ↦ λ e.
              let same : number ≡ d.range.next = d.next ∙ ap (λ b. if b then d.range.next else i.level + drawn_of i d.session.draws + 1) e in
              let low = (next_bound (is_buffered i) drawn_here e).0 in
              subst (λ n. i.from ≤ n) (sym same) low
          | false ↦ λ e.
              let same : number ≡ i.level + drawn_of i d.session.draws + 1 =
              d.next ∙ ap (λ b. if b then d.range.next else i.level + drawn_of i d.session.draws + 1) e in
              omega (arith, same, begun)
        ] refl

    pub next_room : is_buffered i ≡ true → IfSome (range_at ranges object nr) (λ r. r.next + 1 < 2 ^ 64)
    next_room buffered =
        let high = (next_bound (is_buffered i) drawn_here buffered).1 in
        let within = next_is.within in
        let most = next_is.high in
        let small : d.range.next + 1 < 2 ^ 64 = omega (arith, high, within, most) in
        subst (λ o. IfSome o (λ r. r.next + 1 < 2 ^ 64)) (sym d.chosen) small

    pub next_stored : is_buffered i ≡ true → MayStore ledger (stored_as (with_level level i) ∷ []) []
    next_stored buffered = stored_for d.range i number level among_them d.interval buffered next_high d.reserved

  module _ (name object nr : List ℕ) (upto : ℕ) (i : Interval) (level : ℕ) (d : IsNextReserve sessions ranges ledger.levels name object nr upto i level) where
    reserve_among : Contains ranges d.range
    reserve_among = (range_found ranges object nr d.range d.chosen).among

    pub reserve_is : IsInterval i
    reserve_is = subst IsInterval (sym d.interval) (present_is ranges ledger.levels (draws_in sessions) committed h d.range reserve_among)

    pub reserve_high : upto ≤ i.to
    reserve_high = not_past i.to upto d.within

    pub reserve_stored : MayStore ledger (stored_as (with_level level i) ∷ []) []
    reserve_stored = stored_for d.range i upto level reserve_among d.interval d.buffered reserve_high d.reserved

  -- an interval that was found, with its present level
  pub found_is : (object nr : List ℕ) (r : NumberRange) → range_at ranges object nr ≡ Some r → IsInterval (here r.interval)
  found_is object nr r chosen = present_is ranges ledger.levels (draws_in sessions) committed h r (range_found ranges object nr r chosen).among

-- ---- a draw or a reservation that raises no level

up_to : (m n : ℕ) → nat_lt m n ≡ false → nat_le n m ≡ true
up_to m n h = grind (arith, nat_tests)

-- where a number isn't past the level, the level that reserves it is the present one
reserved_already : (i : Interval) (number level : ℕ) → is_buffered i ≡ true → level ≡ level_for i number → nat_lt i.level number ≡ false → level ≡ i.level
reserved_already i number level buffered reserved still =
    reserved
    ∙ ap (λ b. if b then block_level i number else i.level) buffered
    ∙ ap (λ b. if b then i.level else level_with i (div_ceil (number - i.level) i.buffer)) (up_to i.level number still)

pub draw_still : (sessions : List Session) (ranges : List NumberRange) (ledger : Ledger) (name object nr : List ℕ) (i : Interval) (number level : ℕ)
    (draws : List Num) → IsNextDraw sessions ranges ledger.levels name object nr i number level draws
    → is_buffered i ≡ true → (s : State) → s.ranges ≡ ranges → s.stored ≡ ledger → raises_level s (Draws object nr) ≡ false → level ≡ i.level
draw_still sessions ranges ledger name object nr i number level draws d buffered s e l off =
    let test : Levels → Option NumberRange → Bool = λ levels o. option_map_or
    (λ (r : NumberRange). is_buffered r.interval && nat_lt (present levels r.interval).level r.next) o false in
    let found : range_at s.ranges object nr ≡ Some d.range = ap (λ rs. range_at rs object nr) e ∙ d.chosen in
    let here : test ledger.levels (Some d.range) ≡ false = sym (λ k. let m : Ledger = l k in test m.levels (found k)) ∙ off in
    let both : (is_buffered i && nat_lt i.level d.range.next) ≡ false = subst (λ (j : Interval). (is_buffered j && nat_lt j.level d.range.next) ≡ false)
    (sym d.interval) here in
    let past : nat_lt i.level d.range.next ≡ false = subst (λ b. (b && nat_lt i.level d.range.next) ≡ false) buffered both in
    let same : number ≡ d.range.next = d.next ∙ ap (λ b. if b then d.range.next else i.level + drawn_of i d.session.draws + 1) buffered in
    reserved_already i number level buffered d.reserved (ap (nat_lt i.level) same ∙ past)

pub reserve_still : (sessions : List Session) (ranges : List NumberRange) (ledger : Ledger) (name object nr : List ℕ) (upto : ℕ) (i : Interval) (level : ℕ)
    → IsNextReserve sessions ranges ledger.levels name object nr upto i level
    → (s : State) → s.ranges ≡ ranges → s.stored ≡ ledger → raises_level s (Reserves object nr upto) ≡ false → level ≡ i.level
reserve_still sessions ranges ledger name object nr upto i level d s e l off =
    let test : Levels → Option NumberRange → Bool = λ levels o. option_map_or (λ (r : NumberRange). nat_lt (present levels r.interval).level upto) o false in
    let found : range_at s.ranges object nr ≡ Some d.range = ap (λ rs. range_at rs object nr) e ∙ d.chosen in
    let here : test ledger.levels (Some d.range) ≡ false = sym (λ k. let m : Ledger = l k in test m.levels (found k)) ∙ off in
    reserved_already i upto level d.buffered d.reserved (subst (λ (j : Interval). nat_lt j.level upto ≡ false) (sym d.interval) here)
