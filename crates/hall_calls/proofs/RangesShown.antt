-- What the monitor of number ranges shows are ranges.
use Rattle.std.proofs.Common.{◌≡◌, ℕ, ◌+◌, ◌≤◌, true, false, cond, List, [], ◌∷◌, Option, Some, None, refl, sym, ap, ◌∙◌, subst, arith}
use Rattle.std.specs.Prelude.{if◌then◌else◌}
use Rattle.std.specs.List.{AllByRecursion, find}
use Rattle.std.proofs.lemmas.Bool.Decides.{nat_tests}
use Rattle.enq_base.specs.declared.unit.Num.{Num}
use Rattle.number_ranges.specs.Draws.{IsRange}
use Rattle.number_ranges.specs.Intervals.{IsInterval, is_buffered}
use Rattle.number_ranges.specs.declared.interval.Interval.{Interval}
use Rattle.draw_laws.proofs.OwnNumbers.{some_drawn}
use Rattle.ledger_steps.specs.Drawn.{IsDrawnAs, IsDrawnBuffered, IsDrawnPlain, IsDrawnRight, IsRun, drawn_of}
use Rattle.ledger_steps.specs.Levels.{present}
use Rattle.ledger_steps.specs.declared.range.NumberRange.{NumberRange}
use Rattle.update_records.specs.Ledger.{Levels}
use Rattle.hall_model.specs.Kept.{draws_in}
use Rattle.hall_model.specs.Numbers.{holder_of, holds, next_of, range_shown, shown_range}
use Rattle.hall_model.specs.declared.command.Session.{Session}

no_buffer : (i : Interval) → is_buffered i ≡ false → i.buffer ≡ 0
no_buffer i h = grind (arith, nat_tests)

-- the session that is found holds the interval, and has a run of its numbers
record IsHolder (i : Interval) (x : Session) : Type 0 where
  some : 1 ≤ drawn_of i x.draws
  run : IsRun i x.draws

holder_is : (i : Interval) (xs : List Session) (x : Session) → find (holds i) xs ≡ Some x → AllByRecursion (IsRun i) (draws_in xs) → IsHolder i x
holder_is i [] x h runs = cc
holder_is i (y ∷ ys) x h runs =
    elim (holds i y) as (λ b. holds i y ≡ b → cond b (Some y) (find (holds i) ys) ≡ Some x → IsHolder i x) [
      | true ↦ λ e is. let same : y ≡ x = cc in subst (IsHolder i) same (record { some = some_drawn i y.draws e; run = runs.0 })
      | false ↦ λ e is. holder_is i ys x is runs.1
    ] refl h

-- an interval without a buffer, by the session that is found
plain_good : (i : Interval) (xs : List Session) (o : Option Session) → find (holds i) xs ≡ o → is_buffered i ≡ false → IsInterval i
    → IsDrawnPlain i (draws_in xs) → IsRange (shown_range i (i.level + 1) o)
plain_good i xs None h plain is d =
    let begun = is.begun in
    let within = is.within in
    record { interval = is; free = refl; held = tt; fits = omega (arith, within); low = begun; high = omega (arith, within) }
plain_good i xs (Some x) h plain is d =
    let begun = is.begun in
    let within = is.within in
    let holder = holder_is i xs x h d.runs in
    record { interval = is; free = tt; held = (no_buffer i plain, holder.some); fits = holder.run.within; low = begun; high = omega (arith, within) }

buffered_good : (i : Interval) (next : ℕ) (draws : List (List Num)) (committed : List Num) → IsInterval i
    → IsDrawnBuffered i next draws committed → IsRange (shown_range i next None)
buffered_good i next draws committed is d =
    let within = is.within in
    let low = d.low in
    let high = d.high in
    record { interval = is; free = refl; held = tt; fits = omega (arith, within); low = low; high = omega (arith, within, high) }

-- what is shown of a range whose numbers are drawn right
pub range_good : (sessions : List Session) (levels : Levels) (committed : List Num) (r : NumberRange) → IsInterval (present levels r.interval)
    → IsDrawnRight levels (draws_in sessions) committed r → IsRange (range_shown sessions levels r)
range_good sessions levels committed r is d =
    let i = present levels r.interval in
    elim (is_buffered i) as (λ b. is_buffered i ≡ b → IsDrawnAs b i r.next (draws_in sessions) committed
    → IsRange (shown_range i (if b then r.next else i.level + 1) (if b then None else find (holds i) sessions))) [
      | true ↦ λ e k. buffered_good i r.next (draws_in sessions) committed is k
      | false ↦ λ e k. plain_good i sessions (find (holds i) sessions) refl e is k
    ] refl d

-- what is made of the parts of a range
pub shown_by : (sessions : List Session) (levels : Levels) (r : NumberRange) (i : Interval) (next : ℕ) (o : Option Session) → i ≡ present levels r.interval
    → next ≡ next_of r i → o ≡ holder_of sessions i → shown_range i next o ≡ range_shown sessions levels r
shown_by sessions levels r i next o is behind held =
    ap (λ n. shown_range i n o) behind
    ∙ ap (shown_range i (next_of r i)) held
    ∙ ap (λ j. shown_range j (next_of r j) (holder_of sessions j)) is

-- an interval without a buffer belongs to the session that holds it
pub plain_holder : (sessions : List Session) (i : Interval) → i.buffer ≤ 0 → find (holds i) sessions ≡ holder_of sessions i
plain_holder sessions i none =
    let plain : is_buffered i ≡ false = grind (arith, nat_tests, none) in
    sym (ap (λ b. if b then None else find (holds i) sessions) plain)
