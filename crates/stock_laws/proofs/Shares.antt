-- Numbers of tickets that weren't handed over may be committed, and once they are handed over the commit leaves the lot.
use Rattle.std.proofs.Common.{◌≡◌, inl, inr, ℕ, zero, suc, ◌+◌, ◌<◌, ◌≤◌, true, false, cond, nat_eq, List, [], ◌∷◌, ◌++◌, map, Some, refl, sym, ap, subst, ◌∙◌, arith}
use Rattle.std.specs.Prelude.{Contains, IsSomeAnd, count_by}
use Rattle.std.specs.List.{AllByRecursion, find}
use Rattle.std.proofs.lemmas.Bool.{eqb-true}
use Rattle.std.proofs.lemmas.Bool.Decides.{nat_tests}
use Rattle.std.proofs.lemmas.List.Elements.{recursion_from_All}
use Rattle.enq_base.specs.declared.unit.Num.{Num}
use Rattle.enq_base.specs.declared.unit.Parts.{Parts}
use Rattle.module_effects.specs.Rows.{RowName}
use Rattle.number_ranges.specs.Intervals.{is_named}
use Rattle.number_ranges.specs.declared.interval.Interval.{Interval}
use Rattle.update_records.specs.Business.{numbers_of}
use Rattle.update_records.specs.Ledger.{Levels}
use Rattle.ledger_steps.specs.Drawn.{AreOfOne, IsReserved, IsUpToLevel, drawn_of, times, times_given}
use Rattle.ledger_steps.specs.Levels.{AreApart, intervals_of, name_of}
use Rattle.draw_laws.proofs.Counting.{bit, count_append, count_cons, counted_all}
use Rattle.draw_laws.proofs.IntervalNames.{contains_cases, contains_first, contains_more, contains_none, is_named_so, named_is, none_named}
use Rattle.draw_laws.proofs.OwnNumbers.{counts_in, one_of_these}
use Rattle.hall_model.specs.Calls.{Commits, OfSession}
use Rattle.hall_model.specs.Kept.{IsKept, draws_in}
use Rattle.hall_model.specs.State.{State}
use Rattle.hall_model.specs.Stocks.{IsStockIn}
use Rattle.stock_laws.proofs.Given.{none_given, times_none}
use Rattle.stock_laws.specs.Stocked.{AreGiven, HasLot, IsAmong, IsOfLots, IsShare, IsStocked, Lot, Respects, WasGiven, handing}

-- ---- numbers and their tickets

-- the ticket of a number
record IsTicketOf (base n : ℕ) (tickets : List ℕ) : Type 0 where
  ticket : ℕ
  number : n ≡ base + ticket
  among : IsAmong ticket tickets

same_test : (base t x : ℕ) → bit (nat_eq (base + t) (base + x)) ≡ bit (nat_eq t x)
same_test base t x = grind (arith, nat_tests)

-- a number stands there as often as its ticket
moved_times : (base t : ℕ) (tickets : List ℕ) → count_by (nat_eq (base + t)) (map (λ x. base + x) tickets) ≡ count_by (nat_eq t) tickets
moved_times base t [] = refl
moved_times base t (x ∷ tickets) =
    let whole = count_cons (nat_eq (base + t)) (base + x) (map (λ (y : ℕ). base + y) tickets) in
    let part = count_cons (nat_eq t) x tickets in
    let here = same_test base t x in
    let rest = moved_times base t tickets in
    omega (arith, whole, part, here, rest)

ticket_among : (base n : ℕ) (tickets : List ℕ) → 1 ≤ count_by (nat_eq n) (map (λ x. base + x) tickets) → IsTicketOf base n tickets
ticket_among base n [] some = absurd (omega (arith, some))
ticket_among base n (x ∷ tickets) some =
    let whole = count_cons (nat_eq n) (base + x) (map (λ (y : ℕ). base + y) tickets) in
    elim (nat_eq n (base + x)) as (λ b. nat_eq n (base + x) ≡ b → IsTicketOf base n (x ∷ tickets)) [
      | true ↦ λ e.
          let same : n ≡ base + x = eqb-true n (base + x) e in
          let here : bit (nat_eq x x) ≡ 1 = one_bit x in
          let part = count_cons (nat_eq x) x tickets in
          record { ticket = x; number = same; among = omega (arith, part, here) }
      | false ↦ λ e.
          let here : bit (nat_eq n (base + x)) ≡ 0 = ap bit e in
          let rest = ticket_among base n tickets (omega (arith, whole, here, some)) in
          let part = count_cons (nat_eq rest.ticket) x tickets in
          let some_there = rest.among in
          record { ticket = rest.ticket; number = rest.number; among = omega (arith, part, some_there) }
    ] refl
  where
    one_bit : (x : ℕ) → bit (nat_eq x x) ≡ 1
    one_bit x = grind (arith, nat_tests)

-- ---- the numbers of a share

module _ (b : Lot) (stock : List Num) (share : IsShare b stock) where
  counts : (n : ℕ) → times b.interval n stock ≡ count_by (nat_eq n) (map (λ t. b.base + t) share.tickets)
  counts n = ap (count_by (nat_eq n)) share.numbers

  ticket_of : (n : ℕ) → 1 ≤ times b.interval n stock → IsTicketOf b.base n share.tickets
  ticket_of n some = ticket_among b.base n share.tickets (subst (λ k. 1 ≤ k) (counts n) some)

  -- a number is there once
  once_of : (n : ℕ) → times b.interval n stock ≤ 1
  once_of n = at_most (times b.interval n stock) (λ some.
      let t = ticket_of n some in
      let same : times b.interval n stock ≡ count_by (nat_eq t.ticket) share.tickets =
      counts n ∙ ap (λ k. count_by (nat_eq k) (map (λ x. b.base + x) share.tickets)) t.number ∙ moved_times b.base t.ticket share.tickets in
      let few = share.distinct t.ticket in
      let whole = count_append (nat_eq t.ticket) b.handed share.tickets in
      omega (arith, same, few, whole))
    where
      at_most : (k : ℕ) → (1 ≤ k → k ≤ 1) → k ≤ 1
      at_most zero h = omega arith
      at_most (suc k) h = h (omega arith)

  below_of : (t : ℕ) → IsAmong t share.tickets → t < b.limit
  below_of t among = counted_all (λ x. x < b.limit) share.tickets (recursion_from_All (λ x. x < b.limit) share.tickets share.below) t among

  -- the number wasn't given before
  not_given : (t n : ℕ) → n ≡ b.base + t → IsAmong t share.tickets → WasGiven b n → ⊥
  not_given t n is among (inl low) = absurd (omega (arith, is, low))
  not_given t n is among (inr had) =
      let same : had.0 ≡ t = let other = had.1 in omega (arith, is, other) in
      let before : 1 ≤ count_by (nat_eq t) b.handed = subst (λ k. 1 ≤ count_by (nat_eq k) b.handed) same had.2 in
      let few = share.distinct t in
      let whole = count_append (nat_eq t) b.handed share.tickets in
      absurd (omega (arith, before, among, few, whole))

  -- with its tickets handed over it is given
  pub share_given : AreGiven (handing share.tickets b) stock
  share_given n some =
      let t = ticket_of n some in
      let whole = count_append (nat_eq t.ticket) b.handed share.tickets in
      let before = t.among in
      let there : 1 ≤ count_by (nat_eq t.ticket) (b.handed ++ share.tickets) = omega (arith, whole, before) in
      inr (t.ticket, t.number, there)

-- ---- all numbers of a stock

found_here : (intervals : List Interval) (i : Interval) (P : Interval → Type 0) → AreApart intervals → Contains intervals i → P i
    → IsSomeAnd (find (is_named i.object i.nr) intervals) P
found_here [] i P apart among h = absurd (contains_none i among)
found_here (x ∷ intervals) i P apart among h =
    elim (contains_cases x intervals i among) as (λ _. IsSomeAnd (find (is_named i.object i.nr) (x ∷ intervals)) P) [
      | inl e ↦
          subst (λ b. IsSomeAnd (cond b (Some x) (find (is_named i.object i.nr) intervals)) P) (sym (is_named_so i.object i.nr x (ap name_of e)))
          (subst P (sym e) h)
      | inr e ↦ elim (is_named i.object i.nr x)
          as (λ b. is_named i.object i.nr x ≡ b → IsSomeAnd (cond b (Some x) (find (is_named i.object i.nr) intervals)) P) [
            | true ↦ λ t. absurd (none_named x.object x.nr intervals i apart.0 e (sym (named_is i.object i.nr x t)))
            | false ↦ λ t. found_here intervals i P apart.1 e h
          ] refl
    ]

module _ (s : State) (stock : List Num) (apart : AreApart (intervals_of s.ranges)) (of_lots : IsOfLots s stock) where
  abbrev intervals : List Interval
  intervals = intervals_of s.ranges

  abbrev levels : Levels
  levels = s.stored.levels

  abbrev given : Interval → ℕ → ℕ
  given i n = times_given i (draws_in s.sessions) (numbers_of s.stored.units s.stored.marks) n

  some_drawn : (i : Interval) (n : ℕ) → 1 ≤ times i n stock → 1 ≤ drawn_of i stock
  some_drawn i n some = by_many (drawn_of i stock) refl
    where
      by_many : (k : ℕ) → drawn_of i stock ≡ k → 1 ≤ k
      by_many zero e = let none = times_none i n stock e in absurd (omega (arith, none, some))
      by_many (suc k) e = omega arith

  lot_of : (i : Interval) (n : ℕ) → Contains intervals i → 1 ≤ times i n stock → HasLot s stock i
  lot_of i n among some = of_lots.lots i among (some_drawn i n some)

  -- what is shown of a lot's numbers is shown of the interval's
  by_lot : (P : Interval → ℕ → Type 0) (i : Interval) (n : ℕ) → Contains intervals i
      → ((b : Lot) → IsStocked s b → IsShare b stock → 1 ≤ times b.interval n stock → P b.interval n) → 1 ≤ times i n stock → P i n
  by_lot P i n among h some =
      let own = lot_of i n among some in
      subst (λ j. P j n) own.own (h own.lot own.stocked own.share (subst (λ j. 1 ≤ times j n stock) (sym own.own) some))

  up_to_level : (b : Lot) (n : ℕ) → IsStocked s b → IsShare b stock → 1 ≤ times b.interval n stock → IsUpToLevel levels n b.interval
  up_to_level b n h share some =
      let t = ticket_of b stock share n some in
      let is = t.number in
      let low = below_of b stock share t.ticket t.among in
      let first = h.first in
      let level = h.level in
      record { buffered = h.buffered; first = omega (arith, is, first); last = omega (arith, is, low, level) }

  fresh_number : (b : Lot) (n : ℕ) → IsStocked s b → IsShare b stock → 1 ≤ times b.interval n stock → given b.interval n ≡ 0
  fresh_number b n h share some =
      let t = ticket_of b stock share n some in
      let none = none_given b.interval n s.sessions h.undrawn in
      let nothing = none_if (times b.interval n (numbers_of s.stored.units s.stored.marks))
      (λ there. not_given b stock share t.ticket n t.number t.among (h.committed n there)) in
      omega (arith, none, nothing)
    where
      none_if : (k : ℕ) → (1 ≤ k → ⊥) → k ≡ 0
      none_if zero shut = refl
      none_if (suc k) shut = absurd (shut (omega arith))

  reserved_of : (some : List Num) → ((num : Num) → Contains some num → Contains stock num) → AreOfOne intervals some
      → AllByRecursion (IsReserved intervals levels) some
  reserved_of [] inside known = tt
  reserved_of (num ∷ some) inside known =
      let own = one_of_these intervals num known.0 in
      let is : IsUpToLevel levels num.number own.one =
      by_lot (λ i n. IsUpToLevel levels n i) own.one num.number own.among (λ b. up_to_level b num.number)
      (counts_in (name_of own.one) num stock (inside num (contains_first some num)) (sym own.name)) in (
        subst (λ (name : RowName). IsSomeAnd (find (is_named name.0 name.1) intervals) (IsUpToLevel levels num.number)) own.name
            (found_here intervals own.one (IsUpToLevel levels num.number) apart own.among is),
        reserved_of some (λ other there. inside other (contains_more some num other there)) known.1,
      )

  once_in : (i : Interval) → Contains intervals i → (n : ℕ) → times i n stock ≤ 1
  once_in i among n = at_most (times i n stock) (by_lot (λ j k. times j k stock ≤ 1) i n among (λ b h share some. once_of b stock share n))
    where
      at_most : (k : ℕ) → (1 ≤ k → k ≤ 1) → k ≤ 1
      at_most zero h = omega arith
      at_most (suc k) h = h (omega arith)

  stock_in : IsStockIn s stock
  stock_in = record {
    reserved = reserved_of stock (λ num there. there) of_lots.known;
    once = once_in;
    fresh = λ i among n. by_lot (λ j k. given j k ≡ 0) i n among (λ b. fresh_number b n);
  }

pub stock_may : (s : State) (stock : List Num) → IsKept s → IsOfLots s stock → IsStockIn s stock
stock_may s stock kept of_lots = stock_in s stock kept.steady.drawn.intervals.apart of_lots

pub share_respects : (b : Lot) (stock : List Num) (share : IsShare b stock) (session : List ℕ) (parts : Parts)
    → Respects (handing share.tickets b) (OfSession session (Commits parts stock))
share_respects b stock share session parts = share_given b stock share

pub none_respects : (b : Lot) (stock : List Num) (session : List ℕ) (parts : Parts) → drawn_of b.interval stock ≡ 0
    → Respects b (OfSession session (Commits parts stock))
none_respects b stock session parts none = λ n some. absurd (let nothing = times_none b.interval n stock none in omega (arith, nothing, some))
