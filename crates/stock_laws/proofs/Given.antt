-- Which numbers were given out, and what sessions have drawn by the hall.
use Rattle.std.proofs.Common.{◌≡◌, ◌⊎◌, inl, inr, ℕ, zero, suc, ◌+◌, ◌≤◌, true, false, cond, nat_eq, List, [], ◌∷◌, ◌++◌, refl, sym, ap, subst, arith}
use Rattle.std.specs.Prelude.{Option, Some, None, count_by, if◌then◌else◌, sum_by}
use Rattle.std.specs.List.{AllByRecursion}
use Rattle.std.proofs.lemmas.List.Sums.{sum_by-cons}
use Rattle.enq_base.specs.declared.unit.Num.{Num}
use Rattle.number_ranges.specs.declared.interval.Interval.{Interval}
use Rattle.update_records.specs.Business.{numbers_of}
use Rattle.update_records.specs.Ledger.{Ledger}
use Rattle.ledger_steps.specs.Drawn.{drawn_of, times}
use Rattle.ledger_steps.specs.Levels.{level_in}
use Rattle.draw_laws.proofs.Counting.{count_append}
use Rattle.draw_laws.proofs.OwnNumbers.{empty_from, times_append}
use Rattle.model_laws.proofs.FoundSessions.{found_in}
use Rattle.hall_model.specs.Kept.{draws_in}
use Rattle.hall_model.specs.OpenUnits.{OfInFlight}
use Rattle.hall_model.specs.Sessions.{bereft, bereft_if, is_called, loses, session_at, with_session}
use Rattle.hall_model.specs.State.{State}
use Rattle.hall_model.specs.declared.command.Session.{Session}
use Rattle.stock_laws.specs.Stocked.{AreGiven, GoesOn, HasNone, IsAmong, IsStocked, Lot, WasGiven, handing, limited}

-- ---- what sessions have drawn

pub times_none : (i : Interval) (n : ℕ) (nums : List Num) → drawn_of i nums ≡ 0 → times i n nums ≡ 0
times_none i n nums none = ap (count_by (nat_eq n)) (empty_from i nums none)

pub none_given : (i : Interval) (n : ℕ) (xs : List Session) → AllByRecursion (HasNone i) xs → sum_by (times i n) (draws_in xs) ≡ 0
none_given i n [] h = refl
none_given i n (x ∷ xs) h =
    let whole = sum_by-cons (times i n) x.draws (draws_in xs) in
    let here = times_none i n x.draws h.0 in
    let rest = none_given i n xs h.1 in
    omega (arith, whole, here, rest)

pub found_none : (i : Interval) (name : List ℕ) (xs : List Session) (x : Session) → session_at xs name ≡ Some x → AllByRecursion (HasNone i) xs → HasNone i x
found_none i name xs x at h = found_in (HasNone i) (is_called name) xs x at h

pub every_with : (P : Session → Type 0) (name : List ℕ) (change : Session → Session) (xs : List Session) → ((x : Session) → P x → P (change x))
    → AllByRecursion P xs → AllByRecursion P (with_session name change xs)
every_with P name change [] keeps h = tt
every_with P name change (x ∷ xs) keeps h =
    elim (is_called name x) as (λ b. AllByRecursion P (cond b (change x ∷ xs) (x ∷ with_session name change xs))) [
      | true ↦ (keeps x h.0, h.1)
      | false ↦ (h.0, every_with P name change xs keeps h.1)
    ]

pub bereft_none : (i : Interval) (caller : Option (List ℕ)) (x : Session) → HasNone i x → HasNone i (bereft_if caller x)
bereft_none i caller x h = elim (loses caller x) as (λ b. HasNone i (if b then bereft x else x)) [ true ↦ refl | false ↦ h ]

-- ---- numbers that were given out

pub one_of_two : (a b : ℕ) → 1 ≤ a + b → (1 ≤ a) ⊎ (1 ≤ b)
one_of_two zero b some = inr (omega (arith, some))
one_of_two (suc a) b some = inl (omega arith)

-- a commit of what a session has drawn, which is none of the interval's, and of numbers of tickets that were handed over
pub commit_given : (b : Lot) (old draws stock : List Num) → AreGiven b old → drawn_of b.interval draws ≡ 0 → AreGiven b stock
    → AreGiven b (old ++ (draws ++ stock))
commit_given b old draws stock before none more n some =
    let whole = times_append b.interval n old (draws ++ stock) in
    let part = times_append b.interval n draws stock in
    let nothing = times_none b.interval n draws none in
    elim (one_of_two (times b.interval n old) (times b.interval n stock) (omega (arith, whole, part, nothing, some))) as (λ _. WasGiven b n) [
      | inl e ↦ before n e
      | inr e ↦ more n e
    ]

abbrev IsMore : Lot → List ℕ → Type 0
IsMore b handed = (ticket : ℕ) → IsAmong ticket b.handed → IsAmong ticket handed

given_more : (b : Lot) (handed : List ℕ) (n : ℕ) → IsMore b handed → WasGiven b n → WasGiven (record b { handed = handed }) n
given_more b handed n more (inl e) = inl e
given_more b handed n more (inr t) = inr (t.0, t.1, more t.0 t.2)

pub all_more : (b : Lot) (handed : List ℕ) (nums : List Num) → IsMore b handed → AreGiven b nums → AreGiven (record b { handed = handed }) nums
all_more b handed nums more h n some = given_more b handed n more (h n some)

-- ---- a change in flight

pub flying_more : (o : Option Ledger) (Q R : Ledger → Type 0) → ((ledger : Ledger) → Q ledger → R ledger) → OfInFlight o Q → OfInFlight o R
flying_more None Q R more h = tt
flying_more (Some ledger) Q R more h = more ledger h

pub none_flies : (o : Option Ledger) (Q : Ledger → Type 0) → o ≡ None → OfInFlight o Q
none_flies o Q none = subst (λ p. OfInFlight p Q) (sym none) tt

-- ---- other lots

pub lot_more : (s : State) (b : Lot) (handed : List ℕ) → IsStocked s b → IsMore b handed → IsStocked s (record b { handed = handed })
lot_more s b handed h more = record {
  one = h.one;
  buffered = h.buffered;
  first = h.first;
  level = h.level;
  committed = all_more b handed (numbers_of s.stored.units s.stored.marks) more h.committed;
  flight_goes = flying_more s.in_flight (GoesOn b s.stored.levels) (GoesOn (record b { handed = handed }) s.stored.levels)
      (λ ledger g. record { risen = g.risen; given = all_more b handed (numbers_of ledger.units ledger.marks) more g.given }) h.flight_goes;
  undrawn = h.undrawn;
}

pub among_more : (t : ℕ) (xs ys : List ℕ) → IsAmong t xs → IsAmong t (xs ++ ys)
among_more t xs ys h = let whole = count_append (nat_eq t) xs ys in omega (arith, whole, h)

pub lot_handing : (s : State) (b : Lot) (tickets : List ℕ) → IsStocked s b → IsStocked s (handing tickets b)
lot_handing s b tickets h = lot_more s b (b.handed ++ tickets) h (λ t. among_more t b.handed tickets)

-- how many tickets may be answered says nothing of those that were
pub lot_limited : (s : State) (b : Lot) (limit : ℕ) → IsStocked s b → b.base + limit ≤ level_in s.stored.levels b.interval + 1 → IsStocked s (limited limit b)
lot_limited s b limit h reserved = record {
  one = h.one;
  buffered = h.buffered;
  first = h.first;
  level = reserved;
  committed = h.committed;
  flight_goes = flying_more s.in_flight (GoesOn b s.stored.levels) (GoesOn (limited limit b) s.stored.levels)
      (λ ledger g. record { risen = g.risen; given = g.given }) h.flight_goes;
  undrawn = h.undrawn;
}
