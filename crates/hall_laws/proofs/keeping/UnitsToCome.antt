-- Of the units that are yet to come nothing is recorded, whatever the sessions do.
use Rattle.std.proofs.Common.{◌≡◌, ℕ, ◌+◌, ◌<◌, Bool, true, false, cond, ◌&&◌, List, [], ◌∷◌, ◌++◌, refl, sym, ap, ◌∙◌, subst, arith}
use Rattle.std.specs.Prelude.{nat_eq, Some, None}
use Rattle.std.specs.List.{AllByRecursion, filter, find}
use Rattle.std.proofs.lemmas.Bool.Decides.{nat_tests}
use Rattle.enq_base.specs.Owners.{same_unit}
use Rattle.enq_base.specs.declared.owner.UnitKey.{UnitKey}
use Rattle.enq_base.specs.declared.unit.Status.{Status}
use Rattle.update_records.specs.Growing.{with_mark, with_unit}
use Rattle.update_records.specs.Ledger.{Ledger}
use Rattle.update_records.specs.declared.records.MarkKind.{MarkKind}
use Rattle.update_records.specs.declared.records.Unit.{Unit as UnitOfWork}
use Rattle.hall_model.specs.declared.command.Session.{Session}
use Rattle.model_laws.proofs.OtherStatuses.{marked_unheard, recorded_other, status_in}
use Rattle.hall_model.specs.Kept.{AreNumbered, HasFreshKeys, IsAhead}
use Rattle.hall_model.specs.Sessions.{is_called, unit_key, with_next_unit, with_session}
use Rattle.hall_model.specs.State.{State}
use Rattle.model_laws.proofs.FoundSessions.{equal_session, found_in}

abbrev pub IsBelow : ℕ → Session → Type 0
IsBelow n y = n < y.number

pub all_filter : (Q : Session → Type 0) (p : Session → Bool) (xs : List Session) → AllByRecursion Q xs → AllByRecursion Q (filter p xs)
all_filter Q p [] k = tt
all_filter Q p (x ∷ xs) k =
    elim (p x) as (λ b. AllByRecursion Q (cond b (x ∷ filter p xs) (filter p xs))) [ true ↦ (k.0, all_filter Q p xs k.1) | false ↦ all_filter Q p xs k.1 ]

pub all_push : (Q : Session → Type 0) (xs : List Session) (y : Session) → AllByRecursion Q xs → Q y → AllByRecursion Q (xs ++ y ∷ [])
all_push Q [] y k h = (h, tt)
all_push Q (x ∷ xs) y k h = (k.0, all_push Q xs y k.1 h)

pub all_next : (Q : Session → Type 0) (name : List ℕ) (xs : List Session) → ((y : Session) → Q y → Q (with_next_unit y)) → AllByRecursion Q xs
    → AllByRecursion Q (with_session name with_next_unit xs)
all_next Q name [] up k = tt
all_next Q name (x ∷ xs) up k =
    elim (is_called name x) as (λ b. AllByRecursion Q (cond b (with_next_unit x ∷ xs) (x ∷ with_session name with_next_unit xs))) [
      | true ↦ (up x k.0, k.1)
      | false ↦ (k.0, all_next Q name xs up k.1)
    ]

-- ---- numbers

pub numbered_filter : (n : ℕ) (p : Session → Bool) (xs : List Session) → AreNumbered n xs → AreNumbered n (filter p xs)
numbered_filter n p [] h = tt
numbered_filter n p (x ∷ xs) h =
    elim (p x) as (λ b. AreNumbered n (cond b (x ∷ filter p xs) (filter p xs))) [
      | true ↦ (h.0, all_filter (IsBelow x.number) p xs h.1, numbered_filter n p xs h.2)
      | false ↦ numbered_filter n p xs h.2
    ]

pub numbered_push : (n : ℕ) (xs : List Session) (y : Session) → y.number ≡ n → AreNumbered n xs → AreNumbered (n + 1) (xs ++ y ∷ [])
numbered_push n [] y e h = (omega (arith, e), tt, tt)
numbered_push n (x ∷ xs) y e h = (omega (arith, h.0), all_push (IsBelow x.number) xs y h.1 (omega (arith, h.0, e)), numbered_push n xs y e h.2)

pub numbered_next : (n : ℕ) (name : List ℕ) (xs : List Session) → AreNumbered n xs → AreNumbered n (with_session name with_next_unit xs)
numbered_next n name [] h = tt
numbered_next n name (x ∷ xs) h =
    elim (is_called name x) as (λ b. AreNumbered n (cond b (with_next_unit x ∷ xs) (x ∷ with_session name with_next_unit xs))) [
      | true ↦ (h.0, h.1, h.2)
      | false ↦ (h.0, all_next (IsBelow x.number) name xs (λ y k. k) h.1, numbered_next n name xs h.2)
    ]

-- ---- a session that logs on or off, or opens its next unit

pub fresh_entered : (s : State) (y : Session) → y.number ≡ s.next_session → HasFreshKeys s
    → HasFreshKeys (record s { sessions = s.sessions ++ y ∷ []; next_session = s.next_session + 1 })
fresh_entered s y e h = record {
  numbered = numbered_push s.next_session s.sessions y e h.numbered;
  ahead = all_push (IsAhead s.stored) s.sessions y h.ahead (λ luw from. h.later y.number luw (omega (arith, e)));
  later = λ session luw from. h.later session luw (omega (arith, from));
}

pub fresh_left : (s : State) (p : Session → Bool) → HasFreshKeys s → HasFreshKeys (record s { sessions = filter p s.sessions })
fresh_left s p h = record {
  numbered = numbered_filter s.next_session p s.sessions h.numbered;
  ahead = all_filter (IsAhead s.stored) p s.sessions h.ahead;
  later = h.later;
}

ahead_next : (ledger : Ledger) (y : Session) → IsAhead ledger y → IsAhead ledger (with_next_unit y)
ahead_next ledger y h luw from = h luw (omega (arith, from))

pub fresh_next : (s : State) (name : List ℕ) → HasFreshKeys s → HasFreshKeys (record s { sessions = with_session name with_next_unit s.sessions })
fresh_next s name h = record {
  numbered = numbered_next s.next_session name s.sessions h.numbered;
  ahead = all_next (IsAhead s.stored) name s.sessions (ahead_next s.stored) h.ahead;
  later = h.later;
}

-- ---- a mark of a unit that was heard of

all_marked : (ledger : Ledger) (key : UnitKey) (kind : MarkKind) (status : Status) (xs : List Session) → status_in ledger key ≡ Some status
    → AllByRecursion (IsAhead ledger) xs → AllByRecursion (IsAhead (with_mark ledger key kind)) xs
all_marked ledger key kind status [] here h = tt
all_marked ledger key kind status (x ∷ xs) here h =
    ((λ luw from. marked_unheard ledger key _ kind status here (h.0 luw from)), all_marked ledger key kind status xs here h.1)

pub fresh_marked : (s : State) (key : UnitKey) (kind : MarkKind) (status : Status) → status_in s.stored key ≡ Some status → HasFreshKeys s
    → HasFreshKeys (record s { stored = with_mark s.stored key kind })
fresh_marked s key kind status here h = record {
  numbered = h.numbered;
  ahead = all_marked s.stored key kind status s.sessions here h.ahead;
  later = λ session luw from. marked_unheard s.stored key _ kind status here (h.later session luw from);
}

-- ---- a unit that is recorded

same_parts : (a b c : Bool) → c ≡ false → ((a && b) && c) ≡ false
same_parts true true c h = h
same_parts true false c h = refl
same_parts false b c h = refl

same_middle : (a b c : Bool) → b ≡ false → ((a && b) && c) ≡ false
same_middle true true c h = cc
same_middle true false c h = refl
same_middle false b c h = refl

nat_apart : (m n : ℕ) → m < n → nat_eq m n ≡ false
nat_apart m n h = grind (arith, nat_tests)

nat_apart_back : (m n : ℕ) → n < m → nat_eq m n ≡ false
nat_apart_back m n h = grind (arith, nat_tests)

by_luw : (start session low luw : ℕ) → low < luw → same_unit (record { start = start; session = session; luw = low })
    (record { start = start; session = session; luw = luw }) ≡ false
by_luw start session low luw h = same_parts (nat_eq start start) (nat_eq session session) (nat_eq low luw) (nat_apart low luw h)

by_session : (start low other m n : ℕ) → nat_eq low other ≡ false → same_unit (record { start = start; session = low; luw = m })
    (record { start = start; session = other; luw = n }) ≡ false
by_session start low other m n h = same_middle (nat_eq start start) (nat_eq low other) (nat_eq m n) h

unheard_recorded : (ledger : Ledger) (unit : UnitOfWork) (key : UnitKey) → status_in ledger unit.key ≡ None → same_unit unit.key key ≡ false
    → status_in ledger key ≡ None → status_in (with_unit ledger unit) key ≡ None
unheard_recorded ledger unit key fresh apart none = recorded_other ledger unit key fresh apart ∙ none

-- sessions behind the one that commits
ahead_behind : (ledger : Ledger) (unit : UnitOfWork) (x : Session) (ys : List Session) → unit.key ≡ unit_key ledger.start x → status_in ledger unit.key ≡ None
    → AllByRecursion (IsBelow x.number) ys → AllByRecursion (IsAhead ledger) ys → AllByRecursion (IsAhead (with_unit ledger unit)) ys
ahead_behind ledger unit x [] is fresh below h = tt
ahead_behind ledger unit x (y ∷ ys) is fresh below h = (
  (λ luw from.
      let key : UnitKey = record { start = ledger.start; session = y.number; luw = luw } in
      unheard_recorded ledger unit key fresh
      (subst (λ k. same_unit k key ≡ false) (sym is) (by_session ledger.start x.number y.number x.luw luw (nat_apart x.number y.number below.0)))
      (h.0 luw from)),
  ahead_behind ledger unit x ys is fresh below.1 h.1,
)

ahead_committed : (ledger : Ledger) (unit : UnitOfWork) (n : ℕ) (name : List ℕ) (x : Session) (xs : List Session) → unit.key ≡ unit_key ledger.start x
    → status_in ledger unit.key ≡ None → find (is_called name) xs ≡ Some x → AreNumbered n xs → AllByRecursion (IsAhead ledger) xs
    → AllByRecursion (IsAhead (with_unit ledger unit)) (with_session name with_next_unit xs)
ahead_committed ledger unit n name x [] is fresh found numbered h = tt
ahead_committed ledger unit n name x (y ∷ ys) is fresh found numbered h =
    elim (is_called name y)
    as (λ b. cond b (Some y) (find (is_called name) ys) ≡ Some x → AllByRecursion (IsAhead (with_unit ledger unit))
    (cond b (with_next_unit y ∷ ys) (y ∷ with_session name with_next_unit ys))) [
      | true ↦ λ e.
          let same : y ≡ x = equal_session y x e in (
            (λ luw from.
                let key : UnitKey = record { start = ledger.start; session = y.number; luw = luw } in
                unheard_recorded ledger unit key fresh
                (subst (λ k. same_unit k key ≡ false) (ap (unit_key ledger.start) same ∙ sym is) (by_luw ledger.start y.number y.luw luw (omega (arith, from))))
                (h.0 luw (omega (arith, from)))),
            ahead_behind ledger unit x ys is fresh (subst (λ z. AllByRecursion (IsBelow z.number) ys) same numbered.1) h.1,
          )
      | false ↦ λ e.
          let below : y.number < x.number = found_in (IsBelow y.number) (is_called name) ys x e numbered.1 in (
            (λ luw from.
                let key : UnitKey = record { start = ledger.start; session = y.number; luw = luw } in
                unheard_recorded ledger unit key fresh
                (subst (λ k. same_unit k key ≡ false) (sym is) (by_session ledger.start x.number y.number x.luw luw (nat_apart_back x.number y.number below)))
                (h.0 luw from)),
            ahead_committed ledger unit n name x ys is fresh e numbered.2 h.1,
          )
    ] found

-- the open unit of a session that is logged on is unheard of
pub open_unheard : (s : State) (name : List ℕ) (x : Session) → find (is_called name) s.sessions ≡ Some x → HasFreshKeys s
    → status_in s.stored (unit_key s.stored.start x) ≡ None
open_unheard s name x found h = found_in (IsAhead s.stored) (is_called name) s.sessions x found h.ahead x.luw (omega arith)

pub number_below : (n : ℕ) (name : List ℕ) (x : Session) (xs : List Session) → find (is_called name) xs ≡ Some x → AreNumbered n xs → x.number < n
number_below n name x [] found h = cc
number_below n name x (y ∷ ys) found h =
    elim (is_called name y) as (λ b. cond b (Some y) (find (is_called name) ys) ≡ Some x → x.number < n) [
      | true ↦ λ e. subst (λ (z : Session). z.number < n) (equal_session y x e) h.0
      | false ↦ λ e. number_below n name x ys e h.2
    ] found

pub fresh_committed : (s : State) (unit : UnitOfWork) (name : List ℕ) (x : Session) → find (is_called name) s.sessions ≡ Some x
    → unit.key ≡ unit_key s.stored.start x → HasFreshKeys s → HasFreshKeys
    (record s { sessions = with_session name with_next_unit s.sessions; stored = with_unit s.stored unit })
fresh_committed s unit name x found is h =
    let fresh : status_in s.stored unit.key ≡ None = ap (status_in s.stored) is ∙ open_unheard s name x found h in
    let below = number_below s.next_session name x s.sessions found h.numbered in
    record {
      numbered = numbered_next s.next_session name s.sessions h.numbered;
      ahead = ahead_committed s.stored unit s.next_session name x s.sessions is fresh found h.numbered h.ahead;
      later = λ session luw from.
          let key : UnitKey = record { start = s.stored.start; session = session; luw = luw } in
          unheard_recorded s.stored unit key fresh
          (subst (λ k. same_unit k key ≡ false) (sym is)
          (by_session s.stored.start x.number session x.luw luw (nat_apart x.number session (omega (arith, below, from)))))
          (h.later session luw from);
    }
