-- A lock server that is made anew: what it leaves of a state in order.
use Rattle.std.proofs.Common.{◌≡◌, ◌⊎◌, inl, inr, ℕ, ◌+◌, ◌≤◌, ◌<◌, Bool, true, false, not, List, [], ◌∷◌, map, refl, sym, ap, ◌∙◌, subst, arith}
use Rattle.std.specs.Prelude.{◌||◌, count_by, if◌then◌else◌, Option, Some, None}
use Rattle.std.specs.List.{AllByRecursion}
use Rattle.std.specs.Str.{bytes_eq}
use Rattle.enq_base.specs.declared.owner.Owner.{Owner}
use Rattle.lock_entry.specs.declared.entry.Entry.{Entry}
use Rattle.draw_laws.proofs.Counting.{bit, count_cons}
use Rattle.draw_laws.proofs.SessionDraws.{AreFewer, fewer_drawn, fewer_gone, fewer_new, fewer_none, fewer_same}
use Rattle.ledger_steps.specs.Drawn.{AreDrawnRight}
use Rattle.ledger_steps.specs.declared.range.NumberRange.{NumberRange}
use Rattle.update_records.specs.Business.{numbers_of}
use Rattle.update_records.specs.Ledger.{Ledger}
use Rattle.hall_model.specs.Kept.{AreNumbered, AreSameButCaller, HasFew, HasGoodLocks, HasItsUser, HasStateInFlight, HasOpenUnits, HaveMarks, HaveOwnNames}
use Rattle.hall_model.specs.Kept.{IsSteady, MayHaveMoved, draws_in, IsAhead, IsOwned, IsUnheard, IsUserOf, IsYoung, OfLock, OfStored, is_of_session}
use Rattle.hall_model.specs.OpenUnits.{OfInFlight, open_entries}
use Rattle.hall_model.specs.Sessions.{bereft, bereft_if, is_called, is_caller, loses}
use Rattle.hall_model.specs.State.{State, is_honest}
use Rattle.hall_model.specs.Step.{restarted, stored_anew}
use Rattle.hall_model.specs.declared.command.Session.{Session}
use Rattle.hall_laws.proofs.starting.FirstKeeps.{idle, no_orders}
use Rattle.hall_laws.proofs.open_units.StoredLocks.{open_owned}
use Rattle.model_laws.proofs.EachLock.{every_map, every_more}

-- ---- sessions that may have lost a lock

-- the same session, at its unit or at a later one, with what it had drawn or with nothing
record IsBehind (x y : Session) : Type 0 where
  name : y.name ≡ x.name
  user : y.user ≡ x.user
  number : y.number ≡ x.number
  low : x.luw ≤ y.luw
  draws : (y.draws ≡ x.draws) ⊎ (y.draws ≡ [])

abbrev AreBehind : List Session → List Session → Type 0
AreBehind [] [] = Unit {0}
AreBehind [] (y ∷ ys) = ⊥
AreBehind (x ∷ xs) [] = ⊥
AreBehind (x ∷ xs) (y ∷ ys) = IsBehind x y × AreBehind xs ys

less_one : (x y v w : Session) → IsBehind x y → IsBehind v w → x.number < v.number → y.number < w.number
less_one x y v w a b less = subst (λ n. n < w.number) (sym a.number) (subst (λ n. x.number < n) (sym b.number) less)

ahead_one : (ledger : Ledger) (x y : Session) → IsBehind x y → IsAhead ledger x → IsAhead ledger y
ahead_one ledger x y b ahead luw from =
    let low = b.low in subst (λ n. IsUnheard ledger n luw) (sym b.number) (ahead luw (omega (arith, low, from)))

user_one : (start : ℕ) (owner : Owner) (user : List ℕ) (x y : Session) → IsBehind x y → IsUserOf start owner user x → IsUserOf start owner user y
user_one start owner user x y b h own = h (subst (λ n. is_of_session start n owner ≡ true) b.number own) ∙ sym b.user

-- what is so of each session is so of those behind
each_behind : (Q R : Session → Type 0) → ((x y : Session) → IsBehind x y → Q x → R y) → (xs ys : List Session) → AreBehind xs ys → AllByRecursion Q xs
    → AllByRecursion R ys
each_behind Q R moves [] [] b h = tt
each_behind Q R moves [] (y ∷ ys) b h = absurd b
each_behind Q R moves (x ∷ xs) [] b h = absurd b
each_behind Q R moves (x ∷ xs) (y ∷ ys) b h = (moves x y b.0 h.0, each_behind Q R moves xs ys b.1 h.1)

count_behind : (name : List ℕ) (xs ys : List Session) → AreBehind xs ys → count_by (is_called name) ys ≡ count_by (is_called name) xs
count_behind name [] [] b = refl
count_behind name [] (y ∷ ys) b = absurd b
count_behind name (x ∷ xs) [] b = absurd b
count_behind name (x ∷ xs) (y ∷ ys) b =
    count_cons (is_called name) y ys
    ∙ ap (λ n. bit (bytes_eq n name) + count_by (is_called name) ys) b.0.name
    ∙ ap (λ k. bit (is_called name x) + k) (count_behind name xs ys b.1)
    ∙ sym (count_cons (is_called name) x xs)

named_behind : (xs ys : List Session) → AreBehind xs ys → HaveOwnNames xs → HaveOwnNames ys
named_behind xs ys b h name = subst (λ n. n ≤ 1) (sym (count_behind name xs ys b)) (h name)

numbered_behind : (next : ℕ) (xs ys : List Session) → AreBehind xs ys → AreNumbered next xs → AreNumbered next ys
numbered_behind next [] [] b h = tt
numbered_behind next [] (y ∷ ys) b h = absurd b
numbered_behind next (x ∷ xs) [] b h = absurd b
numbered_behind next (x ∷ xs) (y ∷ ys) b h = (
  subst (λ n. n < next) (sym b.0.number) h.0,
  each_behind (λ (z : Session). x.number < z.number) (λ (z : Session). y.number < z.number) (λ v w a less. less_one x y v w b.0 a less) xs ys b.1 h.1,
  numbered_behind next xs ys b.1 h.2,
)

ahead_behind : (ledger : Ledger) (xs ys : List Session) → AreBehind xs ys → AllByRecursion (IsAhead ledger) xs → AllByRecursion (IsAhead ledger) ys
ahead_behind ledger xs ys b h = each_behind (IsAhead ledger) (IsAhead ledger) (ahead_one ledger) xs ys b h

fewer_behind : (xs ys : List Session) → AreBehind xs ys → AreFewer (draws_in xs) (draws_in ys)
fewer_behind [] [] b = fewer_none
fewer_behind [] (y ∷ ys) b = absurd b
fewer_behind (x ∷ xs) [] b = absurd b
fewer_behind (x ∷ xs) (y ∷ ys) b =
    let rest = fewer_behind xs ys b.1 in
    elim b.0.draws as (λ _. AreFewer (draws_in (x ∷ xs)) (draws_in (y ∷ ys))) [
      | inl same ↦ subst (λ d. AreFewer (draws_in (x ∷ xs)) (d ∷ draws_in ys)) (sym same) (fewer_same x.draws (draws_in xs) (draws_in ys) rest)
      | inr none ↦
          subst (λ d. AreFewer (draws_in (x ∷ xs)) (d ∷ draws_in ys)) (sym none)
          (fewer_gone x.draws (draws_in xs) ([] ∷ draws_in ys) (fewer_new (draws_in xs) (draws_in ys) rest))
    ]

owned_behind : (honest : Bool) (ledger : Ledger) (next : ℕ) (xs ys : List Session) (es : List Entry) → AreBehind xs ys → IsOwned honest ledger next xs es
    → IsOwned honest ledger next ys es
owned_behind honest ledger next xs ys es b h =
    let before = HasItsUser ledger.start xs in
    let after = HasItsUser ledger.start ys in
    let moved : (e : Entry) → OfLock before e → OfLock after e =
    λ e k. each_behind (IsUserOf ledger.start e.owner e.user) (IsUserOf ledger.start e.owner e.user) (user_one ledger.start e.owner e.user) xs ys b k in
    record {
      known = h.known;
      users = λ t. every_more (OfLock before) (OfLock after) moved es (h.users t);
      holders = h.holders;
      stored_known = h.stored_known;
      stored_users = every_more (OfStored before) (OfStored after)
          (λ unit k. every_more (OfLock before) (OfLock after) moved unit.entries k) ledger.units h.stored_users;
    }

-- ---- those that a restart leaves

-- the same sessions, whoever has called
pub may_stay : (moves : Bool) (x : Session) → MayHaveMoved moves x x
may_stay true x = record { name = refl; user = refl; number = refl; low = omega arith; high = omega arith }
may_stay false x = refl

pub same_sessions : (caller : Option (List ℕ)) (xs : List Session) → AreSameButCaller caller xs xs
same_sessions caller [] = tt
same_sessions caller (x ∷ xs) = (may_stay (is_caller caller x) x, same_sessions caller xs)

behind_self : (x : Session) → IsBehind x x
behind_self x = record { name = refl; user = refl; number = refl; low = omega arith; draws = inl refl }

behind_bereft : (x : Session) → IsBehind x (bereft x)
behind_bereft x = record { name = refl; user = refl; number = refl; low = omega arith; draws = inr refl }

-- one that called is at its next unit
one_behind : (had called : Bool) (x y : Session) → MayHaveMoved called x y → IsBehind y (if had || called then bereft x else x)
one_behind true true x y m = record { name = sym m.name; user = sym m.user; number = sym m.number; low = m.high; draws = inr refl }
one_behind true false x y m = subst (λ z. IsBehind z (bereft x)) (sym m) (behind_bereft x)
one_behind false true x y m = record { name = sym m.name; user = sym m.user; number = sym m.number; low = m.high; draws = inr refl }
one_behind false false x y m = subst (λ z. IsBehind z x) (sym m) (behind_self x)

behind_caller : (caller : Option (List ℕ)) (xs ys : List Session) → AreSameButCaller caller xs ys → AreBehind ys (map (bereft_if caller) xs)
behind_caller caller [] [] h = tt
behind_caller caller [] (y ∷ ys) h = absurd h
behind_caller caller (x ∷ xs) [] h = absurd h
behind_caller caller (x ∷ xs) (y ∷ ys) h = (one_behind x.marked (is_caller caller x) x y h.0, behind_caller caller xs ys h.1)

young_one : (n : ℕ) (b : Bool) (x : Session) → IsYoung n x → IsYoung (n + 1) (if b then bereft x else x)
young_one n true x young = omega (arith, young)
young_one n false x young = omega (arith, young)

pub restarted_few : (n : ℕ) (taken : Bool) (s : State) → HasFew n s → HasFew (n + 1) (restarted taken s)
restarted_few n taken s h =
    record {
      sessions = omega (arith, h.sessions);
      units = every_map (IsYoung (n + 1)) (IsYoung (n + 1 + 1)) (bereft_if s.failed_caller)
          (λ x young. young_one (n + 1) (loses s.failed_caller x) x young) s.sessions h.units;
    }

-- ---- a server that is made anew

own_in_flight : (s : State) → AllByRecursion HasGoodLocks s.stored.units → IsSteady s → HasOpenUnits s → HasStateInFlight s s.stored
own_in_flight s good steady units = record {
  state = s;
  stored = refl;
  ranges = refl;
  next = refl;
  sessions = same_sessions s.failed_caller s.sessions;
  steady = steady;
  units = good;
  together = units.stored;
}

-- what is so of what was stored, and of what was in flight, is so of what a restart finds in the store
pub by_flight : (Q : Ledger → Type 0) (taken : Bool) (s : State) → Q s.stored → OfInFlight s.in_flight Q → Q (stored_anew taken s.stored s.in_flight)
by_flight Q false s h flight = h
by_flight Q true s h flight =
    elim s.in_flight as (λ o. OfInFlight o Q → Q (stored_anew true s.stored o)) [ None ↦ λ k. h | Some changed ↦ λ k. k ] flight

-- with that there is a state in order
pub restart_in_flight : (taken : Bool) (s : State) → AllByRecursion HasGoodLocks s.stored.units → IsSteady s → HasOpenUnits s
    → OfInFlight s.in_flight (HasStateInFlight s) → HasStateInFlight s (stored_anew taken s.stored s.in_flight)
restart_in_flight taken s good steady units h = by_flight (HasStateInFlight s) taken s (own_in_flight s good steady units) h

-- what is so of the ledger of that state
of_in_flight : (Q : Ledger → Type 0) (s : State) (changed : Ledger) (l : HasStateInFlight s changed) → Q l.state.stored → Q changed
of_in_flight Q s changed l h = subst Q l.stored h

in_flight_drawn : (s : State) (changed : Ledger) (l : HasStateInFlight s changed)
    → AreDrawnRight s.ranges changed.levels (draws_in l.state.sessions) (numbers_of changed.units changed.marks)
in_flight_drawn s changed l =
    let draws = draws_in l.state.sessions in
    of_in_flight (λ (g : Ledger). AreDrawnRight s.ranges g.levels draws (numbers_of g.units g.marks)) s changed l
    (subst (λ (rs : List NumberRange). AreDrawnRight rs l.state.stored.levels draws (numbers_of l.state.stored.units l.state.stored.marks))
    l.ranges l.steady.drawn)

in_flight_owned : (honest : Bool) (s : State) (changed : Ledger) (l : HasStateInFlight s changed)
    → IsOwned honest changed s.next_session l.state.sessions (open_entries changed)
in_flight_owned honest s changed l =
    let t = l.state in
    let told = is_honest t in
    open_owned told honest changed s.next_session t.sessions t.locks l.units
    (of_in_flight (λ g. IsOwned told g s.next_session t.sessions t.locks) s changed l
    (subst (λ n. IsOwned told t.stored n t.sessions t.locks) l.next l.steady.owned))

pub restarted_steady : (taken : Bool) (s : State) → IsSteady s → HasStateInFlight s (stored_anew taken s.stored s.in_flight) → IsSteady (restarted taken s)
restarted_steady taken s h l =
    let changed = stored_anew taken s.stored s.in_flight in
    let t = l.state in
    let turned = map (bereft_if s.failed_caller) s.sessions in
    let own = behind_caller s.failed_caller s.sessions s.sessions (same_sessions s.failed_caller s.sessions) in
    let behind = behind_caller s.failed_caller s.sessions t.sessions l.sessions in
    record {
      started = of_in_flight (λ (g : Ledger). 1 ≤ g.start) s changed l l.steady.started;
      limited = h.limited;
      locks_fit = h.locks_fit;
      named = named_behind s.sessions turned own h.named;
      drawn = fewer_drawn s.ranges changed.levels (draws_in t.sessions) (draws_in turned) (numbers_of changed.units changed.marks)
          (fewer_behind t.sessions turned behind) (in_flight_drawn s changed l);
      marked = of_in_flight HaveMarks s changed l l.steady.marked;
      settled = refl;
      unknown = refl;
      unfailed = refl;
      known = tt;
      fresh = record {
        numbered = numbered_behind s.next_session s.sessions turned own h.fresh.numbered;
        ahead = ahead_behind changed t.sessions turned behind (of_in_flight (λ g. AllByRecursion (IsAhead g) t.sessions) s changed l l.steady.fresh.ahead);
        later = λ session luw from.
            of_in_flight (λ g. IsUnheard g session luw) s changed l (l.steady.fresh.later session luw (subst (λ n. n ≤ session) (sym l.next) from));
      };
      places = idle 256;
      orders = no_orders changed 256;
      owned =
          let honest = s.link_told || not false in
          owned_behind honest changed s.next_session t.sessions turned (open_entries changed) behind (in_flight_owned honest s changed l);
    }
