-- A unit that a session has open in two states it has open in each between: numbers of sessions are never taken again, and the
-- number of a session's unit only rises.
use Rattle.std.proofs.Common.{◌≡◌, ◌⊎◌, inl, inr, ℕ, ◌≤◌, ◌<◌, Bool, true, false, cond, List, [], ◌∷◌, ◌++◌, map, refl, sym, ap, ◌∙◌, subst, arith, le_refl}
use Rattle.std.specs.Prelude.{Option, Some, None, if◌then◌else◌}
use Rattle.std.specs.Cmp.Lexicographic.{bytes_decides}
use Rattle.std.specs.Option.{option_map, option_map_or}
use Rattle.std.specs.Str.{bytes_eq}
use Rattle.std.proofs.lemmas.List.Sums.{fold-append}
use Rattle.enq_base.specs.declared.owner.UnitKey.{UnitKey}
use Rattle.number_ranges.specs.Intervals.{is_buffered}
use Rattle.number_ranges.specs.declared.interval.Interval.{Interval}
use Rattle.ledger_steps.specs.Drawn.{handed_out, num_of}
use Rattle.ledger_steps.specs.Levels.{present}
use Rattle.update_records.specs.Ledger.{Ledger}
use Rattle.hall_laws.proofs.histories.WithoutServer.{anew_as_before}
use Rattle.hall_laws.proofs.keeping.UnitsToCome.{number_below}
use Rattle.model_laws.proofs.ByCall.{OfEach, by_call}
use Rattle.hall_model.specs.Devices.{found_by}
use Rattle.hall_model.specs.Calls.{call_of}
use Rattle.hall_model.specs.History.{judged}
use Rattle.hall_model.specs.Numbers.{drawn, raised_to}
use Rattle.hall_model.specs.Recall.{Made, recalled, state_after}
use Rattle.hall_model.specs.Sessions.{begun, bereft, bereft_if, is_called, loses, session_at, unit_key, with_draw, with_fresh_unit, with_mark, with_next_unit}
use Rattle.hall_model.specs.Sessions.{with_session, without_draws, without_session}
use Rattle.hall_model.specs.State.{State}
use Rattle.hall_model.specs.Step.{Found, has_lock, is_taken}
use Rattle.hall_model.specs.declared.command.Session.{Session}
use Rattle.cover_laws.proofs.calls.DrawnAlone.{raised_start}
use Rattle.cover_laws.proofs.needed.HallNeeded.{AreQuiet, IsQuiet, IsReached, StaysOpen, UnitsStayOpen}
use Rattle.cover_laws.specs.Histories.{open_unit}
use Rattle.cover_laws.proofs.sessions.NamedSessions.{KeepsNames, bereft_named, found_beside, found_changed, found_left, found_mapped, left_own}
use Rattle.cover_laws.proofs.calls.QuietCalls.{by_case, by_quiet, none_in_flight, quiet_left, quiet_right}

-- ---- one session

-- the same session, at its unit or at a later one; at the same one it has lost a lock just where it had
record IsLater (x y : Session) : Type 0 where
  number : y.number ≡ x.number
  luw : x.luw ≤ y.luw
  lost : y.luw ≡ x.luw → y.lost ≡ x.lost

later_self : (x : Session) → IsLater x x
later_self x = record { number = refl; luw = le_refl x.luw; lost = λ e. refl }

next_later : (x : Session) → IsLater x (with_next_unit x)
next_later x = record { number = refl; luw = omega arith; lost = λ e. refl }

fresh_later : (x : Session) → IsLater x (with_fresh_unit x)
fresh_later x = record { number = refl; luw = omega arith; lost = λ e. absurd (omega (arith, e)) }

bereft_later : (x : Session) → IsLater x (bereft x)
bereft_later x = record { number = refl; luw = omega arith; lost = λ e. absurd (omega (arith, e)) }

lost_later : (caller : Option (List ℕ)) (x : Session) → IsLater x (bereft_if caller x)
lost_later caller x = elim (loses caller x) as (λ b. IsLater x (if b then bereft x else x)) [ true ↦ bereft_later x | false ↦ later_self x ]

mark_later : (had_lock : Session → Bool) (x : Session) → IsLater x (with_mark had_lock x)
mark_later had_lock x = record { number = refl; luw = le_refl x.luw; lost = λ e. refl }

later_more : (x y z : Session) → IsLater x y → IsLater y z → IsLater x z
later_more x y z h k =
    let low = h.luw in
    let high = k.luw in
    record {
      number = k.number ∙ h.number;
      luw = omega (arith, low, high);
      lost = λ e.
          let first : y.luw ≡ x.luw = omega (arith, low, high, e) in
          k.lost (e ∙ sym first) ∙ h.lost first;
    }

-- ---- the session of a name

-- It is gone, or it is a session that has logged on since, or the same one.
abbrev IsFrom : ℕ → (after before : Option Session) → Type 0
IsFrom next None before = Unit {0}
IsFrom next (Some y) None = next ≤ y.number
IsFrom next (Some y) (Some x) = (next ≤ y.number) ⊎ IsLater x y

from_self : (next : ℕ) (o : Option Session) → IsFrom next o o
from_self next None = tt
from_self next (Some x) = inr (later_self x)

from_change : (change : Session → Session) → ((x : Session) → IsLater x (change x)) → (next : ℕ) (o : Option Session) → IsFrom next (option_map change o) o
from_change change later next None = tt
from_change change later next (Some x) = inr (later x)

-- one who has logged on since the first state, or since the second one
from_more : (next middle : ℕ) (a b c : Option Session) → next ≤ middle → IsFrom next b a → IsFrom middle c b → IsFrom next c a
from_more next middle a b None fits h k = tt
from_more next middle None None (Some z) fits h k = omega (arith, fits, k)
from_more next middle None (Some y) (Some z) fits h (inl new) = omega (arith, fits, new)
from_more next middle None (Some y) (Some z) fits h (inr same) = subst (λ n. next ≤ n) (sym same.number) h
from_more next middle (Some x) None (Some z) fits h k = inl (omega (arith, fits, k))
from_more next middle (Some x) (Some y) (Some z) fits h (inl new) = inl (omega (arith, fits, new))
from_more next middle (Some x) (Some y) (Some z) fits (inl new) (inr same) = inl (subst (λ n. next ≤ n) (sym same.number) new)
from_more next middle (Some x) (Some y) (Some z) fits (inr early) (inr same) = inr (later_more x y z early same)

last_from : (next : ℕ) (n : List ℕ) (xs : List Session) (y : Session) → next ≤ y.number → IsFrom next (session_at (xs ++ y ∷ []) n) (session_at xs n)
last_from next n [] y new = elim (is_called n y) as (λ b. IsFrom next (cond b (Some y) None) None) [ true ↦ new | false ↦ tt ]
last_from next n (x ∷ xs) y new =
    elim (is_called n x) as (λ b. IsFrom next (cond b (Some x) (session_at (xs ++ y ∷ []) n)) (cond b (Some x) (session_at xs n))) [
      | true ↦ from_self next (Some x)
      | false ↦ last_from next n xs y new
    ]

left_from : (next : ℕ) (name n : List ℕ) (xs : List Session) → IsFrom next (session_at (without_session name xs) n) (session_at xs n)
left_from next name n xs =
    let before = session_at xs n in
    by_case (bytes_eq name n)
    (λ e. subst (λ k. IsFrom next (session_at (without_session k xs) n) before) (sym ((bytes_decides name n).0 e))
    (subst (λ o. IsFrom next o before) (sym (left_own n xs)) tt))
    (λ e. subst (λ o. IsFrom next o before) (sym (found_left name n e xs)) (from_self next before))

with_from : (change : Session → Session) → KeepsNames change → ((x : Session) → IsLater x (change x)) → (next : ℕ) (name n : List ℕ) (xs : List Session)
    → IsFrom next (session_at (with_session name change xs) n) (session_at xs n)
with_from change keeps later next name n xs =
    let before = session_at xs n in
    by_case (bytes_eq name n)
    (λ e. subst (λ k. IsFrom next (session_at (with_session k change xs) n) before) (sym ((bytes_decides name n).0 e))
    (subst (λ o. IsFrom next o before) (sym (found_changed change keeps n xs)) (from_change change later next before)))
    (λ e. subst (λ o. IsFrom next o before) (sym (found_beside change keeps name n e xs)) (from_self next before))

each_from : (change : Session → Session) → KeepsNames change → ((x : Session) → IsLater x (change x)) → (next : ℕ) (n : List ℕ) (xs : List Session)
    → IsFrom next (session_at (map change xs) n) (session_at xs n)
each_from change keeps later next n xs =
    subst (λ o. IsFrom next o (session_at xs n)) (sym (found_mapped change keeps n xs)) (from_change change later next (session_at xs n))

-- ---- a call

-- what stands of the sessions and of the start, before and behind calls
record IsBehind (name : List ℕ) (next later first start : ℕ) (before after : List Session) : Type 0 where
  numbers : next ≤ later
  starts : start ≡ first
  session : IsFrom next (session_at after name) (session_at before name)

abbrev GoesOn : List ℕ → State → State → Type 0
GoesOn name s t = IsBehind name s.next_session t.next_session s.stored.start t.stored.start s.sessions t.sessions

stays : (name : List ℕ) (s : State) → GoesOn name s s
stays name s = record { numbers = le_refl s.next_session; starts = refl; session = from_self s.next_session (session_at s.sessions name) }

goes_more : (name : List ℕ) (s u t : State) → GoesOn name s u → GoesOn name u t → GoesOn name s t
goes_more name s u t h k =
    let at : State → Option Session = λ v. session_at v.sessions name in
    let low = h.numbers in
    let high = k.numbers in
    record {
      numbers = omega (arith, low, high);
      starts = k.starts ∙ h.starts;
      session = from_more s.next_session u.next_session (at s) (at u) (at t) low h.session k.session;
    }

changed_goes : (name : List ℕ) (s : State) (x : Session) (change : Session → Session) (start : ℕ) → KeepsNames change → ((y : Session) → IsLater y (change y))
    → start ≡ s.stored.start
    → IsBehind name s.next_session s.next_session s.stored.start start s.sessions (with_session x.name change s.sessions)
changed_goes name s x change start keeps later same = record {
  numbers = le_refl s.next_session;
  starts = same;
  session = with_from change keeps later s.next_session x.name name s.sessions;
}

each_goes_on : (name : List ℕ) (s : State) (change : Session → Session) (start : ℕ) → KeepsNames change → ((y : Session) → IsLater y (change y))
    → start ≡ s.stored.start → IsBehind name s.next_session s.next_session s.stored.start start s.sessions (map change s.sessions)
each_goes_on name s change start keeps later same = record {
  numbers = le_refl s.next_session;
  starts = same;
  session = each_from change keeps later s.next_session name s.sessions;
}

drawn_goes : (name : List ℕ) (s : State) (x : Session) (i : Interval) (number : ℕ) → GoesOn name s (drawn s x i number)
drawn_goes name s x i number =
    let change : Session → Session = with_draw (num_of i number) in
    let t : State = record s { sessions = with_session x.name change s.sessions } in
    let later : (y : Session) → IsLater y (change y) = λ y. record { number = refl; luw = le_refl y.luw; lost = λ e. refl } in
    elim (is_buffered i) as (λ b. GoesOn name s (if b then record t { ranges = handed_out i t.ranges; stored = raised_to i number t.stored } else t)) [
      | true ↦ changed_goes name s x change (raised_to i number s.stored).start (λ n y. refl) later (raised_start i number s.stored)
      | false ↦ changed_goes name s x change s.stored.start (λ n y. refl) later refl
    ]

each_goes : (name : List ℕ) (found : Found) (s : State) → s.in_flight ≡ None → OfEach (λ call v. GoesOn name s (judged s v).state) found s
each_goes name found s none = record {
  refuses = λ call r plain. stays name s;
  enters = λ other user free. record {
    numbers = omega arith;
    starts = refl;
    session = last_from s.next_session name s.sessions (begun other user s.next_session) (le_refl s.next_session);
  };
  logs_off = λ other x at. record { numbers = le_refl s.next_session; starts = refl; session = left_from s.next_session x.name name s.sessions };
  grants = λ other x rs locks at e. stays name s;
  lowers = λ other x rs at. stays name s;
  frees = λ other x at. stays name s;
  converts = λ other x wanted c at e. stays name s;
  draws = λ other x object nr r at can. drawn_goes name s x (present s.stored.levels r.interval) _;
  reserves = λ other x object nr upto r at can. record {
    numbers = le_refl s.next_session;
    starts = raised_start (present s.stored.levels r.interval) upto s.stored;
    session = from_self s.next_session (session_at s.sessions name);
  };
  reads = λ other x table key at. stays name s;
  commits_nothing = λ other x parts stock at. stays name s;
  commits_numbers = λ other x parts stock at.
      changed_goes name s x without_draws _ (λ n y. refl) (λ y. record { number = refl; luw = le_refl y.luw; lost = λ e. refl }) refl;
  commits = λ other x parts stock at. changed_goes name s x with_next_unit _ (λ n y. refl) next_later refl;
  rolls_back = λ other x at. changed_goes name s x with_fresh_unit _ (λ n y. refl) fresh_later refl;
  takes = λ worker part unit free e. stays name s;
  posts = λ worker part unit e. stays name s;
  drops = λ worker unit e. stays name s;
  kills = λ up. each_goes_on name s (with_mark (has_lock s)) s.stored.start (λ n y. refl) (mark_later (has_lock s)) refl;
  fails_over = λ can. each_goes_on name s (with_mark (λ x. false)) s.stored.start (λ n y. refl) (mark_later (λ x. false)) refl;
  strays = λ first second none. stays name s;
  attaches = λ up. stays name s;
  restarts = λ off.
      each_goes_on name s (bereft_if s.failed_caller) _ (bereft_named s.failed_caller) (lost_later s.failed_caller)
      (ap (λ (l : Ledger). l.start) (anew_as_before (is_taken found.anew) s none));
  cancels = λ unit status can. stays name s;
  reopens = λ unit es here stand. stays name s;
  reposts = λ unit here. stays name s;
}

call_goes : (name : List ℕ) (s : State) (m : Made) → IsQuiet s m → GoesOn name s (recalled s m)
call_goes name s m quiet =
    let none = none_in_flight s m quiet in
    let found = found_by m.outcome.reading s in
    by_quiet (λ r. GoesOn name s r.state) s m quiet (λ lost done h. h) (λ taken r h. h)
    (by_call (λ c v. GoesOn name s (judged s v).state) found s (each_goes name found s none) (call_of m.call.command)) (stays name s) (stays name s)

-- ---- calls one behind the other

calls_go : (name : List ℕ) (s : State) (ms : List Made) → AreQuiet s ms → GoesOn name s (state_after s ms)
calls_go name s [] h = stays name s
calls_go name s (m ∷ ms) h =
    goes_more name s (recalled s m) (state_after (recalled s m) ms) (call_goes name s m h.0) (calls_go name (recalled s m) ms h.1)

-- ---- between two states

-- the session is at the same unit as the first one, and has lost a lock just where the last one has
record IsUnmoved (x y z : Session) : Type 0 where
  number : y.number ≡ x.number
  luw : y.luw ≡ x.luw
  lost : y.lost ≡ z.lost

unmoved : (next middle : ℕ) (x y z : Session) → x.number < next → next ≤ middle → z.number ≡ x.number → z.luw ≡ x.luw
    → (next ≤ y.number) ⊎ IsLater x y → (middle ≤ z.number) ⊎ IsLater y z → IsUnmoved x y z
unmoved next middle x y z below fits number luw h (inl new) = absurd (omega (arith, below, fits, number, new))
unmoved next middle x y z below fits number luw (inl new) (inr later) =
    let same = later.number in absurd (omega (arith, below, number, new, same))
unmoved next middle x y z below fits number luw (inr early) (inr later) =
    let low = early.luw in
    let high = later.luw in
    let same : y.luw ≡ x.luw = omega (arith, low, high, luw) in
    record { number = early.number; luw = same; lost = sym (later.lost (luw ∙ sym same)) }

pub equal_key : (a b : UnitKey) → Some a ≡ Some b → a ≡ b
equal_key a b e = cc

no_unit : (unit : UnitKey) → None ≡ Some unit → ⊥
no_unit unit e = cc

-- what the state between has
record IsBetween (start : ℕ) (unit : UnitKey) (b c : Option Session) : Type 0 where
  key : option_map (unit_key start) b ≡ Some unit
  lost : option_map_or (λ (x : Session). x.lost) b false ≡ option_map_or (λ (x : Session). x.lost) c false

same_key : (first start : ℕ) (x y : Session) → start ≡ first → y.number ≡ x.number → y.luw ≡ x.luw → unit_key start y ≡ unit_key first x
same_key first start x y starts number luw = λ i. record { start = starts i; session = number i; luw = luw i }

between : (next middle first start last : ℕ) (a b c : Option Session) (unit : UnitKey) → ((x : Session) → a ≡ Some x → x.number < next) → next ≤ middle
    → start ≡ first → IsFrom next b a → IsFrom middle c b
    → option_map (unit_key first) a ≡ Some unit
    → option_map (unit_key last) c ≡ Some unit → IsBetween start unit b c
between next middle first start last None b c unit below fits starts h k one two = absurd (no_unit unit one)
between next middle first start last (Some x) b None unit below fits starts h k one two = absurd (no_unit unit two)
between next middle first start last (Some x) None (Some z) unit below fits starts h k one two =
    let same : unit_key last z ≡ unit_key first x = equal_key (unit_key last z) unit two ∙ sym (equal_key (unit_key first x) unit one) in
    let number : z.number ≡ x.number = ap (λ (u : UnitKey). u.session) same in
    let low = below x refl in
    absurd (omega (arith, low, fits, number, k))
between next middle first start last (Some x) (Some y) (Some z) unit below fits starts h k one two =
    let same : unit_key last z ≡ unit_key first x = equal_key (unit_key last z) unit two ∙ sym (equal_key (unit_key first x) unit one) in
    let number : z.number ≡ x.number = ap (λ (u : UnitKey). u.session) same in
    let luw : z.luw ≡ x.luw = ap (λ (u : UnitKey). u.luw) same in
    let u = unmoved next middle x y z (below x refl) fits number luw h k in
    record { key = ap Some (same_key first start x y starts u.number u.luw) ∙ one; lost = u.lost }

open_between : (s u t : State) (name : List ℕ) (unit : UnitKey) → IsReached s → GoesOn name s u → GoesOn name u t → open_unit s name ≡ Some unit
    → open_unit t name ≡ Some unit → StaysOpen u t name unit
open_between s u t name unit reached h k one two =
    let at : State → Option Session = λ v. session_at v.sessions name in
    let all =
    between s.next_session u.next_session s.stored.start u.stored.start t.stored.start (at s) (at u) (at t) unit
    (λ x found. number_below s.next_session name x s.sessions found reached.steady.fresh.numbered) h.numbers h.starts h.session k.session one two in
    record { open_now = all.key; lost = all.lost }

calls_between : (s : State) (before after : List Made) (name : List ℕ) (unit : UnitKey) → IsReached s → AreQuiet s (before ++ after)
    → open_unit s name ≡ Some unit
    → open_unit (state_after s (before ++ after)) name ≡ Some unit → StaysOpen (state_after s before) (state_after s (before ++ after)) name unit
calls_between s before after name unit reached quiet one two =
    let u = state_after s before in
    let t = state_after u after in
    let same : state_after s (before ++ after) ≡ t = fold-append recalled s before after in
    let first = calls_go name s before (quiet_left s before after quiet) in
    let last = calls_go name u after (quiet_right s before after quiet) in
    subst (λ w. StaysOpen u w name unit) (sym same)
    (open_between s u t name unit reached first last one (subst (λ w. open_unit w name ≡ Some unit) same two))

pub units_stay_open : UnitsStayOpen
units_stay_open s [] [] name unit quiet one two = record { open_now = one; lost = refl }
units_stay_open s [] (m ∷ ms) name unit quiet one two = calls_between s [] (m ∷ ms) name unit quiet.0.reached quiet one two
units_stay_open s (m ∷ ms) after name unit quiet one two = calls_between s (m ∷ ms) after name unit quiet.0.reached quiet one two
