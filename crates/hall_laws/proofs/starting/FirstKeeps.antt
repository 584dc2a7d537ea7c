-- What the first state of a start keeps.
use Rattle.std.proofs.Common.{◌≡◌, ℕ, zero, suc, ◌+◌, ◌≤◌, ◌<◌, Bool, true, false, ◌&&◌, not, List, [], ◌∷◌, length, map, replicate, cond, Option, None, inl, inr, refl, sym, ap, ◌∙◌, subst, arith}
use Rattle.std.specs.Prelude.{nat_eq, nat_le}
use Rattle.std.specs.List.{AllByRecursion, filter, list_all}
use Rattle.std.proofs.lemmas.Bool.{and_from}
use Rattle.std.proofs.lemmas.Bool.Decides.{nat_tests}
use Rattle.std.proofs.lemmas.List.Elements.{All-from_recursion, recursion_from_All}
use Rattle.enq_base.specs.declared.owner.UnitKey.{UnitKey}
use Rattle.std.specs.FinMap.{empty, get-empty}
use Rattle.number_ranges.specs.declared.interval.Interval.{Interval}
use Rattle.record_laws.proofs.UnmarkedUnits.{not_there}
use Rattle.draw_laws.proofs.FittingLevels.{fit_levels}
use Rattle.draw_laws.proofs.SessionDraws.{first_drawn}
use Rattle.ledger_steps.specs.Drawn.{AreDrawnRight}
use Rattle.ledger_steps.specs.Levels.{AreIntervals, FitRows, first_ranges}
use Rattle.enq_base.specs.Owners.{same_owner}
use Rattle.enq_base.specs.declared.owner.Owner.TheVariants.{Upd}
use Rattle.lock_entry.proofs.lemmas.Naming.{same_owner-refl}
use Rattle.lock_entry.specs.declared.entry.Entry.{Entry}
use Rattle.lock_entry.specs.Names.{is_of}
use Rattle.lock_entry.specs.Sound.{has_count}
use Rattle.mode_rules.specs.declared.Mode.{Mode}
use Rattle.mode_rules.specs.declared.Mode.TheVariants.{S, E, X, O}
use Rattle.mode_rules.specs.Modes.{same_mode}
use Rattle.ledger_steps.specs.Starts.{IsRaised}
use Rattle.store_reading.specs.Good.{IsSound}
use Rattle.record_laws.proofs.Status.{NoneOf, no_status, none_of}
use Rattle.update_records.specs.Grammar.{IsEntryOf, IsUnit, is_optimistic}
use Rattle.update_records.specs.Business.{numbers_of}
use Rattle.update_records.specs.Growing.{with_start}
use Rattle.update_records.specs.Ledger.{IsMarkUnder, Ledger, LevelsAgree, recorded}
use Rattle.update_records.specs.Marks.{draws_alone, has_no_v2, is_rec, status_of}
use Rattle.update_records.specs.declared.records.Mark.{Mark}
use Rattle.update_records.specs.declared.records.Unit.{Unit as UnitOfWork}
use Rattle.hall_model.specs.Kept.{AreOrders, HasGoodLocks, HasItsUser, HaveMarks, IsKnown, IsUnheard, OfLock, OfStored, is_firm}
use Rattle.model_laws.proofs.EachLock.{every_more}
use Rattle.hall_laws.proofs.histories.LockUsers.{every_two}

pub no_orders : (ledger : Ledger) (n : ℕ) → AreOrders ledger (replicate n None)
no_orders ledger zero = tt
no_orders ledger (suc n) = no_orders ledger n

abbrev nobody : Option UnitKey
nobody = None

pub idle : (n : ℕ) → length (replicate n nobody) ≡ n
idle zero = refl
idle (suc n) = ap suc (idle n)

first_apart : (a b c d : Bool) → a ≡ false → (((a && b) && c) && d) ≡ false
first_apart true b c d h = cc
first_apart false b c d h = refl

other_start : (m n : ℕ) → m < n → nat_eq m n ≡ false
other_start m n h = grind (arith, nat_tests)

-- no mark is of a unit whose start is still to come
unmarked : (start : ℕ) (key : UnitKey) (marks : List Mark) → start < key.start → AllByRecursion (IsMarkUnder start) marks → NoneOf key marks
unmarked start key [] later h = tt
unmarked start key (m ∷ marks) later h = (
  first_apart (nat_eq m.unit.start key.start) (nat_eq m.unit.session key.session) (nat_eq m.unit.luw key.luw) (not (draws_alone m.kind))
      (other_start m.unit.start key.start (omega (arith, later, h.0.last))),
  unmarked start key marks later h.1,
)

none_of_start : (ledger : Ledger) (key : UnitKey) → IsSound ledger → ledger.start < key.start → status_of ledger.units ledger.marks key ≡ None
none_of_start ledger key (inl none) later = subst (λ (l : Ledger). status_of l.units l.marks key ≡ None) (sym none) refl
none_of_start ledger key (inr law) later =
    no_status (has_no_v2 ledger.units key) key ledger.marks
    (unmarked ledger.start key ledger.marks later (recursion_from_All (IsMarkUnder ledger.start) ledger.marks law.marks))

-- a ledger at a start that has just been raised
abbrev pub IsFirst : Ledger → Type 0
IsFirst ledger = IsRaised IsSound true ledger

-- nothing is recorded of that start
pub first_unheard : (ledger : Ledger) → IsFirst ledger → (session luw : ℕ) → IsUnheard ledger session luw
first_unheard ledger first session luw =
    let before = first.0 in
    subst (λ (l : Ledger). IsUnheard l session luw) (sym first.2)
    (none_of_start before (record { start = before.start + 1; session = session; luw = luw }) first.1 (omega arith))

pub first_started : (ledger : Ledger) → IsFirst ledger → 1 ≤ ledger.start
first_started ledger first = subst (λ (l : Ledger). 1 ≤ l.start) (sym first.2) (omega arith)

-- ---- the locks that are stored with units of earlier starts

keys_under : (n : ℕ) (marks : List Mark) → AllByRecursion (IsMarkUnder n) marks → AllByRecursion (λ (key : UnitKey). key.start ≤ n) (recorded marks)
keys_under n [] h = tt
keys_under n (m ∷ marks) h =
    let rest = keys_under n marks h.1 in
    elim (is_rec m.kind)
    as (λ b. AllByRecursion (λ (key : UnitKey). key.start ≤ n)
    (map (λ (x : Mark). x.unit) (cond b (m ∷ filter (λ (x : Mark). is_rec x.kind) marks) (filter (λ (x : Mark). is_rec x.kind) marks)))) [
      | true ↦ (h.0.last, rest)
      | false ↦ rest
    ]

units_under : (n : ℕ) (units : List UnitOfWork) → AllByRecursion (λ (key : UnitKey). key.start ≤ n) (map (λ (unit : UnitOfWork). unit.key) units)
    → AllByRecursion (λ (unit : UnitOfWork). unit.key.start ≤ n) units
units_under n [] h = tt
units_under n (unit ∷ units) h = (h.0, units_under n units h.1)

-- units of a start up to this one, each with locks of its own
record IsEarlier (n : ℕ) (unit : UnitOfWork) : Type 0 where
  under : unit.key.start ≤ n
  good : IsUnit unit

earlier : (ledger : Ledger) → IsSound ledger → AllByRecursion (IsEarlier ledger.start) ledger.units
earlier ledger (inl none) = subst (λ (l : Ledger). AllByRecursion (IsEarlier l.start) l.units) (sym none) tt
earlier ledger (inr law) =
    let keys = keys_under ledger.start ledger.marks (recursion_from_All (IsMarkUnder ledger.start) ledger.marks law.marks) in
    every_two (λ (unit : UnitOfWork). unit.key.start ≤ ledger.start) IsUnit (IsEarlier ledger.start)
    (λ unit under good. record { under = under; good = good }) ledger.units
    (units_under ledger.start ledger.units (subst (AllByRecursion (λ (key : UnitKey). key.start ≤ ledger.start)) (sym law.recorded) keys))
    (recursion_from_All IsUnit ledger.units law.units)

not_of_start : (m n : ℕ) (b : Bool) → m < n → (nat_eq m n && b) ≡ false
not_of_start m n true h = grind (arith, nat_tests)
not_of_start m n false h = grind (arith, nat_tests)

earlier_known : (start : ℕ) (unit : UnitOfWork) → IsEarlier start unit → OfStored (λ owner user. IsKnown (start + 1) 1 owner) unit
earlier_known start unit h =
    every_more (IsEntryOf unit) (OfLock (λ owner user. IsKnown (start + 1) 1 owner))
    (λ e own. subst (IsKnown (start + 1) 1) (sym own.owner)
    (λ number from. not_of_start unit.key.start (start + 1) _ (let under = h.under in omega (arith, under))))
    unit.entries (recursion_from_All (IsEntryOf unit) unit.entries h.good.entries)

every_any : {A : Type 0} (P : A → Type 0) → ((x : A) → P x) → (xs : List A) → AllByRecursion P xs
every_any P h [] = tt
every_any P h (x ∷ xs) = (h x, every_any P h xs)

pub first_known : (ledger : Ledger) → IsFirst ledger → AllByRecursion (OfStored (λ owner user. IsKnown ledger.start 1 owner)) ledger.units
first_known ledger first =
    let before = first.0 in
    subst (λ (l : Ledger). AllByRecursion (OfStored (λ owner user. IsKnown l.start 1 owner)) l.units) (sym first.2)
    (every_more (IsEarlier before.start) (OfStored (λ owner user. IsKnown (before.start + 1) 1 owner))
    (λ unit h. earlier_known before.start unit h) before.units (earlier before first.1))

pub first_users : (ledger : Ledger) → AllByRecursion (OfStored (HasItsUser ledger.start [])) ledger.units
first_users ledger = every_any (OfStored (HasItsUser ledger.start [])) (λ unit. every_any (OfLock (HasItsUser ledger.start [])) (λ e. tt) unit.entries)
    ledger.units

no_mode : (m : Mode) → is_optimistic m ≡ false → same_mode m O ≡ false
no_mode S h = refl
no_mode E h = refl
no_mode X h = refl
no_mode O h = absurd (cc)

at_least : (n : ℕ) → 1 ≤ n → nat_le 1 n ≡ true
at_least n h = grind (arith, nat_tests)

at_most : (n : ℕ) → n ≤ 9999 → nat_le n 9999 ≡ true
at_most n h = grind (arith, nat_tests)

-- what the three tests say of one lock
record IsRight (key : UnitKey) (e : Entry) : Type 0 where
  own : is_of (Upd key) e ≡ true
  counted : has_count e ≡ true
  firm : is_firm e ≡ true

right : (unit : UnitOfWork) (e : Entry) → IsEntryOf unit e → IsRight unit.key e
right unit e h = record {
  own = ap (λ o. same_owner o (Upd unit.key)) h.owner ∙ same_owner-refl (Upd unit.key);
  counted = and_from (nat_le 1 e.count) (nat_le e.count 9999) (at_least e.count h.low) (at_most e.count h.high);
  firm = and_from e.handed (not (same_mode e.mode O)) h.handed (ap not (no_mode e.mode h.mode));
}

all_own : (key : UnitKey) (es : List Entry) → AllByRecursion (IsRight key) es → list_all (is_of (Upd key)) es ≡ true
all_own key [] h = refl
all_own key (e ∷ es) h = and_from (is_of (Upd key) e) (list_all (is_of (Upd key)) es) h.0.own (all_own key es h.1)

all_counted : (key : UnitKey) (es : List Entry) → AllByRecursion (IsRight key) es → list_all has_count es ≡ true
all_counted key [] h = refl
all_counted key (e ∷ es) h = and_from (has_count e) (list_all has_count es) h.0.counted (all_counted key es h.1)

all_firm : (key : UnitKey) (es : List Entry) → AllByRecursion (IsRight key) es → list_all is_firm es ≡ true
all_firm key [] h = refl
all_firm key (e ∷ es) h = and_from (is_firm e) (list_all is_firm es) h.0.firm (all_firm key es h.1)

good_unit : (unit : UnitOfWork) → IsUnit unit → HasGoodLocks unit
good_unit unit h =
    let of_unit = recursion_from_All (IsEntryOf unit) unit.entries h.entries in
    let each = every_more (IsEntryOf unit) (IsRight unit.key) (right unit) unit.entries of_unit in
    record {
      own = record { owners = all_own unit.key unit.entries each; names = h.distinct; counts = all_counted unit.key unit.entries each };
      firm = all_firm unit.key unit.entries each;
      used = every_more (IsEntryOf unit) (λ (e : Entry). e.user ≡ unit.user) (λ e own. own.user) unit.entries of_unit;
    }

-- the locks that are stored with units of a good store can stand
pub first_stored : (ledger : Ledger) → IsFirst ledger → AllByRecursion HasGoodLocks ledger.units
first_stored ledger first =
    let before = first.0 in
    subst (λ (l : Ledger). AllByRecursion HasGoodLocks l.units) (sym first.2)
    (every_more (IsEarlier before.start) HasGoodLocks (λ unit h. good_unit unit h.good) before.units (earlier before first.1))

-- the intervals of a landscape, and those that a store has are among them
pub record AgreeWith (intervals : List Interval) (ledger : Ledger) : Type 0 where
  pub good : AreIntervals intervals
  pub fit : FitRows intervals ledger.levels

nothing_agrees : LevelsAgree empty []
nothing_agrees = record { right = λ name. simp get-empty tt; stored = All-from_recursion _ [] tt }

-- what the store has of levels agrees with the numbers that are committed
first_agree : (ledger : Ledger) → IsSound ledger → LevelsAgree ledger.levels (numbers_of ledger.units ledger.marks)
first_agree ledger (inl none) = subst (λ (l : Ledger). LevelsAgree l.levels (numbers_of l.units l.marks)) (sym none) nothing_agrees
first_agree ledger (inr law) = law.levels

-- no session has drawn a number
pub nothing_drawn : (ledger : Ledger) (intervals : List Interval) → AgreeWith intervals ledger → IsFirst ledger
    → AreDrawnRight (first_ranges ledger.levels intervals) ledger.levels [] (numbers_of ledger.units ledger.marks)
nothing_drawn ledger intervals agree first =
    let before = first.0 in
    first_drawn intervals ledger.levels [] (numbers_of ledger.units ledger.marks) agree.good (fit_levels intervals ledger.levels agree.fit)
    (subst (λ (l : Ledger). LevelsAgree l.levels (numbers_of l.units l.marks)) (sym first.2) (first_agree before first.1)) tt

-- a unit that is stored has a status
marks_before : (ledger : Ledger) → IsSound ledger → HaveMarks (with_start ledger (ledger.start + 1))
marks_before ledger (inl none) = subst (λ (l : Ledger). HaveMarks (with_start l (l.start + 1))) (sym none) (λ key h. refl)
marks_before ledger (inr law) = λ key none. not_there ledger key law.recorded (none_of (has_no_v2 ledger.units key) key ledger.marks none)

pub first_marks : (ledger : Ledger) → IsFirst ledger → HaveMarks ledger
first_marks ledger first = subst HaveMarks (sym first.2) (marks_before first.0 first.1)
