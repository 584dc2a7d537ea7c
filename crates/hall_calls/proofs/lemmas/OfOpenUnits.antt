-- The lists of the backup file that are those of the open units, unit by unit.
use Rattle.std.proofs.Common.{◌≡◌, inl, inr, ℕ, Bool, true, cond, ◌||◌, List, [], ◌∷◌, map, refl, sym, ap, ◌∙◌, subst}
use Rattle.std.specs.Prelude.{if◌then◌else◌}
use Rattle.std.specs.List.{AllByRecursion, filter, list_all}
use Rattle.std.proofs.lemmas.Bool.{and_from, and_parts, cases_Bool, or_left, or_right}
use Rattle.std.proofs.lemmas.List.Elements.{All-from_recursion, recursion_from_All}
use Rattle.enq_base.specs.Owners.{same_unit}
use Rattle.enq_base.specs.declared.owner.UnitKey.{UnitKey}
use Rattle.lock_entry.proofs.lemmas.Lists.{list_all-filter_self}
use Rattle.backup_file.specs.Backup.{BackupView, IsReady}
use Rattle.backup_file.specs.declared.handed.Handed.{Handed}
use Rattle.enq_server.proofs.lemmas.Listed.{entries-among}
use Rattle.enq_server.specs.Recovery.{Agrees, entries_of as listed_of, is_one_of, lists_among}
use Rattle.enq_server.specs.Server.{IsRecovered}
use Rattle.ledger_steps.specs.Posts.{entries_of}
use Rattle.ledger_steps.specs.Steps.{IsOpenUnit, waiting_for}
use Rattle.ledger_steps.specs.Views.{locks_of, open_locks}
use Rattle.record_laws.proofs.Status.{one_unit, unit_refl}
use Rattle.update_records.specs.Ledger.{Ledger}
use Rattle.hall_calls.specs.OpenLists.{AgreeAll, AreOpenLists}
use Rattle.model_laws.proofs.LockLists.{Among}
use Rattle.model_laws.proofs.EachLock.{every_at}
use Rattle.model_laws.proofs.WaitingUnits.{all_open, open_listed}
use Rattle.ledger_steps.specs.declared.part.Part.TheVariants.{V1}

-- ---- lists

pub every_passing : {A : Type 0} (P : A → Type 0) (p : A → Bool) → ((x : A) → p x ≡ true → P x) → (xs : List A) → list_all p xs ≡ true → AllByRecursion P xs
every_passing P p k [] h = tt
every_passing P p k (x ∷ xs) h = let parts = and_parts (p x) (list_all p xs) h in (k x parts.0, every_passing P p k xs parts.1)

all_passing : {A : Type 0} (P : A → Type 0) (p : A → Bool) → ((x : A) → P x → p x ≡ true) → (xs : List A) → AllByRecursion P xs → list_all p xs ≡ true
all_passing P p k [] h = refl
all_passing P p k (x ∷ xs) h = and_from (p x) (list_all p xs) (k x h.0) (all_passing P p k xs h.1)

-- a filter that all elements pass leaves the list
kept_whole : {A : Type 0} (p : A → Bool) (xs : List A) → list_all p xs ≡ true → xs ≡ filter p xs
kept_whole p [] h = refl
kept_whole p (x ∷ xs) h =
    let parts = and_parts (p x) (list_all p xs) h in
    ap (λ ys. x ∷ ys) (kept_whole p xs parts.1) ∙ sym (ap (λ b. cond b (x ∷ filter p xs) (filter p xs)) parts.0)

-- ---- the units of the lists

-- one of these units is listed just where it is one of those with locks
one_of_listed : (ledger : Ledger) (keys : List UnitKey) (unit : UnitKey) → Among keys unit → is_one_of (map (locks_of ledger) keys) unit ≡ true
one_of_listed ledger [] unit k = absurd k
one_of_listed ledger (key ∷ keys) unit (inl e) = or_left (same_unit key unit) _ (ap (λ (k : UnitKey). same_unit k unit) e ∙ unit_refl unit)
one_of_listed ledger (key ∷ keys) unit (inr k) = or_right (same_unit key unit) _ (one_of_listed ledger keys unit k)

listed_one_of : (ledger : Ledger) (keys : List UnitKey) (unit : UnitKey) → is_one_of (map (locks_of ledger) keys) unit ≡ true → Among keys unit
listed_one_of ledger [] unit h = absurd (cc)
listed_one_of ledger (key ∷ keys) unit h =
    elim (cases_Bool (same_unit key unit)) [
      | inl same ↦ inl (one_unit key unit same)
      | inr apart ↦ inr (listed_one_of ledger keys unit (sym (ap (λ b. b || is_one_of (map (locks_of ledger) keys) unit) apart) ∙ h))
    ]

pub one_of_open : (ledger : Ledger) (unit : UnitKey) → IsOpenUnit ledger unit → is_one_of (open_locks ledger) unit ≡ true
one_of_open ledger unit waits = one_of_listed ledger (waiting_for V1 ledger) unit (open_listed ledger unit waits)

pub open_of_one : (ledger : Ledger) (unit : UnitKey) → is_one_of (open_locks ledger) unit ≡ true → IsOpenUnit ledger unit
open_of_one ledger unit h = every_at (IsOpenUnit ledger) (waiting_for V1 ledger) unit (all_open ledger) (listed_one_of ledger (waiting_for V1 ledger) unit h)

-- ---- unit by unit

-- each open unit has a list with just its locks, and none where it has no locks
abbrev pub AgreeEach : Ledger → List Handed → Type 0
AgreeEach ledger lists = (unit : UnitKey) → IsOpenUnit ledger unit → entries_of ledger.units unit ≡ listed_of lists unit

-- a list of an open unit
abbrev pub IsOfOpen : Ledger → Handed → Type 0
IsOfOpen ledger h = IsOpenUnit ledger h.unit

agree_at : (ledger : Ledger) (lists : List Handed) (keys : List UnitKey) (unit : UnitKey) → AllByRecursion (Agrees lists) (map (locks_of ledger) keys)
    → Among keys unit → entries_of ledger.units unit ≡ listed_of lists unit
agree_at ledger lists [] unit h k = absurd k
agree_at ledger lists (key ∷ keys) unit h (inl e) = subst (λ (k : UnitKey). entries_of ledger.units k ≡ listed_of lists k) e h.0
agree_at ledger lists (key ∷ keys) unit h (inr k) = agree_at ledger lists keys unit h.1 k

pub each_agree : (ledger : Ledger) (lists : List Handed) → AgreeAll ledger lists → AgreeEach ledger lists
each_agree ledger lists h unit waits =
    agree_at ledger lists (waiting_for V1 ledger) unit (recursion_from_All (Agrees lists) (open_locks ledger) h) (open_listed ledger unit waits)

agree_keys : (ledger : Ledger) (lists : List Handed) (keys : List UnitKey) → AgreeEach ledger lists → AllByRecursion (IsOpenUnit ledger) keys
    → AllByRecursion (Agrees lists) (map (locks_of ledger) keys)
agree_keys ledger lists [] h waits = tt
agree_keys ledger lists (key ∷ keys) h waits = (h key waits.0, agree_keys ledger lists keys h waits.1)

pub all_agree : (ledger : Ledger) (lists : List Handed) → AgreeEach ledger lists → AgreeAll ledger lists
all_agree ledger lists h = All-from_recursion (Agrees lists) (open_locks ledger) (agree_keys ledger lists (waiting_for V1 ledger) h (all_open ledger))

only_those : (ledger : Ledger) (lists : List Handed) → lists ≡ lists_among (open_locks ledger) lists → AllByRecursion (IsOfOpen ledger) lists
only_those ledger lists h =
    let listed : Handed → Bool = λ x. is_one_of (open_locks ledger) x.unit in
    every_passing (IsOfOpen ledger) listed (λ x test. open_of_one ledger x.unit test) lists (ap (list_all listed) h ∙ list_all-filter_self listed lists)

none_but : (ledger : Ledger) (lists : List Handed) → AllByRecursion (IsOfOpen ledger) lists → lists ≡ lists_among (open_locks ledger) lists
none_but ledger lists h =
    let listed : Handed → Bool = λ x. is_one_of (open_locks ledger) x.unit in
    kept_whole listed lists (all_passing (IsOfOpen ledger) listed (λ x waits. one_of_open ledger x.unit waits) lists h)

-- both, unit by unit and list by list
pub record FollowUnits (ledger : Ledger) (lists : List Handed) : Type 0 where
  pub agree : AgreeEach ledger lists
  pub only : AllByRecursion (IsOfOpen ledger) lists

pub follow_units : (ledger : Ledger) (lists : List Handed) → AreOpenLists ledger lists → FollowUnits ledger lists
follow_units ledger lists h = record { agree = each_agree ledger lists h.agree; only = only_those ledger lists h.only }

pub are_open_lists : (ledger : Ledger) (lists : List Handed) → FollowUnits ledger lists → AreOpenLists ledger lists
are_open_lists ledger lists h = record { agree = all_agree ledger lists h.agree; only = none_but ledger lists h.only }

-- a unit that isn't open has no list
pub none_listed : (ledger : Ledger) (lists : List Handed) (unit : UnitKey) → (IsOpenUnit ledger unit → ⊥) → AllByRecursion (IsOfOpen ledger) lists
    → listed_of lists unit ≡ []
none_listed ledger [] unit shut h = refl
none_listed ledger (x ∷ lists) unit shut h =
    elim (cases_Bool (same_unit x.unit unit)) [
      | inl same ↦ absurd (shut (subst (IsOpenUnit ledger) (one_unit x.unit unit same) h.0))
      | inr apart ↦ ap (λ b. if b then x.entries else listed_of lists unit) apart ∙ none_listed ledger lists unit shut h.1
    ]

-- ---- at an opening

among_agree : (ledger : Ledger) (lists : List Handed) → AgreeAll ledger lists → AgreeEach ledger (lists_among (open_locks ledger) lists)
among_agree ledger lists h unit waits =
    each_agree ledger lists h unit waits
    ∙ sym (entries-among lists (open_locks ledger) unit ∙ ap (λ b. if b then listed_of lists unit else []) (one_of_open ledger unit waits))

-- the lists of the open units alone, of lists with which these units agree
pub among_lists : (ledger : Ledger) (lists : List Handed) → AgreeAll ledger lists → AreOpenLists ledger (lists_among (open_locks ledger) lists)
among_lists ledger lists h =
    let listed : Handed → Bool = λ x. is_one_of (open_locks ledger) x.unit in
    record {
      agree = all_agree ledger (lists_among (open_locks ledger) lists) (among_agree ledger lists h);
      only = kept_whole listed (lists_among (open_locks ledger) lists) (list_all-filter_self listed lists);
    }

-- a file that was recovered is ready with the lists of the open units
pub recovered_lists : {D : Type 0} (reads : D → List ℕ) (may_leave : D → List ℕ → Type 0) (bytes : List ℕ) (ledger : Ledger) (file : BackupView D)
    → IsRecovered reads may_leave bytes (open_locks ledger) file
    → (lists : List Handed) × IsReady reads may_leave file lists × AreOpenLists ledger lists
recovered_lists reads may_leave bytes ledger file h =
    (lists_among (open_locks ledger) h.freed.lists, h.freed.ready, among_lists ledger h.freed.lists h.freed.agree)
