-- What a recorded unit or a mark leaves of the lists of the open units.
use Rattle.std.proofs.Common.{◌≡◌, inl, inr, ℕ, Bool, true, false, not, cond, List, [], ◌∷◌, ◌++◌, map, refl, sym, ap, ◌∙◌, subst, arith}
use Rattle.std.specs.Prelude.{if◌then◌else◌, Option, Some, None}
use Rattle.std.specs.List.{AllByRecursion, filter}
use Rattle.std.specs.Option.{option_map_or}
use Rattle.std.proofs.lemmas.Bool.{cases_Bool}
use Rattle.std.proofs.lemmas.List.Elements.{All-from_recursion}
use Rattle.enq_base.specs.Owners.{same_unit}
use Rattle.enq_base.specs.declared.owner.Owner.TheVariants.{Upd}
use Rattle.enq_base.specs.declared.owner.UnitKey.{UnitKey}
use Rattle.enq_base.specs.declared.unit.Num.{Num as Number}
use Rattle.enq_base.specs.declared.unit.Parts.{Parts}
use Rattle.enq_base.specs.declared.unit.Status.{Status}
use Rattle.enq_base.specs.declared.unit.Status.TheVariants.{Open, Posted, Bad, Bad2 as BadSecond}
use Rattle.lock_entry.specs.Freeing.{handed_over}
use Rattle.lock_entry.specs.Names.{is_of}
use Rattle.lock_entry.specs.declared.entry.Entry.{Entry}
use Rattle.mode_rules.specs.declared.Mode.TheVariants.{O}
use Rattle.mode_rules.specs.Modes.{same_mode}
use Rattle.backup_file.specs.Handing.{as_handed, handed_of}
use Rattle.backup_file.specs.Lists.{without}
use Rattle.backup_file.specs.Spelling.{user_of}
use Rattle.backup_file.specs.declared.handed.Handed.{Handed}
use Rattle.enq_server.proofs.lemmas.Listed.{entries-with, entries-without, returned_as_kept}
use Rattle.enq_server.specs.Recovery.{entries_of as listed_of}
use Rattle.enq_server.specs.Server.{lasting, of_user, with_list}
use Rattle.ledger_steps.specs.Intervals.{with_intervals}
use Rattle.ledger_steps.specs.Posts.{entries_of, kind_for}
use Rattle.ledger_steps.specs.Steps.{IsOpenUnit}
use Rattle.ledger_steps.specs.declared.step.Outcome.{Outcome}
use Rattle.ledger_steps.specs.declared.step.Outcome.TheVariants as outcome
use Rattle.record_laws.proofs.Status.{flip, one_unit, unit_new, unit_refl}
use Rattle.update_records.specs.Growing.{with_mark, with_unit}
use Rattle.update_records.specs.Ledger.{Ledger}
use Rattle.update_records.specs.Marks.{unit_at}
use Rattle.update_records.specs.declared.records.MarkKind.{MarkKind}
use Rattle.update_records.specs.declared.records.MarkKind.TheVariants.{Num, Again1, Again2, Gone}
use Rattle.update_records.specs.declared.records.Unit.{Unit as UnitOfWork}
use Rattle.update_records.specs.declared.stored.StoredInterval.{StoredInterval}
use Rattle.hall_calls.specs.Commits.{IsOfCommit}
use Rattle.hall_model.specs.Kept.{HasGoodLocks, HaveMarks}
use Rattle.hall_calls.specs.OpenLists.{AgreeAll, AreOpenLists}
use Rattle.hall_model.specs.Sessions.{unit_key}
use Rattle.hall_model.specs.Step.{handed_locks, unit_of}
use Rattle.hall_model.specs.declared.command.Session.{Session}
use Rattle.model_laws.proofs.OtherStatuses.{EndsFirst, apart_from_ended, marked_other, numbers_leave, recorded_open, recorded_other, status_in, status_marked, two_statuses}
use Rattle.hall_calls.proofs.lemmas.OfOpenUnits.{AgreeEach, FollowUnits, IsOfOpen, all_agree, are_open_lists, each_agree, follow_units, none_listed}
use Rattle.model_laws.proofs.EachLock.{recorded_here, every_append, every_more}
use Rattle.hall_calls.proofs.lists.StoredLocks.{stored_flags, stored_used}
use Rattle.model_laws.proofs.BesideRecorded.{entries_beside}
use Rattle.ledger_steps.specs.declared.part.Part.TheVariants.{V1, V2}

-- ---- lists

-- of what is so of each element a filter leaves what is so of those that pass
every_kept : {A : Type 0} (Q P : A → Type 0) (p : A → Bool) → ((x : A) → Q x → p x ≡ true → P x) → (xs : List A) → AllByRecursion Q xs
    → AllByRecursion P (filter p xs)
every_kept Q P p k [] h = tt
every_kept Q P p k (x ∷ xs) h =
    let rest = every_kept Q P p k xs h.1 in
    elim (p x) as (λ b. p x ≡ b → AllByRecursion P (cond b (x ∷ filter p xs) (filter p xs))) [ true ↦ λ e. (k x h.0 e, rest) | false ↦ λ e. rest ] refl

listed_other : (l : List Handed) (key other : UnitKey) (es : List Entry) → same_unit key other ≡ false
    → listed_of (with_list key es l) other ≡ listed_of l other
listed_other l key other [] apart = refl
listed_other l key other (e ∷ es) apart =
    entries-with l key other (e ∷ es) (omega arith) ∙ ap (λ b. if b then (handed_of key (e ∷ es)).entries else listed_of l other) apart

listed_own : (l : List Handed) (key : UnitKey) (es : List Entry) → listed_of l key ≡ [] → listed_of (with_list key es l) key ≡ (handed_of key es).entries
listed_own l key [] none = none
listed_own l key (e ∷ es) none =
    entries-with l key key (e ∷ es) (omega arith) ∙ ap (λ b. if b then (handed_of key (e ∷ es)).entries else listed_of l key) (unit_refl key)

-- what hangs on the units of the lists alone
every_with : (P : UnitKey → Type 0) (l : List Handed) (key : UnitKey) (es : List Entry) → P key → AllByRecursion (λ (h : Handed). P h.unit) l
    → AllByRecursion (λ (h : Handed). P h.unit) (with_list key es l)
every_with P l key [] here h = h
every_with P l key (e ∷ es) here h =
    let Q : Handed → Type 0 = λ x. P x.unit in
    every_append Q (without key l) (handed_of key (e ∷ es) ∷ []) (every_kept Q Q (λ x. not (same_unit x.unit key)) (λ x k test. k) l h) (here, tt)

-- ---- units that aren't open

none_open : (o : Option Status) → o ≡ None → o ≡ Some Open → ⊥
none_open None h k = cc
none_open (Some status) h k = cc

unheard_shut : (ledger : Ledger) (key : UnitKey) → status_in ledger key ≡ None → IsOpenUnit ledger key → ⊥
unheard_shut ledger key none waits = none_open (status_in ledger key) none waits

status_shut : (ledger : Ledger) (key : UnitKey) (status : Status) → status_in ledger key ≡ Some status → (status ≡ Open → ⊥) → IsOpenUnit ledger key → ⊥
status_shut ledger key status here differs waits = differs (two_statuses (status_in ledger key) status Open here waits)

bad_differs : Bad ≡ Open → ⊥
bad_differs e = cc

posted_differs : Posted ≡ Open → ⊥
posted_differs e = cc

second_differs : BadSecond ≡ Open → ⊥
second_differs e = cc

apart_from_shut : (ledger : Ledger) (key other : UnitKey) → (IsOpenUnit ledger key → ⊥) → IsOpenUnit ledger other → same_unit key other ≡ false
apart_from_shut ledger key other shut waits =
    elim (cases_Bool (same_unit key other)) [
      | inl same ↦ absurd (shut (subst (IsOpenUnit ledger) (sym (one_unit key other same)) waits))
      | inr apart ↦ apart
    ]

-- a list that is written of a unit which isn't open leaves those of the open ones
pub beside_agree : (ledger : Ledger) (key : UnitKey) (es : List Entry) (lists : List Handed) → (IsOpenUnit ledger key → ⊥) → AgreeAll ledger lists
    → AgreeAll ledger (with_list key es lists)
beside_agree ledger key es lists shut h =
    all_agree ledger (with_list key es lists)
    (λ unit waits. each_agree ledger lists h unit waits ∙ sym (listed_other lists key unit es (apart_from_shut ledger key unit shut waits)))

-- ---- a unit that is recorded

pub entries_recorded : (ledger : Ledger) (unit : UnitOfWork) → unit_at ledger.units unit.key ≡ None
    → entries_of (ledger.units ++ unit ∷ []) unit.key ≡ unit.entries
entries_recorded ledger unit none = ap (λ o. option_map_or (λ (u : UnitOfWork). u.entries) o []) (unit_new ledger.units unit none)

-- of a session that is logged on
pub of_session : (ledger : Ledger) (x : Session) (locks : List Entry) (parts : Parts) (numbers : List Number)
    → status_in ledger (unit_key ledger.start x) ≡ None → HaveMarks ledger → IsOfCommit ledger (unit_of ledger.start locks x parts numbers) locks
of_session ledger x locks parts numbers fresh marked =
    record { fresh = fresh; new = marked (unit_key ledger.start x) fresh; entries = refl }

-- the locks as they are saved in the backup file, under the unit's user
abbrev pub saved_locks : UnitOfWork → List Entry → List Entry
saved_locks unit locks = of_user unit.user (lasting unit.key locks)

put_once : (user : List ℕ) (es : List Entry) → map (as_handed user) (of_user user es) ≡ map (as_handed user) es
put_once user [] = refl
put_once user (e ∷ es) = ap (λ xs. as_handed user e ∷ xs) (put_once user es)

by_first : (user : List ℕ) (es : List Entry) → map (as_handed (user_of (of_user user es))) (of_user user es) ≡ map (as_handed user) es
by_first user [] = refl
by_first user (e ∷ es) = put_once user (e ∷ es)

pub handed_alike : (unit : UnitKey) (user : List ℕ) (table : List Entry)
    → map (as_handed user) (lasting unit table) ≡ of_user user (filter (is_of (Upd unit)) (handed_over table unit))
handed_alike unit user [] = refl
handed_alike unit user (e ∷ table) =
    let rest = handed_alike unit user table in
    elim (cases_Bool (is_of (Upd unit) e)) [
      | inr other ↦ rw (other, other, other) rest
      | inl own ↦
          elim (cases_Bool (same_mode e.mode O)) [
            | inl optimistic ↦ rw (own, optimistic) rest
            | inr lasts ↦ rw (own, lasts, own, own) (ap (λ xs. as_handed user e ∷ xs) rest)
          ]
    ]

-- flagged as handed they are those that are stored
handed_as_stored : (unit : UnitKey) (user : List ℕ) (table : List Entry)
    → (handed_of unit (of_user user (lasting unit table))).entries ≡ handed_locks user table unit
handed_as_stored unit user table = by_first user (lasting unit table) ∙ handed_alike unit user table

recorded_agree : (ledger : Ledger) (unit : UnitOfWork) (locks : List Entry) (lists : List Handed) → IsOfCommit ledger unit locks → FollowUnits ledger lists
    → AgreeEach (with_unit ledger unit) (with_list unit.key (saved_locks unit locks) lists)
recorded_agree ledger unit locks lists new h other waits =
    let key = unit.key in
    let saved = saved_locks unit locks in
    let written = with_list key saved lists in
    let unlisted = none_listed ledger lists key (λ here. unheard_shut ledger key new.fresh here) h.only in
    let own : entries_of (ledger.units ++ unit ∷ []) key ≡ listed_of written key =
    entries_recorded ledger unit new.new
    ∙ new.entries
    ∙ sym (handed_as_stored key unit.user locks)
    ∙ sym (listed_own lists key saved unlisted) in
    elim (cases_Bool (same_unit key other)) [
      | inl same ↦ subst (λ (k : UnitKey). entries_of (ledger.units ++ unit ∷ []) k ≡ listed_of written k) (one_unit key other same) own
      | inr apart ↦
          entries_beside ledger unit other apart
          ∙ h.agree other (sym (recorded_other ledger unit other new.fresh apart) ∙ waits)
          ∙ sym (listed_other lists key other saved apart)
    ]

recorded_lists : (ledger : Ledger) (unit : UnitOfWork) (locks : List Entry) (lists : List Handed) → IsOfCommit ledger unit locks → FollowUnits ledger lists
    → FollowUnits (with_unit ledger unit) (with_list unit.key (saved_locks unit locks) lists)
recorded_lists ledger unit locks lists new h = record {
  agree = recorded_agree ledger unit locks lists new h;
  only = every_with (IsOpenUnit (with_unit ledger unit)) lists unit.key (saved_locks unit locks) (recorded_here ledger unit)
      (every_more (IsOfOpen ledger) (IsOfOpen (with_unit ledger unit)) (λ x waits. recorded_open ledger unit x.unit new.fresh waits) lists h.only);
}

-- ---- ledgers with the same open units

pub record SameOpen (before after : Ledger) : Type 0 where
  pub units : after.units ≡ before.units
  pub stays : (unit : UnitKey) → IsOpenUnit before unit → IsOpenUnit after unit
  pub was : (unit : UnitKey) → IsOpenUnit after unit → IsOpenUnit before unit

same_each : (before after : Ledger) (lists : List Handed) → SameOpen before after → AgreeEach before lists → AgreeEach after lists
same_each before after lists same h unit waits = ap (λ us. entries_of us unit) same.units ∙ h unit (same.was unit waits)

pub same_agree : (before after : Ledger) (lists : List Handed) → SameOpen before after → AgreeAll before lists → AgreeAll after lists
same_agree before after lists same h = all_agree after lists (same_each before after lists same (each_agree before lists h))

pub same_lists : (before after : Ledger) (lists : List Handed) → SameOpen before after → AreOpenLists before lists → AreOpenLists after lists
same_lists before after lists same h =
    let all = follow_units before lists h in
    are_open_lists after lists (record {
      agree = same_each before after lists same all.agree;
      only = every_more (IsOfOpen before) (IsOfOpen after) (λ x waits. same.stays x.unit waits) lists all.only;
    })

-- other levels
levels_same : (ledger : Ledger) (levels : List StoredInterval) → SameOpen ledger (with_intervals levels ledger)
levels_same ledger levels = record { units = refl; stays = λ unit waits. waits; was = λ unit waits. waits }

-- numbers that are recorded alone, with the levels that they leave
pub numbers_same : (ledger : Ledger) (key : UnitKey) (numbers : List Number) (levels : List StoredInterval)
    → SameOpen ledger (with_intervals levels (with_mark ledger key (Num numbers)))
numbers_same ledger key numbers levels = record {
  units = refl;
  stays = λ unit waits. numbers_leave ledger key unit numbers ∙ waits;
  was = λ unit waits. sym (numbers_leave ledger key unit numbers) ∙ waits;
}

-- ---- marks behind which their unit isn't open

-- whatever is open behind such a mark was open before it
was_open : (ledger : Ledger) (key other : UnitKey) (kind : MarkKind) → EndsFirst kind → IsOpenUnit (with_mark ledger key kind) other → IsOpenUnit ledger other
was_open ledger key other kind ends waits = sym (marked_other ledger key other kind (apart_from_ended ledger key other kind ends waits)) ∙ waits

-- and of a unit that wasn't open before it either it leaves the open ones
pub shut_same : (ledger : Ledger) (key : UnitKey) (kind : MarkKind) (status : Status) → EndsFirst kind → status_in ledger key ≡ Some status
    → (status ≡ Open → ⊥) → SameOpen ledger (with_mark ledger key kind)
shut_same ledger key kind status ends here differs = record {
  units = refl;
  stays = λ unit waits. marked_other ledger key unit kind (apart_from_shut ledger key unit (λ k. status_shut ledger key status here differs k) waits) ∙ waits;
  was = λ unit waits. was_open ledger key unit kind ends waits;
}

pub ends_first : (o : Outcome) → EndsFirst (kind_for V1 o)
ends_first outcome.Done true before h = cc
ends_first outcome.Done false before h = cc
ends_first (outcome.Refused index reason) b before h = cc

pub ends_second : (o : Outcome) → EndsFirst (kind_for V2 o)
ends_second outcome.Done b before h = cc
ends_second (outcome.Refused index reason) b before h = cc

pub ends_gone : EndsFirst Gone
ends_gone b before h = cc

pub ends_again : EndsFirst Again2
ends_again b before h = cc

-- what a V2 part comes to, of a unit that waits for it
pub second_same : (ledger : Ledger) (key : UnitKey) (o : Outcome) → status_in ledger key ≡ Some Posted → SameOpen ledger (with_mark ledger key (kind_for V2 o))
second_same ledger key o here = shut_same ledger key (kind_for V2 o) Posted (ends_second o) here posted_differs

-- a V2 part that is tried again
pub again_same : (ledger : Ledger) (key : UnitKey) → status_in ledger key ≡ Some BadSecond → SameOpen ledger (with_mark ledger key Again2)
again_same ledger key here = shut_same ledger key Again2 BadSecond ends_again here second_differs

-- a unit that is cancelled and of which a part was refused
pub gone_same : (ledger : Ledger) (key : UnitKey) → status_in ledger key ≡ Some Bad → SameOpen ledger (with_mark ledger key Gone)
gone_same ledger key here = shut_same ledger key Gone Bad ends_gone here bad_differs

pub gone_second_same : (ledger : Ledger) (key : UnitKey) → status_in ledger key ≡ Some BadSecond → SameOpen ledger (with_mark ledger key Gone)
gone_second_same ledger key here = shut_same ledger key Gone BadSecond ends_gone here second_differs

-- ---- the V1 part of a unit ends

-- with its list as without it the other units agree
pub ended_agree : (ledger : Ledger) (key : UnitKey) (kind : MarkKind) (lists : List Handed) → EndsFirst kind → AgreeAll ledger lists
    → AgreeAll (with_mark ledger key kind) lists
ended_agree ledger key kind lists ends h = all_agree (with_mark ledger key kind) lists
    (λ unit waits. each_agree ledger lists h unit (was_open ledger key unit kind ends waits))

freed_each : (ledger : Ledger) (key : UnitKey) (kind : MarkKind) (lists : List Handed) → EndsFirst kind → AgreeEach ledger lists
    → AgreeEach (with_mark ledger key kind) (without key lists)
freed_each ledger key kind lists ends h unit waits =
    let apart = apart_from_ended ledger key unit kind ends waits in
    h unit (was_open ledger key unit kind ends waits)
    ∙ sym (entries-without lists key unit ∙ ap (λ b. if b then [] else listed_of lists unit) apart)

pub ended_without : (ledger : Ledger) (key : UnitKey) (kind : MarkKind) (lists : List Handed) → EndsFirst kind → AgreeAll ledger lists
    → AgreeAll (with_mark ledger key kind) (without key lists)
ended_without ledger key kind lists ends h = all_agree (with_mark ledger key kind) (without key lists)
    (freed_each ledger key kind lists ends (each_agree ledger lists h))

apart_by_not : (b : Bool) → not b ≡ true → b ≡ false
apart_by_not true h = cc
apart_by_not false h = refl

-- the lists are those of the open units again once the unit's is freed
pub ended_lists : (ledger : Ledger) (key : UnitKey) (kind : MarkKind) (lists : List Handed) → EndsFirst kind → AreOpenLists ledger lists
    → AreOpenLists (with_mark ledger key kind) (without key lists)
ended_lists ledger key kind lists ends h =
    let all = follow_units ledger lists h in
    are_open_lists (with_mark ledger key kind) (without key lists) (record {
      agree = freed_each ledger key kind lists ends all.agree;
      only = every_kept (IsOfOpen ledger) (IsOfOpen (with_mark ledger key kind)) (λ x. not (same_unit x.unit key))
          (λ x waits test. marked_other ledger key x.unit kind (flip key x.unit (apart_by_not (same_unit x.unit key) test)) ∙ waits) lists all.only;
    })

-- ---- commits

-- once the unit's list is written and the unit is recorded, with these levels
pub committed_lists : (ledger : Ledger) (unit : UnitOfWork) (levels : List StoredInterval) (locks : List Entry) (lists : List Handed)
    → IsOfCommit ledger unit locks → AreOpenLists ledger lists
    → AreOpenLists (with_intervals levels (with_unit ledger unit)) (with_list unit.key (saved_locks unit locks) lists)
committed_lists ledger unit levels locks lists new h =
    let written = with_list unit.key (saved_locks unit locks) lists in
    same_lists (with_unit ledger unit) (with_intervals levels (with_unit ledger unit)) written (levels_same (with_unit ledger unit) levels)
    (are_open_lists (with_unit ledger unit) written (recorded_lists ledger unit locks lists new (follow_units ledger lists h)))

-- the list is written, and the unit isn't recorded
pub uncommitted_agree : (ledger : Ledger) (key : UnitKey) (es : List Entry) (lists : List Handed) → status_in ledger key ≡ None → AgreeAll ledger lists
    → AgreeAll ledger (with_list key es lists)
uncommitted_agree ledger key es lists fresh h = beside_agree ledger key es lists (λ waits. unheard_shut ledger key fresh waits) h

-- ---- the V1 part of a unit is tried again

again_each : (ledger : Ledger) (key : UnitKey) (user : List ℕ) (es : List Entry) (lists : List Handed) → status_in ledger key ≡ Some Bad
    → es ≡ entries_of ledger.units key → AllByRecursion (λ (e : Entry). e.user ≡ user) es → AllByRecursion (λ (e : Entry). e.handed ≡ true) es
    → FollowUnits ledger lists
    → AgreeEach (with_mark ledger key Again1) (with_list key es lists)
again_each ledger key user es lists here is used flags h other waits =
    let unlisted = none_listed ledger lists key (λ k. status_shut ledger key Bad here bad_differs k) h.only in
    let own : entries_of ledger.units key ≡ listed_of (with_list key es lists) key =
    sym is
    ∙ sym (returned_as_kept key user es (All-from_recursion (λ (e : Entry). e.user ≡ user) es used)
    (All-from_recursion (λ (e : Entry). e.handed ≡ true) es flags))
    ∙ sym (listed_own lists key es unlisted) in
    elim (cases_Bool (same_unit key other)) [
      | inl same ↦ subst (λ (k : UnitKey). entries_of ledger.units k ≡ listed_of (with_list key es lists) k) (one_unit key other same) own
      | inr apart ↦ h.agree other (sym (marked_other ledger key other Again1 apart) ∙ waits) ∙ sym (listed_other lists key other es apart)
    ]

-- once the unit's stored locks are written as its list, and the mark is
pub again_lists : (ledger : Ledger) (key : UnitKey) (user : List ℕ) (es : List Entry) (lists : List Handed) → status_in ledger key ≡ Some Bad
    → es ≡ entries_of ledger.units key → AllByRecursion (λ (e : Entry). e.user ≡ user) es → AllByRecursion (λ (e : Entry). e.handed ≡ true) es
    → AreOpenLists ledger lists
    → AreOpenLists (with_mark ledger key Again1) (with_list key es lists)
again_lists ledger key user es lists here is used flags h =
    let all = follow_units ledger lists h in
    let apart : (x : Handed) → IsOfOpen ledger x → same_unit key x.unit ≡ false =
    λ x waits. apart_from_shut ledger key x.unit (λ k. status_shut ledger key Bad here bad_differs k) waits in
    are_open_lists (with_mark ledger key Again1) (with_list key es lists) (record {
      agree = again_each ledger key user es lists here is used flags all;
      only = every_with (IsOpenUnit (with_mark ledger key Again1)) lists key es (status_marked ledger key Again1)
          (every_more (IsOfOpen ledger) (IsOfOpen (with_mark ledger key Again1))
          (λ x waits. marked_other ledger key x.unit Again1 (apart x waits) ∙ waits) lists all.only);
    })

-- the list is written, and the mark isn't
pub unagain_agree : (ledger : Ledger) (key : UnitKey) (es : List Entry) (lists : List Handed) → status_in ledger key ≡ Some Bad → AgreeAll ledger lists
    → AgreeAll ledger (with_list key es lists)
unagain_agree ledger key es lists here h = beside_agree ledger key es lists (λ waits. status_shut ledger key Bad here bad_differs waits) h

-- the same with the locks that are stored with the unit
pub reopened_lists : (ledger : Ledger) (key : UnitKey) (lists : List Handed) → status_in ledger key ≡ Some Bad → AllByRecursion HasGoodLocks ledger.units
    → AreOpenLists ledger lists
    → AreOpenLists (with_mark ledger key Again1) (with_list key (entries_of ledger.units key) lists)
reopened_lists ledger key lists here good h =
    let used = stored_used ledger.units key good in
    again_lists ledger key used.0 (entries_of ledger.units key) lists here refl used.1 (stored_flags ledger.units key good) h

pub reopened_agree : (ledger : Ledger) (key : UnitKey) (lists : List Handed) → status_in ledger key ≡ Some Bad → AllByRecursion HasGoodLocks ledger.units
    → AreOpenLists ledger lists
    → AgreeAll (with_mark ledger key Again1) (with_list key (entries_of ledger.units key) lists)
reopened_agree ledger key lists here good h = (reopened_lists ledger key lists here good h).agree
