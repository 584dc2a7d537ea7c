-- The units whose lists stand in the backup file are those that wait for their V1 part and have locks.
use Rattle.std.proofs.Common.{◌≡◌, inl, inr, Bool, true, false, not, ◌&&◌, ◌||◌, List, [], ◌∷◌, length, map, refl, sym, ap, ◌∙◌, subst}
use Rattle.std.specs.Prelude.{nat_lt, Some}
use Rattle.std.specs.Cmp.{both_ways}
use Rattle.std.specs.List.{AllByRecursion}
use Rattle.std.proofs.lemmas.Bool.{cases_Bool, false_from_ne_true}
use Rattle.std.proofs.lemmas.List.{length-map}
use Rattle.backup_file.specs.Handing.{as_handed}
use Rattle.backup_file.specs.Lists.{is_known}
use Rattle.enq_base.specs.declared.unit_id.UnitId.{UnitId}
use Rattle.enq_base.specs.Owners.{same_unit}
use Rattle.enq_base.specs.declared.owner.UnitKey.{UnitKey}
use Rattle.enq_base.specs.declared.unit.Status.TheVariants.{Bad, Open}
use Rattle.enq_server.proofs.lemmas.Known.{locking_one}
use Rattle.enq_server.specs.Recovery.{AreKnown, AreWith, is_one_of, locking}
use Rattle.enq_server.specs.Server.{lasting}
use Rattle.lock_entry.specs.declared.entry.Entry.{Entry}
use Rattle.lock_entry.specs.declared.entry.UnitLocks.{UnitLocks}
use Rattle.ledger_steps.specs.Intervals.{with_intervals}
use Rattle.ledger_steps.specs.Posts.{entries_of}
use Rattle.ledger_steps.specs.Steps.{waiting_for}
use Rattle.ledger_steps.specs.Views.{locks_of, open_locks}
use Rattle.record_laws.proofs.Status.{one_unit, unit_refl}
use Rattle.update_records.specs.Growing.{with_mark, with_unit}
use Rattle.update_records.specs.Ledger.{Ledger}
use Rattle.update_records.specs.Marks.{has_status}
use Rattle.update_records.specs.declared.records.MarkKind.{MarkKind}
use Rattle.update_records.specs.declared.records.MarkKind.TheVariants.{Again1}
use Rattle.update_records.specs.declared.records.Unit.{Unit as UnitOfWork}
use Rattle.update_records.specs.declared.stored.StoredInterval.{StoredInterval}
use Rattle.model_laws.proofs.BesideRecorded.{entries_beside}
use Rattle.model_laws.proofs.EachLock.{recorded_here}
use Rattle.model_laws.proofs.OtherStatuses.{EndsFirst, apart_from_ended, marked_other, of_has, recorded_other, status_in, status_marked}
use Rattle.hall_model.specs.OpenUnits.{waits_with_locks}
use Rattle.hall_calls.proofs.lists.BehindMarks.{SameOpen, entries_recorded, handed_alike}
use Rattle.hall_calls.proofs.lemmas.OfOpenUnits.{one_of_open, open_of_one}
use Rattle.hall_calls.specs.Commits.{IsOfCommit}
use Rattle.hall_calls.specs.Filing.{AreWaiting, stays_known}
use Rattle.ledger_steps.specs.declared.part.Part.TheVariants.{V1}

never : (a : Bool) → (a && false) ≡ false
never true = refl
never false = refl

always : (a : Bool) → (a && true) ≡ a
always true = refl
always false = refl

-- ---- at an opening

own_entries : (ledger : Ledger) (keys : List UnitKey)
    → AllByRecursion (λ (v : UnitLocks). v.entries ≡ entries_of ledger.units v.unit) (map (locks_of ledger) keys)
own_entries ledger [] = tt
own_entries ledger (key ∷ keys) = (refl, own_entries ledger keys)

one_is_open : (ledger : Ledger) (unit : UnitKey) → is_one_of (open_locks ledger) unit ≡ has_status Open (status_in ledger unit)
one_is_open ledger unit =
    both_ways (is_one_of (open_locks ledger) unit) (has_status Open (status_in ledger unit)) (λ h. ap (has_status Open) (open_of_one ledger unit h))
    (λ h. one_of_open ledger unit (of_has Open (status_in ledger unit) h))

-- once the file has the lists of the open units with locks, and no others
pub known_waiting : (ledger : Ledger) (units : List UnitId) → AreKnown units (locking (open_locks ledger)) → AreWaiting ledger units
known_waiting ledger units known = λ unit.
    known unit
    ∙ locking_one (entries_of ledger.units) (open_locks ledger) unit (own_entries ledger (waiting_for V1 ledger))
    ∙ ap (λ b. b && nat_lt 0 (length (entries_of ledger.units unit))) (one_is_open ledger unit)

-- ---- ledgers with the same open units

pub same_waiting : (before after : Ledger) → SameOpen before after → (unit : UnitKey) → waits_with_locks after unit ≡ waits_with_locks before unit
same_waiting before after same unit =
    let status : has_status Open (status_in after unit) ≡ has_status Open (status_in before unit) =
    both_ways (has_status Open (status_in after unit)) (has_status Open (status_in before unit))
    (λ h. ap (has_status Open) (same.was unit (of_has Open (status_in after unit) h)))
    (λ h. ap (has_status Open) (same.stays unit (of_has Open (status_in before unit) h))) in
    λ i. status i && nat_lt 0 (length (entries_of (same.units i) unit))

pub same_known : (before after : Ledger) (units : List UnitId) → SameOpen before after → AreWaiting before units → AreWaiting after units
same_known before after units same are = λ unit. are unit ∙ sym (same_waiting before after same unit)

-- ---- a unit whose list goes, where it ends

true_not_false : true ≡ false → ⊥
true_not_false e = cc

shut_behind : (ledger : Ledger) (key other : UnitKey) (kind : MarkKind) → EndsFirst kind → same_unit key other ≡ true
    → has_status Open (status_in (with_mark ledger key kind) other) ≡ false
shut_behind ledger key other kind ends same =
    let status = status_in (with_mark ledger key kind) other in
    false_from_ne_true (has_status Open status)
    (λ h. true_not_false (sym same ∙ apart_from_ended ledger key other kind ends (of_has Open status h)))

pub ended_waiting : (ledger : Ledger) (key other : UnitKey) (kind : MarkKind) → EndsFirst kind
    → waits_with_locks (with_mark ledger key kind) other ≡ (waits_with_locks ledger other && not (same_unit key other))
ended_waiting ledger key other kind ends =
    let some : Bool = nat_lt 0 (length (entries_of ledger.units other)) in
    elim (cases_Bool (same_unit key other)) [
      | inl same ↦
          ap (λ b. b && some) (shut_behind ledger key other kind ends same)
          ∙ sym (ap (λ b. waits_with_locks ledger other && not b) same ∙ never (waits_with_locks ledger other))
      | inr apart ↦
          ap (λ o. has_status Open o && some) (marked_other ledger key other kind apart)
          ∙ sym (ap (λ b. waits_with_locks ledger other && not b) apart ∙ always (waits_with_locks ledger other))
    ]

-- one that waits as before
pub kept_waiting : (before after : Ledger) (key other : UnitKey) → SameOpen before after
    → waits_with_locks after other ≡ (waits_with_locks before other && not (false && same_unit key other))
kept_waiting before after key other same = same_waiting before after same other ∙ sym (always (waits_with_locks before other))

pub ended_known : (before after : Ledger) (ends : Bool) (unit : UnitKey) (old new : List UnitId) → AreWaiting before old
    → ((other : UnitKey) → is_known other new ≡ stays_known ends unit old other)
    → ((other : UnitKey) → waits_with_locks after other ≡ (waits_with_locks before other && not (ends && same_unit unit other))) → AreWaiting after new
ended_known before after ends unit old new are stays follows = λ other.
    stays other ∙ ap (λ b. b && not (ends && same_unit unit other)) (are other) ∙ sym (follows other)

-- ---- a unit whose list comes, where it has locks

here_alone : (some t w : Bool) → t ≡ true → w ≡ false → ((some && t) || w) ≡ some
here_alone some t w own none = (λ i. (some && own i) || none i) ∙ whole some
  where
    whole : (b : Bool) → ((b && true) || false) ≡ b
    whole true = refl
    whole false = refl

apart_alone : (some t w : Bool) → t ≡ false → ((some && t) || w) ≡ w
apart_alone some t w apart = ap (λ b. (some && b) || w) apart ∙ ap (λ b. b || w) (never some)

grown_waiting : (before after : Ledger) (key : UnitKey) (some : Bool) → waits_with_locks after key ≡ some → waits_with_locks before key ≡ false
    → ((other : UnitKey) → same_unit key other ≡ false → waits_with_locks after other ≡ waits_with_locks before other)
    → (other : UnitKey) → waits_with_locks after other ≡ ((some && same_unit key other) || waits_with_locks before other)
grown_waiting before after key some own none beside other =
    elim (cases_Bool (same_unit key other)) [
      | inl same ↦ subst (λ (k : UnitKey). waits_with_locks after k ≡ ((some && same_unit key k) || waits_with_locks before k)) (one_unit key other same)
          (own ∙ sym (here_alone some (same_unit key key) (waits_with_locks before key) (unit_refl key) none))
      | inr apart ↦ beside other apart ∙ sym (apart_alone some (same_unit key other) (waits_with_locks before other) apart)
    ]

grown_known : (before after : Ledger) (key : UnitKey) (es : List Entry) (old new : List UnitId) → AreWaiting before old → AreWith key es old new
    → ((other : UnitKey) → waits_with_locks after other ≡ ((nat_lt 0 (length es) && same_unit key other) || waits_with_locks before other))
    → AreWaiting after new
grown_known before after key es old new are with_it follows = λ other.
    with_it other ∙ ap (λ b. (nat_lt 0 (length es) && same_unit key other) || b) (are other) ∙ sym (follows other)

-- it is recorded

recorded_own : (ledger : Ledger) (unit : UnitOfWork) (locks : List Entry) → IsOfCommit ledger unit locks
    → waits_with_locks (with_unit ledger unit) unit.key ≡ nat_lt 0 (length (lasting unit.key locks))
recorded_own ledger unit locks commit =
    let stored = commit.entries ∙ sym (handed_alike unit.key unit.user locks) in
    (λ i. has_status Open (recorded_here ledger unit i) && nat_lt 0 (length (entries_recorded ledger unit commit.new i)))
    ∙ ap (nat_lt 0) (ap length stored ∙ length-map (lasting unit.key locks) (as_handed unit.user))

recorded_beside : (ledger : Ledger) (unit : UnitOfWork) (locks : List Entry) → IsOfCommit ledger unit locks → (other : UnitKey)
    → same_unit unit.key other ≡ false → waits_with_locks (with_unit ledger unit) other ≡ waits_with_locks ledger other
recorded_beside ledger unit locks commit other apart =
    λ i. has_status Open (recorded_other ledger unit other commit.fresh apart i) && nat_lt 0 (length (entries_beside ledger unit other apart i))

-- with these levels, once its list is written
pub committed_known : (ledger : Ledger) (unit : UnitOfWork) (levels : List StoredInterval) (locks : List Entry) (old new : List UnitId)
    → IsOfCommit ledger unit locks → AreWaiting ledger old → AreWith unit.key (lasting unit.key locks) old new
    → AreWaiting (with_intervals levels (with_unit ledger unit)) new
committed_known ledger unit levels locks old new commit are with_it =
    let shut = ap (λ o. has_status Open o && nat_lt 0 (length (entries_of ledger.units unit.key))) commit.fresh in
    grown_known ledger (with_unit ledger unit) unit.key (lasting unit.key locks) old new are with_it
    (grown_waiting ledger (with_unit ledger unit) unit.key (nat_lt 0 (length (lasting unit.key locks))) (recorded_own ledger unit locks commit) shut
    (recorded_beside ledger unit locks commit))

-- its V1 part is tried again, once the stored locks are written as its list
pub again_known : (ledger : Ledger) (key : UnitKey) (es : List Entry) (old new : List UnitId) → status_in ledger key ≡ Some Bad
    → es ≡ entries_of ledger.units key → AreWaiting ledger old → AreWith key es old new → AreWaiting (with_mark ledger key Again1) new
again_known ledger key es old new here is are with_it =
    let some : Bool = nat_lt 0 (length es) in
    let shut = ap (λ o. has_status Open o && nat_lt 0 (length (entries_of ledger.units key))) here in
    let own : waits_with_locks (with_mark ledger key Again1) key ≡ some =
    ap (λ o. has_status Open o && nat_lt 0 (length (entries_of ledger.units key))) (status_marked ledger key Again1)
    ∙ ap (λ xs. nat_lt 0 (length xs)) (sym is) in
    grown_known ledger (with_mark ledger key Again1) key es old new are with_it
    (grown_waiting ledger (with_mark ledger key Again1) key some own shut
    (λ other apart. ap (λ o. has_status Open o && nat_lt 0 (length (entries_of ledger.units other))) (marked_other ledger key other Again1 apart)))
