-- Units in a quiet call: which wait for their V1 part, which are past it, and what a commit records.
use Rattle.std.proofs.Common.{◌≡◌, ◌≢◌, ◌⊎◌, inl, inr, ℕ, Bool, true, false, List, [], ◌∷◌, ◌++◌, refl, sym, ap, ◌∙◌, subst}
use Rattle.std.specs.Prelude.{◌&&◌, if◌then◌else◌, IsTrue, Option, Some, None}
use Rattle.std.specs.Option.{option_map_or}
use Rattle.enq_base.specs.Owners.{same_unit}
use Rattle.enq_base.specs.declared.condition.Condition.TheVariants as condition
use Rattle.enq_base.specs.declared.owner.UnitKey.{UnitKey}
use Rattle.enq_base.specs.declared.refusal.Refusal.{Refusal}
use Rattle.enq_base.specs.declared.refusal.Refusal.TheVariants as refusal
use Rattle.enq_base.specs.declared.unit.Num.{Num}
use Rattle.enq_base.specs.declared.unit.Parts.{Parts}
use Rattle.enq_base.specs.declared.unit.Reason.{Reason}
use Rattle.enq_base.specs.declared.unit.Status.{Status}
use Rattle.enq_base.specs.declared.unit.Status.TheVariants as status
use Rattle.ledger_steps.specs.Posts.{WaitsFor, entries_of, kind_for}
use Rattle.ledger_steps.specs.Steps.{IsOpenUnit, IsPostedUnit}
use Rattle.ledger_steps.specs.declared.step.Outcome.{Outcome}
use Rattle.ledger_steps.specs.declared.step.Outcome.TheVariants as outcome
use Rattle.record_laws.proofs.Status.{flip, one_unit, unit_new}
use Rattle.update_records.specs.Growing.{with_mark, with_unit}
use Rattle.update_records.specs.Ledger.{Ledger}
use Rattle.update_records.specs.Marks.{given, has_no_v2}
use Rattle.update_records.specs.declared.records.MarkKind.{MarkKind}
use Rattle.update_records.specs.declared.records.MarkKind.TheVariants as mark
use Rattle.update_records.specs.declared.records.Unit.{Unit as UnitOfWork}
use Rattle.hall_laws.proofs.keeping.UnitsToCome.{open_unheard}
use Rattle.model_laws.proofs.BesideRecorded.{entries_beside}
use Rattle.model_laws.proofs.EachLock.{recorded_here}
use Rattle.model_laws.proofs.NotedCalls.{full_or}
use Rattle.model_laws.proofs.OtherStatuses.{apart_by, apart_by_status, marked_other, numbers_leave, recorded_open, recorded_other, status_in, status_marked}
use Rattle.hall_model.specs.Calls.{AdminCall, Call, OfSession, OfWorker, OfAdmin, Commits, Posts, SessionCall, call_of, wants_server}
use Rattle.hall_model.specs.Devices.{found_by}
use Rattle.hall_model.specs.Kept.{IsSteady}
use Rattle.hall_model.specs.Recall.{recalled}
use Rattle.hall_model.specs.Sessions.{session_at, unit_key}
use Rattle.hall_model.specs.State.{State}
use Rattle.hall_model.specs.Step.{Found, handed_locks, posted_reply, session_refusal, unavailable, unit_of}
use Rattle.hall_model.specs.declared.command.Reply.{Reply}
use Rattle.hall_model.specs.declared.command.Reply.TheVariants as reply
use Rattle.hall_model.specs.declared.command.Session.{Session}
use Rattle.cover_laws.proofs.calls.MarkedCalls.{OfMarks, by_marks, may_be_unmarked}
use Rattle.cover_laws.proofs.calls.QuietCalls.{Leaving, by_stored, by_served, caller_served, none_in_flight, served_up}
use Rattle.cover_laws.proofs.needed.HallNeeded.{CommitsRecord, FirstPartsWait, IsPast, IsSure, OpenStays, PastStays, SecondPartsFollow, WaitsOn, WaitsUp}
use Rattle.cover_laws.specs.Histories.{is_unit, resubmits, settles}
use Rattle.ledger_steps.specs.declared.part.Part.{Part}
use Rattle.ledger_steps.specs.Parts.{is_first}

-- ---- what a mark leaves of a unit

-- the unit is recorded, and doesn't wait for its V1 part
record PastIn (ledger : Ledger) (unit : UnitKey) : Type 0 where
  now : Status
  here : status_in ledger unit ≡ Some now
  other : now ≢ status.Open

-- behind the mark its unit doesn't wait for its V1 part, whatever it was before
record Ends (kind : MarkKind) : Type 0 where
  now : Bool → Status
  leaves : (b : Bool) (before : Option Status) → given b kind before ≡ Some (now b)
  other : (b : Bool) → now b ≢ status.Open

posted_apart : (b : Bool) → (if b then status.Closed else status.Posted) ≢ status.Open
posted_apart true e = cc
posted_apart false e = cc

bad_apart : status.Bad ≢ status.Open
bad_apart e = cc

bad2_apart : status.Bad2 ≢ status.Open
bad2_apart e = cc

closed_apart : status.Closed ≢ status.Open
closed_apart e = cc

cancelled_apart : status.Cancelled ≢ status.Open
cancelled_apart e = cc

v1_ends : Ends mark.V1
v1_ends = record { now = λ b. if b then status.Closed else status.Posted; leaves = λ b before. refl; other = posted_apart }

bad1_ends : (index : ℕ) (reason : Reason) → Ends (mark.Bad1 index reason)
bad1_ends index reason = record { now = λ b. status.Bad; leaves = λ b before. refl; other = λ b. bad_apart }

v2_ends : Ends mark.V2
v2_ends = record { now = λ b. status.Closed; leaves = λ b before. refl; other = λ b. closed_apart }

bad2_ends : (index : ℕ) (reason : Reason) → Ends (mark.Bad2 index reason)
bad2_ends index reason = record { now = λ b. status.Bad2; leaves = λ b before. refl; other = λ b. bad2_apart }

gone_ends : Ends mark.Gone
gone_ends = record { now = λ b. status.Cancelled; leaves = λ b before. refl; other = λ b. cancelled_apart }

part_ends : (part : Part) (o : Outcome) → Ends (kind_for part o)
part_ends part outcome.Done = elim (is_first part) as (λ b. Ends (if b then mark.V1 else mark.V2)) [ true ↦ v1_ends | false ↦ v2_ends ]
part_ends part (outcome.Refused index reason) =
    elim (is_first part) as (λ b. Ends (if b then mark.Bad1 index reason else mark.Bad2 index reason)) [
      | true ↦ bad1_ends index reason
      | false ↦ bad2_ends index reason
    ]

-- one key, or two
by_key : (P : Type 0) (key unit : UnitKey) → (key ≡ unit → P) → (same_unit key unit ≡ false → P) → P
by_key P key unit same apart = full_or P (same_unit key unit) (λ e. same (one_unit key unit e)) apart

ended : (ledger : Ledger) (key unit : UnitKey) (kind : MarkKind) → Ends kind → key ≡ unit → PastIn (with_mark ledger key kind) unit
ended ledger key unit kind ends same =
    let b = has_no_v2 ledger.units key in
    let own : PastIn (with_mark ledger key kind) key = record {
      now = ends.now b;
      here = status_marked ledger key kind ∙ ends.leaves b (status_in ledger key);
      other = ends.other b;
    } in
    subst (PastIn (with_mark ledger key kind)) same own

-- a unit that is recorded is another one than one of which nothing was heard
apart_from_new : (ledger : Ledger) (key unit : UnitKey) (was : Status) → status_in ledger unit ≡ Some was → status_in ledger key ≡ None
    → same_unit key unit ≡ false
apart_from_new ledger key unit was here new = flip key unit (apart_by_status ledger unit key was here new)

-- ---- units that don't wait

past_marked : (ledger : Ledger) (key unit : UnitKey) (kind : MarkKind) → Ends kind → PastIn ledger unit → PastIn (with_mark ledger key kind) unit
past_marked ledger key unit kind ends h =
    by_key (PastIn (with_mark ledger key kind) unit) key unit (ended ledger key unit kind ends)
    (λ apart. record { now = h.now; here = marked_other ledger key unit kind apart ∙ h.here; other = h.other })

not_again : {P : Type 0} → true ≡ false → P
not_again e = cc

abbrev PastBehind : UnitKey → Call → Ledger → Reply → Type 0
PastBehind unit call ledger r = (resubmits call && is_unit r) ≡ false → PastIn ledger unit

past_on : (found : Found) (s : State) (unit : UnitKey) → IsSteady s → PastIn s.stored unit → OfMarks (PastBehind unit) found s
past_on found s unit steady h = record {
  none = λ call levels r plain once. record { now = h.now; here = h.here; other = h.other };
  numbers = λ call key numbers levels once.
      record { now = h.now; here = numbers_leave s.stored key unit numbers ∙ h.here; other = h.other };
  records = λ name x parts stock levels at once.
      let key = unit_key s.stored.start x in
      let new : status_in s.stored key ≡ None = open_unheard s name x at steady.fresh in
      record {
        now = h.now;
        here = recorded_other s.stored (unit_of s.stored.start s.locks x parts (x.draws ++ stock)) unit new
            (apart_from_new s.stored key unit h.now h.here new) ∙ h.here;
        other = h.other;
      };
  posts = λ worker part key waits once. past_marked s.stored key unit _ (part_ends part (found.part part key)) h;
  cancels = λ key was here may once. past_marked s.stored key unit mark.Gone gone_ends h;
  reopens = λ key here once. not_again once;
  reposts = λ key here once. not_again once;
}

pub past_stays : PastStays
past_stays s m unit quiet past =
    let call = call_of m.call.command in
    let found = found_by m.outcome.reading s in
    let h : PastIn s.stored unit = record { now = past.status; here = past.given; other = past.other } in
    let k = by_stored (PastBehind unit call) s m quiet (λ r once. h)
    (by_marks (PastBehind unit) found s (none_in_flight s m quiet) (past_on found s unit quiet.reached.steady h) call) quiet.once in
    record { status = k.now; given = k.here; other = k.other }

-- ---- units that wait

-- the unit waits on with the locks that were stored with it, or waits no more
record WaitsIn (before after : Ledger) (unit : UnitKey) : Type 0 where
  waits : IsOpenUnit after unit
  entries : entries_of after.units unit ≡ entries_of before.units unit

abbrev GoesOn : Ledger → Ledger → UnitKey → Type 0
GoesOn before after unit = WaitsIn before after unit ⊎ PastIn after unit

open_marked : (ledger : Ledger) (key unit : UnitKey) (kind : MarkKind) → Ends kind → IsOpenUnit ledger unit → GoesOn ledger (with_mark ledger key kind) unit
open_marked ledger key unit kind ends w =
    by_key (GoesOn ledger (with_mark ledger key kind) unit) key unit (λ same. inr (ended ledger key unit kind ends same))
    (λ apart. inl (record { waits = marked_other ledger key unit kind apart ∙ w; entries = refl }))

-- a mark of a unit that doesn't wait
open_beside : (ledger : Ledger) (key unit : UnitKey) (kind : MarkKind) (was : Status) → status_in ledger key ≡ Some was → was ≢ status.Open
    → IsOpenUnit ledger unit → GoesOn ledger (with_mark ledger key kind) unit
open_beside ledger key unit kind was here differs w =
    inl (record { waits = marked_other ledger key unit kind (apart_by ledger key unit was status.Open here w differs) ∙ w; entries = refl })

open_on : (found : Found) (s : State) (unit : UnitKey) → IsSteady s → IsOpenUnit s.stored unit
    → OfMarks (λ call ledger r. GoesOn s.stored ledger unit) found s
open_on found s unit steady w = record {
  none = λ call levels r plain. inl (record { waits = w; entries = refl });
  numbers = λ call key numbers levels. inl (record { waits = numbers_leave s.stored key unit numbers ∙ w; entries = refl });
  records = λ name x parts stock levels at.
      let key = unit_key s.stored.start x in
      let new : status_in s.stored key ≡ None = open_unheard s name x at steady.fresh in
      let recorded = unit_of s.stored.start s.locks x parts (x.draws ++ stock) in
      inl (record {
        waits = recorded_open s.stored recorded unit new w;
        entries = entries_beside s.stored recorded unit (apart_from_new s.stored key unit status.Open w new);
      });
  posts = λ worker part key waits. open_marked s.stored key unit _ (part_ends part (found.part part key)) w;
  cancels = λ key was here may. open_marked s.stored key unit mark.Gone gone_ends w;
  reopens = λ key here. open_beside s.stored key unit mark.Again1 status.Bad here bad_apart w;
  reposts = λ key here. open_beside s.stored key unit mark.Again2 status.Bad2 here bad2_apart w;
}

open_told : (s t : State) (unit : UnitKey) → GoesOn s.stored t.stored unit → WaitsOn s t unit ⊎ IsPast t unit
open_told s t unit (inl h) = inl (record { waits = h.waits; entries = h.entries })
open_told s t unit (inr h) = inr (record { status = h.now; given = h.here; other = h.other })

pub open_stays : OpenStays
open_stays s m unit quiet w =
    let call = call_of m.call.command in
    let found = found_by m.outcome.reading s in
    let P : Ledger → Reply → Type 0 = λ ledger r. GoesOn s.stored ledger unit in
    open_told s (recalled s m) unit
    (by_stored P s m quiet (λ r. inl (record { waits = w; entries = refl }))
    (by_marks (λ call. P) found s (none_in_flight s m quiet) (open_on found s unit quiet.reached.steady w) call))

-- ---- parts that are posted

abbrev IsFirstOf : State → UnitKey → Call → Ledger → Reply → Type 0
IsFirstOf s unit call ledger r = IsTrue (settles unit r) → (wants_server call ≡ true) × IsOpenUnit s.stored unit

unmarked_first : (unit : UnitKey) (call : Call) (r : Reply) → may_be_unmarked r call ≡ true → IsTrue (settles unit r) → ⊥
unmarked_first unit call (reply.Posted other) plain told = cc
unmarked_first unit call (reply.Bad other index reason) plain told = cc
unmarked_first unit call _ plain told = cc

abbrev FirstBy : Ledger → UnitKey → UnitKey → Reply → Reply → Bool → Type 0
FirstBy ledger key unit r q first =
    status_in ledger key ≡ Some (if first then status.Open else status.Posted) → IsTrue (settles unit (if first then r else q))
    → (first ≡ true) × IsOpenUnit ledger unit

not_first : {P : Type 0} → false ≡ true → P
not_first e = cc

part_first : (part : Part) (ledger : Ledger) (key unit : UnitKey) (o : Outcome) → WaitsFor part ledger key
    → IsTrue (settles unit (posted_reply part key o)) → (is_first part ≡ true) × IsOpenUnit ledger unit
part_first part ledger key unit outcome.Done waits told =
    elim (is_first part) as (FirstBy ledger key unit (reply.Posted key) (reply.Closed key)) [
      | true ↦ λ w t. (refl, subst (IsOpenUnit ledger) (one_unit key unit t) w)
      | false ↦ λ w t. not_first t
    ] waits told
part_first part ledger key unit (outcome.Refused index reason) waits told =
    elim (is_first part) as (FirstBy ledger key unit (reply.Bad key index reason) (reply.Bad2 key index reason)) [
      | true ↦ λ w t. (refl, subst (IsOpenUnit ledger) (one_unit key unit t) w)
      | false ↦ λ w t. not_first t
    ] waits told

first_of : (found : Found) (s : State) (unit : UnitKey) → OfMarks (IsFirstOf s unit) found s
first_of found s unit = record {
  none = λ call levels r plain told. absurd (unmarked_first unit call r plain told);
  numbers = λ call key numbers levels told. not_first told;
  records = λ name x parts stock levels at told. not_first told;
  posts = λ worker part key waits told. part_first part s.stored key unit (found.part part key) waits told;
  cancels = λ key was here may told. not_first told;
  reopens = λ key here told. not_first told;
  reposts = λ key here told. not_first told;
}

pub first_parts_wait : FirstPartsWait
first_parts_wait s m unit quiet told =
    let call = call_of m.call.command in
    let found = found_by m.outcome.reading s in
    let P : Ledger → Reply → Type 0 = λ ledger r. IsTrue (settles unit r) → WaitsUp s unit in
    by_stored P s m quiet (λ r t. not_first t)
    (by_served (Leaving P s) found s call (λ r t. not_first t)
    (λ free t.
    let k = by_marks (IsFirstOf s unit) found s (none_in_flight s m quiet) (first_of found s unit) call t in
    record { up = served_up s call free k.0 quiet.sure; waits = k.1 }))
    told

abbrev IsSecondOf : State → UnitKey → Call → Ledger → Reply → Type 0
IsSecondOf s unit call ledger r = r ≡ reply.Closed unit → IsPostedUnit s.stored unit

abbrev SecondBy : Ledger → UnitKey → UnitKey → Reply → Reply → Bool → Type 0
SecondBy ledger key unit r q first =
    status_in ledger key ≡ Some (if first then status.Open else status.Posted) → (if first then r else q) ≡ reply.Closed unit → IsPostedUnit ledger unit

first_closed : (key unit : UnitKey) → reply.Posted key ≡ reply.Closed unit → ⊥
first_closed key unit e = cc

second_closed : (key unit : UnitKey) → reply.Closed key ≡ reply.Closed unit → key ≡ unit
second_closed key unit e = cc

refused_closed : (key unit : UnitKey) (index : ℕ) (reason : Reason) → reply.Bad key index reason ≡ reply.Closed unit → ⊥
refused_closed key unit index reason e = cc

refused2_closed : (key unit : UnitKey) (index : ℕ) (reason : Reason) → reply.Bad2 key index reason ≡ reply.Closed unit → ⊥
refused2_closed key unit index reason e = cc

part_second : (part : Part) (ledger : Ledger) (key unit : UnitKey) (o : Outcome) → WaitsFor part ledger key
    → posted_reply part key o ≡ reply.Closed unit → IsPostedUnit ledger unit
part_second part ledger key unit outcome.Done waits told =
    elim (is_first part) as (SecondBy ledger key unit (reply.Posted key) (reply.Closed key)) [
      | true ↦ λ w t. absurd (first_closed key unit t)
      | false ↦ λ w t. subst (IsPostedUnit ledger) (second_closed key unit t) w
    ] waits told
part_second part ledger key unit (outcome.Refused index reason) waits told =
    elim (is_first part) as (SecondBy ledger key unit (reply.Bad key index reason) (reply.Bad2 key index reason)) [
      | true ↦ λ w t. absurd (refused_closed key unit index reason t)
      | false ↦ λ w t. absurd (refused2_closed key unit index reason t)
    ] waits told

unmarked_second : (unit : UnitKey) (call : Call) (r : Reply) → may_be_unmarked r call ≡ true → r ≡ reply.Closed unit → ⊥
unmarked_second unit call r plain told = not_again (sym plain ∙ ap (λ q. may_be_unmarked q call) told)

unit_closed : (key unit : UnitKey) → reply.Unit key ≡ reply.Closed unit → ⊥
unit_closed key unit e = cc

done_closed : (unit : UnitKey) → reply.Done ≡ reply.Closed unit → ⊥
done_closed unit e = cc

second_of : (found : Found) (s : State) (unit : UnitKey) → OfMarks (IsSecondOf s unit) found s
second_of found s unit = record {
  none = λ call levels r plain told. absurd (unmarked_second unit call r plain told);
  numbers = λ call key numbers levels told. absurd (done_closed unit told);
  records = λ name x parts stock levels at told. absurd (unit_closed (unit_key s.stored.start x) unit told);
  posts = λ worker part key waits told. part_second part s.stored key unit (found.part part key) waits told;
  cancels = λ key was here may told. absurd (unit_closed key unit told);
  reopens = λ key here told. absurd (unit_closed key unit told);
  reposts = λ key here told. absurd (unit_closed key unit told);
}

refused_second : (unit : UnitKey) (r : Refusal) → reply.Refused r ≡ reply.Closed unit → ⊥
refused_second unit r e = cc

pub second_parts_follow : SecondPartsFollow
second_parts_follow s m unit quiet told =
    let call = call_of m.call.command in
    let found = found_by m.outcome.reading s in
    by_stored (IsSecondOf s unit call) s m quiet (λ r t. absurd (refused_second unit r t))
    (by_marks (IsSecondOf s unit) found s (none_in_flight s m quiet) (second_of found s unit) call)
    told

-- ---- commits

-- a unit was the session's open one, and waits with the locks that are handed over to it
record RecordsIn (s : State) (ledger : Ledger) (name : List ℕ) (unit : UnitKey) : Type 0 where
  up : s.condition ≡ condition.Up
  session : Session
  at : session_at s.sessions name ≡ Some session
  key : unit_key s.stored.start session ≡ unit
  kept : session.lost ≡ false
  waits : IsOpenUnit ledger unit
  entries : entries_of ledger.units unit ≡ handed_locks session.user s.locks unit

not_lost : (b : Bool) → (if b && true then Some refusal.LocksLost else None) ≡ None → b ≡ false
not_lost true e = cc
not_lost false e = refl

-- a call of a session that is answered with this unit
abbrev RecordsBy : State → List ℕ → UnitKey → Call → Ledger → Reply → Type 0
RecordsBy s name unit call ledger r =
    (c : SessionCall) → call ≡ OfSession name c → unavailable s call ≡ None → r ≡ reply.Unit unit → RecordsIn s ledger name unit

done_unit : (unit : UnitKey) → reply.Done ≡ reply.Unit unit → ⊥
done_unit unit e = cc

refused_unit : (unit : UnitKey) (r : Refusal) → reply.Refused r ≡ reply.Unit unit → ⊥
refused_unit unit r e = cc

one_reply : (key unit : UnitKey) → reply.Unit key ≡ reply.Unit unit → key ≡ unit
one_reply key unit e = cc

one_name : (a b : List ℕ) (c d : SessionCall) → OfSession a c ≡ OfSession b d → a ≡ b
one_name a b c d e = cc

no_worker : (worker : ℕ) (part : Part) (name : List ℕ) (c : SessionCall) → OfWorker worker (Posts part) ≡ OfSession name c → ⊥
no_worker worker part name c e = cc

no_admin : (a : AdminCall) (name : List ℕ) (c : SessionCall) → OfAdmin a ≡ OfSession name c → ⊥
no_admin a name c e = cc

unmarked_unit : (name : List ℕ) (unit : UnitKey) (call : Call) (c : SessionCall) (r : Reply) → may_be_unmarked r call ≡ true → call ≡ OfSession name c
    → r ≡ reply.Unit unit → ⊥
unmarked_unit name unit call c r plain is told =
    not_again (sym plain ∙ ap (may_be_unmarked r) is ∙ ap (λ q. may_be_unmarked q (OfSession name c)) told)

recorded_entries : (s : State) (unit : UnitOfWork) → IsSteady s → status_in s.stored unit.key ≡ None
    → entries_of (s.stored.units ++ unit ∷ []) unit.key ≡ unit.entries
recorded_entries s unit steady new =
    ap (λ o. option_map_or (λ (u : UnitOfWork). u.entries) o []) (unit_new s.stored.units unit (steady.marked unit.key new))

commit_records : (s : State) (name : List ℕ) (x : Session) (parts : Parts) (stock : List Num) → IsSteady s → IsSure s
    → session_at s.sessions name ≡ Some x → unavailable s (OfSession name (Commits parts stock)) ≡ None
    → RecordsIn s (with_unit s.stored (unit_of s.stored.start s.locks x parts (x.draws ++ stock))) name (unit_key s.stored.start x)
commit_records s name x parts stock steady sure at free =
    let call = OfSession name (Commits parts stock) in
    let unit = unit_of s.stored.start s.locks x parts (x.draws ++ stock) in
    record {
      up = served_up s call free refl sure;
      session = x;
      at = at;
      key = refl;
      kept = not_lost x.lost (subst (λ o. session_refusal (Commits parts stock) o ≡ None) at (caller_served s call free));
      waits = recorded_here s.stored unit;
      entries = recorded_entries s unit steady (open_unheard s name x at steady.fresh);
    }

records_on : (found : Found) (s : State) (name : List ℕ) (unit : UnitKey) → IsSteady s → IsSure s → OfMarks (RecordsBy s name unit) found s
records_on found s name unit steady sure = record {
  none = λ call levels r plain c is free told. absurd (unmarked_unit name unit call c r plain is told);
  numbers = λ call key numbers levels c is free told. absurd (done_unit unit told);
  records = λ other x parts stock levels at c is free told.
      let h = commit_records s other x parts stock steady sure at free in
      let k = subst (RecordsIn s (with_unit s.stored (unit_of s.stored.start s.locks x parts (x.draws ++ stock))) other)
      (one_reply (unit_key s.stored.start x) unit told) h in
      record {
        up = k.up;
        session = k.session;
        at = subst (λ n. session_at s.sessions n ≡ Some k.session) (one_name other name (Commits parts stock) c is) k.at;
        key = k.key;
        kept = k.kept;
        waits = k.waits;
        entries = k.entries;
      };
  posts = λ worker part key waits c is free told. absurd (no_worker worker part name c is);
  cancels = λ key was here may c is free told. absurd (no_admin _ name c is);
  reopens = λ key here c is free told. absurd (no_admin _ name c is);
  reposts = λ key here c is free told. absurd (no_admin _ name c is);
}

pub commits_record : CommitsRecord
commits_record s m name unit quiet commit =
    let call = call_of m.call.command in
    let found = found_by m.outcome.reading s in
    let P : Ledger → Reply → Type 0 = λ ledger r. r ≡ reply.Unit unit → RecordsIn s ledger name unit in
    let k = by_stored P s m quiet (λ r t. absurd (refused_unit unit r t))
    (by_served (Leaving P s) found s call (λ r t. absurd (refused_unit unit r t))
    (λ free t.
    by_marks (RecordsBy s name unit) found s (none_in_flight s m quiet) (records_on found s name unit quiet.reached.steady quiet.sure) call
    (Commits commit.parts commit.stock) (ap call_of commit.commits) free t))
    commit.answered in
    record { up = k.up; session = k.session; at = k.at; key = k.key; kept = k.kept; waits = k.waits; entries = k.entries }
