-- What a stop may leave behind a call.
use Rattle.std.proofs.Common.{◌≡◌, ◌⊎◌, inl, ℕ, List, true, false, refl, sym, subst}
use Rattle.std.specs.Prelude.{Option, Some, None, IfSome, is_some, if◌then◌else◌}
use Rattle.std.specs.Option.{option_map}
use Rattle.enq_base.specs.declared.condition.Condition.{Condition}
use Rattle.enq_base.specs.declared.owner.UnitKey.{UnitKey}
use Rattle.enq_base.specs.declared.refusal.Refusal.{Refusal}
use Rattle.enq_base.specs.declared.refusal.Refusal.TheVariants as refusal
use Rattle.keeper_api.specs.Keeping.{IsOnly, IsWithin}
use Rattle.keeper_api.specs.Rows.{Rows}
use Rattle.posting.specs.BooksView.{BooksView, IsUsable, StandForEither}
use Rattle.ledger_steps.specs.Steps.{after_step}
use Rattle.ledger_steps.specs.declared.step.Step.{Step}
use Rattle.ledger_steps.specs.declared.step.Outcome.{Outcome}
use Rattle.ledger_steps.specs.declared.step.Outcome.TheVariants as outcome
use Rattle.update_records.specs.Ledger.{Ledger, StandFor}
use Rattle.hall_calls.specs.Written.{OnAnswer, OnFailure, OnStoreFailure, written_condition, written_failure}
use Rattle.hall_model.specs.Kept.{OutsideDoubt}
use Rattle.hall_calls.specs.Leaving.{HasStoreCause, KeepsStore, LeavesWritten, StandForKnown, StandForWritten, StandOrInFlight}
use Rattle.hall_model.specs.History.{known_behind}
use Rattle.hall_calls.specs.Remaking.{LeavesKnown, LeavesRemade, OnNotRemade, OnRefusedFirst, OnRemade, flight_over, remade_condition, remade_failure}
use Rattle.hall_calls.specs.declared.remaking.Remade.{Remade}
use Rattle.hall_calls.specs.declared.remaking.Remade.TheVariants.{Done, Refused, InDoubt}
use Rattle.hall_model.specs.Step.{posted_reply}
use Rattle.hall_calls.specs.declared.units.Failure.{Failure}
use Rattle.hall_model.specs.declared.command.Reply.{Reply}
use Rattle.hall_model.specs.declared.command.Reply.TheVariants as reply
use Rattle.model_laws.proofs.PlainRefusals.{IsPlain}
use Rattle.hall_calls.specs.declared.units.Written.{Written}
use Rattle.hall_calls.specs.declared.units.Written.TheVariants.{Answered, Failed, Unfiled}
use Rattle.model_laws.proofs.OutsideDoubt.{outside_any}
use Rattle.ledger_steps.specs.declared.part.Part.{Part}
use Rattle.ledger_steps.specs.Parts.{is_first}

-- ---- a call that writes the store

-- while calls are allowed, what may be left stands for the ledger
settled_stands : (held : Option Rows) (may_leave : Rows → Type 0) (ledger : Ledger) → IfSome held (λ rows. IsOnly rows may_leave)
    → IfSome held (λ rows. StandFor rows ledger) → IfSome held (λ _. (left : Rows) → may_leave left → StandFor left ledger)
settled_stands None may_leave ledger only stands = tt
settled_stands (Some rows) may_leave ledger only stands = λ left may. subst (λ r. StandFor r ledger) (sym (only.alone left may)) stands

pub answered_leaves : {K : Type 0} (held : K → Option Rows) (is_open : K → Type 0) (may_leave : K → Rows → Type 0) (shelf : BooksView K)
    → ((keeper : K) → is_open keeper → IfSome (held keeper) (λ rows. IsOnly rows (may_leave keeper))) → IsUsable held is_open shelf
    → IfSome (held shelf.keeper) (λ _. (left : Rows) → may_leave shelf.keeper left → StandFor left shelf.ledger)
answered_leaves held is_open may_leave shelf settled usable =
    settled_stands (held shelf.keeper) (may_leave shelf.keeper) shelf.ledger (settled shelf.keeper usable.opened) usable.stands

-- where rows are told after a call, they were told before it
pub told_too : (held before : Option Rows) (P : Type 0) → is_some held ≡ is_some before → IfSome before (λ _. P) → IfSome held (λ _. P)
told_too None before P e h = tt
told_too (Some rows) None P e h = cc
told_too (Some rows) (Some other) P e h = h

stands_or_in_flight : (before : Option Rows) (may_leave : Rows → Type 0) (old : Ledger) (said : Step) (change : Step)
    → IfSome before (λ _. after_step old said ≡ after_step old change)
    → IfSome before (λ _. (left : Rows) → may_leave left → StandForEither left old said)
    → IfSome before (λ _. (left : Rows) → may_leave left → StandOrInFlight left old (Some change))
stands_or_in_flight None may_leave old said change is h = tt
stands_or_in_flight (Some rows) may_leave old said change is h = λ left may. subst (λ l. StandFor left old ⊎ StandFor left l) is (h left may)

pub where_told : (told : Option Rows) (P : Type 0) → P → IfSome told (λ _. P)
where_told None P h = tt
where_told (Some rows) P h = h

-- a write that failed
pub failed_leaves : (held before : Option Rows) (may_leave : Rows → Type 0) (ledger old : Ledger) (said : Step) (change : Step) → is_some held ≡ is_some before
    → ledger ≡ old → IfSome before (λ _. after_step old said ≡ after_step old change)
    → IfSome before (λ _. (left : Rows) → may_leave left → StandForEither left old said)
    → IfSome held (λ _. (left : Rows) → may_leave left → StandOrInFlight left ledger (Some change))
failed_leaves held before may_leave ledger old said change told kept is h =
    told_too held before ((left : Rows) → may_leave left → StandOrInFlight left ledger (Some change)) told
    (subst (λ l. IfSome before (λ _. (left : Rows) → may_leave left → StandOrInFlight left l (Some change))) (sym kept)
    (stands_or_in_flight before may_leave old said change is h))

before_change : (before : Option Rows) (may_leave was : Rows → Type 0) (ledger old : Ledger) (change : Option Step) → ledger ≡ old → IsWithin may_leave was
    → IfSome before (λ _. (left : Rows) → was left → StandFor left old)
    → IfSome before (λ _. (left : Rows) → may_leave left → StandOrInFlight left ledger change)
before_change None may_leave was ledger old change kept within h = tt
before_change (Some rows) may_leave was ledger old change kept within h =
    λ left may. inl (subst (StandFor left) (sym kept) (h left (within left may)))

-- a read that failed, before the write or without one
pub unread_leaves : (held before : Option Rows) (may_leave was : Rows → Type 0) (ledger old : Ledger) (change : Option Step) → is_some held ≡ is_some before
    → ledger ≡ old → IsWithin may_leave was
    → IfSome before (λ _. (left : Rows) → was left → StandFor left old)
    → IfSome held (λ _. (left : Rows) → may_leave left → StandOrInFlight left ledger change)
unread_leaves held before may_leave was ledger old change told kept within h =
    told_too held before ((left : Rows) → may_leave left → StandOrInFlight left ledger change) told
    (before_change before may_leave was ledger old change kept within h)

pub posted_quiet : (part : Part) (unit : UnitKey) (o : Outcome) (n m : ℕ) → m ≡ n → HasStoreCause n m (posted_reply part unit o)
posted_quiet part unit outcome.Done n m h =
    elim (is_first part) as (λ b. HasStoreCause n m (if b then reply.Posted unit else reply.Closed unit)) [ true ↦ h | false ↦ h ]
posted_quiet part unit (outcome.Refused index reason) n m h =
    elim (is_first part) as (λ b. HasStoreCause n m (if b then reply.Bad unit index reason else reply.Bad2 unit index reason)) [ true ↦ h | false ↦ h ]

-- a refusal that shows no failure leaves the count of faults
pub plain_quiet : (r : Refusal) (n m : ℕ) → m ≡ n → IsPlain r → HasStoreCause n m (reply.Refused r)
plain_quiet refusal.StoreFault n m h plain = absurd (cc)
plain_quiet _ n m h plain = h

-- a refusal before anything was written
pub refused_keeps : {K : Type 0} (held : K → Option Rows) (may_leave : K → Rows → Type 0) (old new : K) (r : Refusal) → held new ≡ held old
    → IsWithin (may_leave new) (may_leave old) → KeepsStore held may_leave old new (reply.Refused r)
refused_keeps held may_leave old new refusal.StoreFault rows crash = tt
refused_keeps held may_leave old new refusal.BackupFault rows crash = tt
refused_keeps held may_leave old new _ rows crash = (rows, crash)

pub untouched_keeps : {K : Type 0} (held : K → Option Rows) (may_leave : K → Rows → Type 0) (k : K) (r : Refusal)
    → KeepsStore held may_leave k k (reply.Refused r)
untouched_keeps held may_leave k r = refused_keeps held may_leave k k r refl (λ rows may. may)

pub same_keeps : {K : Type 0} (held : K → Option Rows) (may_leave : K → Rows → Type 0) (old new : K) (r : Reply) → new ≡ old
    → KeepsStore held may_leave old new r
same_keeps held may_leave old new (reply.Refused r) is = subst (λ k. KeepsStore held may_leave old k (reply.Refused r)) (sym is)
    (untouched_keeps held may_leave old r)
same_keeps held may_leave old new (reply.Row text) is = subst (λ k. KeepsStore held may_leave old k (reply.Row text)) (sym is) (refl, λ rows may. may)
same_keeps held may_leave old new _ is = tt

-- a part that was tried isn't refused by the call
pub posted_keeps : {K : Type 0} (held : K → Option Rows) (may_leave : K → Rows → Type 0) (old new : K) (part : Part) (unit : UnitKey) (o : Outcome)
    → KeepsStore held may_leave old new (posted_reply part unit o)
posted_keeps held may_leave old new part unit outcome.Done =
    elim (is_first part) as (λ b. KeepsStore held may_leave old new (if b then reply.Posted unit else reply.Closed unit)) [ true ↦ tt | false ↦ tt ]
posted_keeps held may_leave old new part unit (outcome.Refused index reason) =
    elim (is_first part) as (λ b. KeepsStore held may_leave old new (if b then reply.Bad unit index reason else reply.Bad2 unit index reason))
    [ true ↦ tt | false ↦ tt ]

-- ---- the hall behind it

stands_after : (left : Rows) (ledger : Ledger) (f : Failure) (caller : Option (List ℕ)) (w : Written) → f.in_flight ≡ None → f.found ≡ None
    → StandForWritten left ledger w
    → StandForKnown (written_failure f caller w).found left ledger (flight_over ledger (written_failure f caller w))
stands_after left ledger f caller (Answered r) none unknown h =
    subst (λ k. StandForKnown k left ledger (flight_over ledger f)) (sym unknown) (inl h)
stands_after left ledger f caller (Failed step) none unknown h =
    subst (λ k. StandForKnown k left ledger (option_map (after_step ledger) step)) (sym unknown) h
stands_after left ledger f caller Unfiled none unknown h =
    subst (λ k. StandForKnown k left ledger (flight_over ledger f)) (sym unknown) (inl h)

leaves_for : (held : Option Rows) (may_leave : Rows → Type 0) (ledger : Ledger) (f : Failure) (caller : Option (List ℕ)) (w : Written) → f.in_flight ≡ None
    → f.found ≡ None
    → IfSome held (λ _. (left : Rows) → may_leave left → StandForWritten left ledger w)
    → IfSome held (λ _. (left : Rows) → may_leave left → StandForKnown (written_failure f caller w).found left ledger
    (flight_over ledger (written_failure f caller w)))
leaves_for None may_leave ledger f caller w none unknown h = tt
leaves_for (Some rows) may_leave ledger f caller w none unknown h = λ left may. stands_after left ledger f caller w none unknown (h left may)

-- behind a call of a server that wasn't in doubt
pub leaves_after : {K : Type 0} (held : K → Option Rows) (may_leave : K → Rows → Type 0) (shelf : BooksView K) (f now : Failure) (caller : Option (List ℕ))
    (w : Written)
    → now ≡ written_failure f caller w → f.in_flight ≡ None → f.found ≡ None → LeavesWritten held may_leave shelf w
    → LeavesKnown held may_leave shelf.keeper now.found shelf.ledger (flight_over shelf.ledger now)
leaves_after held may_leave shelf f now caller w is none unknown h =
    subst (λ (q : Failure). LeavesKnown held may_leave shelf.keeper q.found shelf.ledger (flight_over shelf.ledger q)) (sym is)
    (leaves_for (held shelf.keeper) (may_leave shelf.keeper) shelf.ledger f caller w none unknown h)

usable_for : (P : Type 0) (before : Condition) (calls : ℕ) (w : Written) → OnAnswer w P → OutsideDoubt (written_condition before calls w) P
usable_for P before calls (Answered r) h = outside_any before P h
usable_for P before calls (Failed step) h = tt
usable_for P before calls Unfiled h = tt

pub usable_after : (P : Type 0) (before now : Condition) (calls : ℕ) (w : Written) → now ≡ written_condition before calls w → OnAnswer w P → OutsideDoubt now P
usable_after P before now calls w is h = subst (λ k. OutsideDoubt k P) (sym is) (usable_for P before calls w h)

pub also_failed : (P : Type 0) (w : Written) → P → OnFailure w P
also_failed P (Answered r) h = tt
also_failed P (Failed step) h = h
also_failed P Unfiled h = h

pub also_store_failed : (P : Type 0) (w : Written) → P → OnStoreFailure w P
also_store_failed P (Answered r) h = tt
also_store_failed P (Failed step) h = h
also_store_failed P Unfiled h = tt

pub also_answered : (P : Type 0) (w : Written) → P → OnAnswer w P
also_answered P (Answered r) h = h
also_answered P (Failed step) h = tt
also_answered P Unfiled h = tt

-- ---- a lock server that is made anew, or isn't

pub remade_usable : {K : Type 0} (held : K → Option Rows) (is_open : K → Type 0) (remade : Remade) (k after : Condition) (calls : ℕ) (old new : BooksView K)
    → after ≡ remade_condition k calls remade
    → OnRemade remade (IsUsable held is_open new) → OnRefusedFirst remade (new ≡ old) → OutsideDoubt k (IsUsable held is_open old)
    → OutsideDoubt after (IsUsable held is_open new)
remade_usable held is_open remade k after calls old new is made kept was =
    subst (λ q. OutsideDoubt q (IsUsable held is_open new)) (sym is) (by_case remade made kept)
  where
    by_case : (r : Remade) → OnRemade r (IsUsable held is_open new) → OnRefusedFirst r (new ≡ old)
        → OutsideDoubt (remade_condition k calls r) (IsUsable held is_open new)
    by_case (Done taken) h same = h
    by_case (Refused r) h same = subst (λ b. OutsideDoubt k (IsUsable held is_open b)) (sym same) was
    by_case (InDoubt r read) h same = tt

pub remade_leaves : {K : Type 0} (held : K → Option Rows) (may_leave : K → Rows → Type 0) (remade : Remade) (before now : Ledger) (f failure : Failure)
    (keeper : K) → failure ≡ remade_failure f remade
    → OnNotRemade remade (now ≡ before) → LeavesRemade held may_leave keeper before now f remade
    → LeavesKnown held may_leave keeper failure.found now (flight_over now failure)
remade_leaves held may_leave remade before now f failure keeper is kept left =
    subst (λ (q : Failure). LeavesKnown held may_leave keeper q.found now (flight_over now q)) (sym is) (by_case remade kept left)
  where
    by_case : (r : Remade) → OnNotRemade r (now ≡ before) → LeavesRemade held may_leave keeper before now f r
        → LeavesKnown held may_leave keeper (remade_failure f r).found now (flight_over now (remade_failure f r))
    by_case (Done taken) same h = h
    by_case (Refused r) same h = subst (λ l. LeavesKnown held may_leave keeper f.found l (flight_over l f)) (sym same) h
    by_case (InDoubt r read) same h = subst (λ l. LeavesKnown held may_leave keeper (known_behind f.found read) l (flight_over l f)) (sym same) h
