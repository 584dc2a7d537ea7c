-- Which units are tried again, and why others aren't.
use Rattle.std.proofs.Common.{◌≡◌, ℕ, Bool, true, false, cond, List, ◌++◌, length, map, refl, sym, ap, ◌∙◌, subst}
use Rattle.std.specs.Prelude.{nat_le, Option, Some, None, Result, Ok, Err}
use Rattle.enq_base.specs.declared.owner.UnitKey.{UnitKey}
use Rattle.enq_base.specs.declared.refusal.Refusal.{Refusal}
use Rattle.enq_base.specs.declared.refusal.Refusal.TheVariants as refusal
use Rattle.enq_base.specs.declared.unit.Status.{Status}
use Rattle.enq_base.specs.declared.unit.Status.TheVariants.{Open, Posted, Bad, Closed, Bad2, Cancelled}
use Rattle.lock_entry.specs.declared.entry.Asker.{Asker}
use Rattle.lock_entry.specs.declared.entry.Entry.{Entry}
use Rattle.lock_entry.specs.declared.fault.AskFault.{AskFault}
use Rattle.lock_entry.specs.declared.fault.AskFault.TheVariants as fault
use Rattle.lock_entry.specs.Freeing.{freed_owner}
use Rattle.lock_entry.specs.Granting.{first_bar, is_full, newcomers, readmitted, unless_barred}
use Rattle.lock_entry.specs.Names.{asked_of}
use Rattle.lock_entry.specs.Table.{Table}
use Rattle.ledger_steps.specs.Posts.{entries_of}
use Rattle.update_records.specs.Ledger.{Ledger}
use Rattle.update_records.specs.Marks.{status_of}
use Rattle.hall_model.specs.declared.command.Reply.TheVariants as reply
use Rattle.hall_model.specs.Sessions.{owners_of}
use Rattle.hall_model.specs.State.{State}
use Rattle.hall_model.specs.Step.{Verdict, Refuses, Leaves, ask_refusal, if_room, if_status, may_resubmit, reopened, reopening, reposted, resubmit, resubmitting, to_resubmit, trying_again}
use Rattle.model_laws.proofs.PlainRefusals.{IsOfRule, IsPlain}
use Rattle.model_laws.proofs.Cancels.{RefusesPlainly, of_allowed, of_room, room-plain, status-plain, no_unit}

-- ---- refused

to_resubmit-plain : (ledger : Ledger) (limit : ℕ) (unit : UnitKey) → RefusesPlainly (to_resubmit ledger limit unit)
to_resubmit-plain ledger limit unit =
    elim (status_of ledger.units ledger.marks unit)
    as (λ o. RefusesPlainly (elim o [ None ↦ Err refusal.UnknownUnit | Some status ↦ if_status may_resubmit unit status (if_room ledger limit status) ])) [
      | None ↦ refl
      | Some status ↦ status-plain unit status (may_resubmit status) _ (room-plain limit status (nat_le limit (length ledger.marks)))
    ]

pub resubmit_refused_plainly : (ledger : Ledger) (limit : ℕ) (unit : UnitKey) (r : Refusal) → to_resubmit ledger limit unit ≡ Err r → IsPlain r
resubmit_refused_plainly ledger limit unit r e = subst RefusesPlainly e (to_resubmit-plain ledger limit unit)

-- ---- tried again

pub record CanBeTriedAgain (ledger : Ledger) (limit : ℕ) (unit : UnitKey) (status : Status) : Type 0 where
  pub recorded : status_of ledger.units ledger.marks unit ≡ Some status
  pub allowed : may_resubmit status ≡ true
  pub room : nat_le limit (length ledger.marks) ≡ false

of_status : (ledger : Ledger) (limit : ℕ) (unit : UnitKey) (status found : Status) → status_of ledger.units ledger.marks unit ≡ Some status
    → if_status may_resubmit unit status (if_room ledger limit status) ≡ Ok found → CanBeTriedAgain ledger limit unit found
of_status ledger limit unit status found here e =
    let may = of_allowed unit status found (may_resubmit status) _ e in
    let room = of_room limit status found (nat_le limit (length ledger.marks)) may.1 in
    record {
      recorded = here ∙ ap Some room.1;
      allowed = subst (λ s. may_resubmit s ≡ true) room.1 may.0;
      room = room.0;
    }

pub can_be_tried : (ledger : Ledger) (limit : ℕ) (unit : UnitKey) (found : Status) → to_resubmit ledger limit unit ≡ Ok found
    → CanBeTriedAgain ledger limit unit found
can_be_tried ledger limit unit found =
    elim (status_of ledger.units ledger.marks unit)
    as (λ o. status_of ledger.units ledger.marks unit ≡ o
    → (elim o [ None ↦ Err refusal.UnknownUnit | Some status ↦ if_status may_resubmit unit status (if_room ledger limit status) ]) ≡ Ok found
    → CanBeTriedAgain ledger limit unit found) [
      | None ↦ λ here e. absurd (no_unit found e)
      | Some status ↦ λ here e. of_status ledger limit unit status found here e
    ] refl

-- a unit of another status isn't
abbrev IsNeverTried : Status → Type 0
IsNeverTried status = may_resubmit status ≡ true → ⊥

never_open : IsNeverTried Open
never_open h = cc

never_posted : IsNeverTried Posted
never_posted h = cc

never_closed : IsNeverTried Closed
never_closed h = cc

never_cancelled : IsNeverTried Cancelled
never_cancelled h = cc

-- ---- the locks that are to stand again

barred-plain : (o : Option Entry) (r : Result (List Entry) AskFault) → IsOfRule r → IsOfRule (unless_barred o r)
barred-plain None r h = h
barred-plain (Some e) r h = refl

full-plain : (b : Bool) (used limit : ℕ) (r : Result (List Entry) AskFault) → IsOfRule r → IsOfRule (cond b (Err (fault.Full used limit)) r)
full-plain true used limit r h = refl
full-plain false used limit r h = h

readmitted-plain : (t : Table) (asker : Asker) (given : List Entry) → IsOfRule (readmitted t asker given)
unfolding readmitted
readmitted-plain t asker given =
    barred-plain (first_bar t.entries asker (map asked_of given)) _
    (full-plain (is_full t (length (newcomers t.entries given))) (length t.entries) t.limit _ tt)

of_barred : (o : Option Entry) (r : Result (List Entry) AskFault) (es : List Entry) → unless_barred o r ≡ Ok es → r ≡ Ok es
of_barred None r es e = e
of_barred (Some b) r es e = absurd (cc)

same_list : (a b : List Entry) → ◌≡◌ {A = Result (List Entry) AskFault} (Ok a) (Ok b) → a ≡ b
same_list a b e = cc

of_full : (b : Bool) (used limit : ℕ) (after es : List Entry) → cond b (Err (fault.Full used limit)) (Ok after) ≡ Ok es → es ≡ after
of_full true used limit after es e = absurd (cc)
of_full false used limit after es e = sym (same_list after es e)

-- behind those of the others
pub readmitted_is : (t : Table) (asker : Asker) (given es : List Entry) → readmitted t asker given ≡ Ok es → es ≡ freed_owner t.entries asker.update ++ given
unfolding readmitted
readmitted_is t asker given es e =
    of_full (is_full t (length (newcomers t.entries given))) (length t.entries) t.limit (freed_owner t.entries asker.update ++ given) es
    (of_barred (first_bar t.entries asker (map asked_of given)) _ es e)

-- ---- all cases

-- the table that a state's locks are
abbrev pub table_in : State → Table
table_in s = record { entries = s.locks; limit = s.limit }

by_locks : (P : Verdict → Type 0) (s : State) (unit : UnitKey) (r : Result (List Entry) AskFault) → IsOfRule r
    → ((refused : Refusal) → IsPlain refused → P (Refuses refused)) → ((es : List Entry) → r ≡ Ok es → P (Leaves (reopened s unit es) (reply.Unit unit)))
    → P (reopening s unit r)
by_locks P s unit (Ok es) plain refuse stand = stand es refl
by_locks P s unit (Err f) plain refuse stand = refuse (ask_refusal f) plain

-- what holds where the call is refused, where the V1 part waits again, and where the V2 part does
pub by_resubmit : (P : Verdict → Type 0) (s : State) (unit : UnitKey) → ((r : Refusal) → IsPlain r → P (Refuses r))
    → ((es : List Entry) → status_of s.stored.units s.stored.marks unit ≡ Some Bad
    → readmitted (table_in s) (owners_of unit) (entries_of s.stored.units unit) ≡ Ok es → P (Leaves (reopened s unit es) (reply.Unit unit)))
    → (status_of s.stored.units s.stored.marks unit ≡ Some Bad2 → P (Leaves (reposted s unit) (reply.Unit unit)))
    → P (resubmit s unit)
by_resubmit P s unit refuse first second =
    let given = entries_of s.stored.units unit in
    elim (to_resubmit s.stored s.mark_limit unit) as (λ o. to_resubmit s.stored s.mark_limit unit ≡ o → P (resubmitting s unit o)) [
      | Ok status ↦ λ e.
          let can = can_be_tried s.stored s.mark_limit unit status e in
          elim status as (λ x. status_of s.stored.units s.stored.marks unit ≡ Some x → may_resubmit x ≡ true → P (trying_again s unit x)) [
            | Bad ↦ λ here may. by_locks P s unit (readmitted (table_in s) (owners_of unit) given) (readmitted-plain (table_in s) (owners_of unit) given) refuse
                (λ es stand. first es here stand)
            | Bad2 ↦ λ here may. second here
            | Open ↦ λ here may. absurd (never_open may)
            | Posted ↦ λ here may. absurd (never_posted may)
            | Closed ↦ λ here may. absurd (never_closed may)
            | Cancelled ↦ λ here may. absurd (never_cancelled may)
          ] can.recorded can.allowed
      | Err r ↦ λ e. refuse r (resubmit_refused_plainly s.stored s.mark_limit unit r e)
    ] refl
