-- Which units are cancelled, and why others aren't.
use Rattle.std.proofs.Common.{◌≡◌, ℕ, ◌+◌, ◌≤◌, Bool, true, false, not, cond, ◌||◌, List, [], ◌∷◌, length, refl, ap, ◌∙◌, subst, arith}
use Rattle.std.specs.Prelude.{nat_le, nat_lt, if◌then◌else◌, Option, Some, None, Result, Ok, Err}
use Rattle.std.specs.List.{list_any, position, position_or_len}
use Rattle.std.proofs.lemmas.Bool.Decides.{nat_tests}
use Rattle.enq_base.specs.declared.owner.UnitKey.{UnitKey}
use Rattle.enq_base.specs.declared.refusal.Refusal.{Refusal}
use Rattle.enq_base.specs.declared.refusal.Refusal.TheVariants as refusal
use Rattle.enq_base.specs.declared.unit.Status.{Status}
use Rattle.enq_base.specs.declared.unit.Status.TheVariants.{Open, Posted, Bad, Closed, Bad2, Cancelled}
use Rattle.update_records.specs.Ledger.{Ledger}
use Rattle.update_records.specs.Marks.{may_follow, status_of}
use Rattle.update_records.specs.declared.records.MarkKind.TheVariants.{Gone}
use Rattle.hall_model.specs.declared.command.Reply.TheVariants as reply
use Rattle.hall_model.specs.Orders.{is_claimed, is_for, worker_of}
use Rattle.hall_model.specs.State.{State}
use Rattle.hall_model.specs.Step.{Verdict, Refuses, Leaves, cancel, cancelled, cancelling, if_room, if_status, if_unclaimed, may_cancel, to_cancel}
use Rattle.model_laws.proofs.PlainRefusals.{IsPlain}

-- ---- refused

-- a refusal is plain, if there is one
abbrev pub RefusesPlainly : Result Status Refusal → Type 0
RefusesPlainly (Ok status) = Unit {0}
RefusesPlainly (Err r) = IsPlain r

pub room-plain : (limit : ℕ) (status : Status) (full : Bool) → RefusesPlainly (if full then Err (refusal.StoreFull limit) else Ok status)
room-plain limit status true = refl
room-plain limit status false = tt

free-plain : (o : Option ℕ) (next : Result Status Refusal) → RefusesPlainly next → RefusesPlainly (if_unclaimed o next)
free-plain None next h = h
free-plain (Some worker) next h = refl

pub status-plain : (unit : UnitKey) (status : Status) (b : Bool) (next : Result Status Refusal) → RefusesPlainly next
    → RefusesPlainly (if b then next else Err (refusal.WrongStatus unit status))
status-plain unit status true next h = h
status-plain unit status false next h = refl

to_cancel-plain : (ledger : Ledger) (orders : List (Option UnitKey)) (limit : ℕ) (unit : UnitKey) → RefusesPlainly (to_cancel ledger orders limit unit)
to_cancel-plain ledger orders limit unit =
    elim (status_of ledger.units ledger.marks unit)
    as (λ o. RefusesPlainly
    (elim o [
      | None ↦ Err refusal.UnknownUnit
      | Some status ↦ if_status may_cancel unit status
          (if_unclaimed (worker_of orders unit) (if_room ledger limit status))
    ])) [
      | None ↦ refl
      | Some status ↦
          status-plain unit status (may_cancel status) _ (free-plain (worker_of orders unit) _ (room-plain limit status (nat_le limit (length ledger.marks))))
    ]

pub refused_plainly : (ledger : Ledger) (orders : List (Option UnitKey)) (limit : ℕ) (unit : UnitKey) (r : Refusal) → to_cancel ledger orders limit unit ≡ Err r
    → IsPlain r
refused_plainly ledger orders limit unit r e = subst RefusesPlainly e (to_cancel-plain ledger orders limit unit)

-- ---- cancelled

pub record CanBeCancelled (ledger : Ledger) (orders : List (Option UnitKey)) (limit : ℕ) (unit : UnitKey) (status : Status) : Type 0 where
  pub recorded : status_of ledger.units ledger.marks unit ≡ Some status
  pub allowed : may_cancel status ≡ true
  pub free : worker_of orders unit ≡ None
  pub room : nat_le limit (length ledger.marks) ≡ false

same_ok : (a b : Status) → ◌≡◌ {A = Result Status Refusal} (Ok a) (Ok b) → a ≡ b
same_ok a b e = cc

pub of_room : (limit : ℕ) (status found : Status) (full : Bool) → (if full then Err (refusal.StoreFull limit) else Ok status) ≡ Ok found → (full ≡ false)
    × (status ≡ found)
of_room limit status found true e = absurd (cc)
of_room limit status found false e = (refl, same_ok status found e)

of_free : (o : Option ℕ) (next : Result Status Refusal) (found : Status) → if_unclaimed o next ≡ Ok found → (o ≡ None) × (next ≡ Ok found)
of_free None next found e = (refl, e)
of_free (Some worker) next found e = absurd (cc)

pub of_allowed : (unit : UnitKey) (status found : Status) (b : Bool) (next : Result Status Refusal)
    → (if b then next else Err (refusal.WrongStatus unit status)) ≡ Ok found → (b ≡ true) × (next ≡ Ok found)
of_allowed unit status found true next e = (refl, e)
of_allowed unit status found false next e = absurd (cc)

of_status : (ledger : Ledger) (orders : List (Option UnitKey)) (limit : ℕ) (unit : UnitKey) (status found : Status)
    → status_of ledger.units ledger.marks unit ≡ Some status → if_status may_cancel unit status
    (if_unclaimed (worker_of orders unit) (if_room ledger limit status)) ≡ Ok found → CanBeCancelled ledger orders limit unit found
of_status ledger orders limit unit status found here e =
    let may = of_allowed unit status found (may_cancel status) _ e in
    let free = of_free (worker_of orders unit) _ found may.1 in
    let room = of_room limit status found (nat_le limit (length ledger.marks)) free.1 in
    record {
      recorded = here ∙ ap Some room.1;
      allowed = subst (λ s. may_cancel s ≡ true) room.1 may.0;
      free = free.0;
      room = room.0;
    }

pub no_unit : (found : Status) → ◌≡◌ {A = Result Status Refusal} (Err refusal.UnknownUnit) (Ok found) → ⊥
no_unit found e = cc

pub can_be : (ledger : Ledger) (orders : List (Option UnitKey)) (limit : ℕ) (unit : UnitKey) (found : Status) → to_cancel ledger orders limit unit ≡ Ok found
    → CanBeCancelled ledger orders limit unit found
can_be ledger orders limit unit found =
    elim (status_of ledger.units ledger.marks unit)
    as (λ o. status_of ledger.units ledger.marks unit ≡ o
    → (elim o [
      | None ↦ Err refusal.UnknownUnit
      | Some status ↦ if_status may_cancel unit status
          (if_unclaimed (worker_of orders unit) (if_room ledger limit status))
    ]) ≡ Ok found → CanBeCancelled ledger orders limit unit found) [
      | None ↦ λ here e. absurd (no_unit found e)
      | Some status ↦ λ here e. of_status ledger orders limit unit status found here e
    ] refl

-- the mark may follow
pub may_follow_gone : (status : Status) → may_cancel status ≡ true → may_follow (Some status) Gone ≡ true
may_follow_gone Open h = refl
may_follow_gone Bad h = refl
may_follow_gone Bad2 h = refl
may_follow_gone Posted h = absurd (cc)
may_follow_gone Closed h = absurd (cc)
may_follow_gone Cancelled h = absurd (cc)

-- ---- both

-- what holds where the call is refused, and where the unit is cancelled
pub by_cancel : (P : Verdict → Type 0) (s : State) (unit : UnitKey) → ((r : Refusal) → IsPlain r → P (Refuses r))
    → ((status : Status) → CanBeCancelled s.stored s.orders s.mark_limit unit status → P (Leaves (cancelled s unit status) (reply.Unit unit)))
    → P (cancel s unit)
by_cancel P s unit refuse cancels =
    elim (to_cancel s.stored s.orders s.mark_limit unit) as (λ o. to_cancel s.stored s.orders s.mark_limit unit ≡ o → P (cancelling s unit o)) [
      | Ok status ↦ λ e. cancels status (can_be s.stored s.orders s.mark_limit unit status e)
      | Err r ↦ λ e. refuse r (refused_plainly s.stored s.orders s.mark_limit unit r e)
    ] refl

-- ---- a unit that no worker has an order for

none_passes : {X : Type 0} (p : X → Bool) (xs : List X) → length xs ≤ position_or_len p xs → list_any p xs ≡ false
none_passes p [] h = refl
none_passes p (x ∷ xs) h =
    elim (p x) as (λ b. length (x ∷ xs) ≤ cond (not b) (1 + position_or_len p xs) 0 → (b || list_any p xs) ≡ false) [
      | true ↦ λ k. absurd (omega (arith, k))
      | false ↦ λ k. none_passes p xs (omega (arith, k))
    ] h

not_below : (a b : ℕ) → nat_lt a b ≡ false → b ≤ a
not_below a b e = grind (arith, nat_tests)

no_place : {X : Type 0} (p : X → Bool) (xs : List X) → position p xs ≡ None → length xs ≤ position_or_len p xs
no_place p xs =
    elim (nat_lt (position_or_len p xs) (length xs))
    as (λ b. nat_lt (position_or_len p xs) (length xs) ≡ b → cond b (Some (position_or_len p xs)) None ≡ None → length xs ≤ position_or_len p xs) [
      | true ↦ λ e h. absurd (cc)
      | false ↦ λ e h. not_below (position_or_len p xs) (length xs) e
    ] refl

pub unclaimed : (orders : List (Option UnitKey)) (unit : UnitKey) → worker_of orders unit ≡ None → is_claimed orders unit ≡ false
unclaimed orders unit h = none_passes (is_for unit) orders (no_place (is_for unit) orders h)
