-- A lock server that goes on with the list of a replica, and a replica that is attached.
use Rattle.std.proofs.Common.{◌≡◌, inl, inr, ℕ, ◌<◌, ◌^◌, Bool, true, false, List, [], length, refl, sym, ap, ◌∙◌, subst, is_some, arith}
use Rattle.std.specs.Prelude.{if◌then◌else◌, nat_le, Option, Some, None, IfSome}
use Rattle.std.specs.Option.{unwrap_or}
use Rattle.std.proofs.lemmas.Bool.{cases_Bool}
use Rattle.std.proofs.lemmas.Bool.Decides.{nat_tests}
use Rattle.enq_base.specs.declared.condition.Bad.TheVariants as bad
use Rattle.enq_base.specs.declared.condition.Condition.{Condition}
use Rattle.enq_base.specs.declared.condition.Condition.TheVariants as condition
use Rattle.enq_base.specs.declared.refusal.Refusal.{Refusal}
use Rattle.enq_base.specs.declared.refusal.Refusal.TheVariants as refusal
use Rattle.enq_server.specs.Replica.{IsOverFault, ReplicaView, told_list}
use Rattle.enq_server.specs.Server.{larger, replicated}
use Rattle.enq_server.specs.declared.fault.OverFault.{OverFault}
use Rattle.enq_server.specs.declared.fault.OverFault.TheVariants as over
use Rattle.lock_entry.specs.Sound.{IsSound, first_clash}
use Rattle.lock_entry.specs.Table.{IsTable}
use Rattle.lock_entry.specs.declared.entry.Entry.{Entry}
use Rattle.hall_model.specs.Acts.{Admits, IsAct}
use Rattle.hall_model.specs.Calls.{OfAdmin, Attaches, FailsOver}
use Rattle.hall_model.specs.Devices.{AllWell, AsKnown, Hands, IsTold, LeavesTable, LinkFails, MayHappen, Wanting, found_by, only}
use Rattle.hall_model.specs.History.{judged}
use Rattle.hall_calls.specs.Remaking.{over_refusal}
use Rattle.hall_calls.specs.Serving.{HasLinkCause, IsOver}
use Rattle.hall_model.specs.State.{State, table_for}
use Rattle.hall_model.specs.Step.{Found, Verdict, Refuses, Leaves, attached, call_verdict, detached, found_in, leaves, own_verdict, clashing, followed_over, from_replica, handing}
use Rattle.hall_model.specs.declared.command.Command.TheVariants as command
use Rattle.hall_model.specs.declared.command.Reply.{Reply}
use Rattle.hall_model.specs.declared.command.Reply.TheVariants as reply
use Rattle.hall_calls.proofs.verdicts.EachCall.{admitted, at_state, is_done, is_wanting, refuses}
use Rattle.hall_calls.proofs.TestedLocks.{not_sound, sound_of}

-- ---- the list of a replica

abbrev over_in : Found → State → Condition → Verdict
over_in found s k =
    elim k [
      | condition.Up ↦ Refuses refusal.ServerUp
      | condition.NoServer ↦ from_replica found s
      | condition.Doubt n ↦ Refuses (refusal.Down n)
    ]

comes_to : (found : Found) (s : State) (k : Condition) → s.condition ≡ k → own_verdict found s (OfAdmin FailsOver) ≡ over_in found s k
comes_to found s k is = ap (over_in found s) is

pub over_up : (s : State) → s.condition ≡ condition.Up → Admits s command.FailOver → IsAct s command.FailOver s (reply.Refused refusal.ServerUp)
over_up s up room = refuses s command.FailOver refusal.ServerUp room (comes_to (found_in s) s condition.Up up)

-- by whether the locks may stand together
abbrev pub handing_as : State → List Entry → (sound : Bool) → Verdict
handing_as s list sound = if sound then Leaves (followed_over list s) reply.Done else clashing s (first_clash list)

-- a list that is handed over is not refused
clashing_leaves : (s : State) (o : Option (ℕ × ℕ)) → leaves (clashing s o) ≡ true
clashing_leaves s None = refl
clashing_leaves s (Some places) = refl

handing_leaves : (s : State) (list : List Entry) (sound : Bool) → leaves (handing_as s list sound) ≡ true
handing_leaves s list true = refl
handing_leaves s list false = clashing_leaves s (first_clash list)

-- where the link tells its list, that is what it gives
given_told : (told on : Bool) (applied : Option (List Entry)) (list locks : List Entry) → told ≡ is_some applied → on ≡ true
    → locks ≡ (if on then unwrap_or applied [] else []) → IfSome applied (λ l. list ≡ l) → IsTold told (list ≡ locks)
given_told told on None list locks is follows same h = subst (λ b. IsTold b (list ≡ locks)) (sym is) tt
given_told told on (Some l) list locks is follows same h =
    subst (λ b. IsTold b (list ≡ locks)) (sym is) (h ∙ sym (same ∙ ap (λ b. if b then l else []) follows))

-- a table without entries has room for as many
larger_fits : (a b : ℕ) → larger a b < 2 ^ 32 → larger a 0 < 2 ^ 32
larger_fits a b h = elim (cases_Bool (nat_le a b)) [
  | inl within ↦ grind (arith, nat_tests)
  | inr beyond ↦ grind (arith, nat_tests)
]

pub bare_good : (limit : ℕ) (list : List Entry) → IsTable (replicated limit list) → IsTable (replicated limit [])
bare_good limit list h = record {
  sound = record { names = refl; counts = refl; conflicts = refl };
  within = omega arith;
  limit_fits = larger_fits limit (length list) h.limit_fits;
}

module _ (s : State) (none : s.condition ≡ condition.NoServer) (room : Admits s command.FailOver) where
  abbrev Comes : State → Reply → Type 0
  Comes after r = IsAct s command.FailOver after r

  unattached : s.attached ≡ false → Comes s (reply.Refused refusal.NotAttached)
  unattached off =
      refuses s command.FailOver refusal.NotAttached room
      (comes_to (found_in s) s condition.NoServer none ∙ ap (λ b. if b then handing s s.locks else Refuses refusal.NotAttached) off)

  handed : s.attached ≡ true → (found : Found) → call_verdict found s (OfAdmin FailsOver) ≡ handing s found.list
  handed on found =
      admitted found s command.FailOver room ∙ comes_to found s condition.NoServer none
      ∙ ap (λ b. if b then handing s found.list else Refuses refusal.NotAttached) on

  leaves_any : s.attached ≡ true → leaves (call_verdict (found_in s) s (OfAdmin FailsOver)) ≡ true
  leaves_any on = ap leaves (handed on (found_in s)) ∙ handing_leaves s s.locks _

  unlinked : s.attached ≡ true → Comes (detached s) (reply.Refused refusal.LinkFault)
  unlinked on = record { outcome = only LinkFails; possible = record { reading = tt; event = (leaves_any on, refl); lost = tt }; same = refl }

  over_wanting : s.attached ≡ true → Comes s (reply.Refused refusal.NoMemory)
  over_wanting on = is_wanting s command.FailOver room.served (leaves_any on)

  -- no replica follows, and there is no list
  bare : (table_for s.condition s.max_locks (record { entries = s.locks; limit = s.limit }) []) ≡ replicated s.max_locks []
  bare = ap (λ k. table_for k s.max_locks (record { entries = s.locks; limit = s.limit }) []) none

  -- a list that the link gave
  module _ (list : List Entry) (told : IsTold s.link_told (list ≡ s.locks)) (on : s.attached ≡ true) where
    hands : (after : State) (r : Reply) → IsTable (record { entries = after.locks; limit = after.limit }) → handing s list ≡ Leaves after r → Comes after r
    hands after r good is = record {
      outcome = record { event = AllWell; reading = Hands list; lost = false };
      possible = record { reading = told; event = subst LeavesTable (sym (handed on (found_by (Hands list) s) ∙ is)) good; lost = tt };
      same = ap (judged s) (handed on (found_by (Hands list) s) ∙ is);
    }

    pub goes_on : IsTable (replicated s.max_locks list) → Comes (followed_over list s) reply.Done
    goes_on good = hands (followed_over list s) reply.Done good (ap (handing_as s list) (sound_of list good.sound))

    clashes : (first second : ℕ) → IsTable (replicated s.max_locks []) → (IsSound list → ⊥) → first_clash list ≡ Some (first, second)
        → Comes (detached s) (reply.Refused (refusal.Unsound (bad.Replica first second)))
    clashes first second good never at =
        hands (detached s) (reply.Refused (refusal.Unsound (bad.Replica first second))) (subst IsTable (sym bare) good)
        (ap (handing_as s list) (not_sound list never) ∙ ap (clashing s) at)

  -- what the lock server tells of it
  module _ {L : Type 0} (faults : L → ℕ) (gives : L → List Entry) (applied : L → Option (List Entry)) (old new : ReplicaView L)
      (locks : s.locks ≡ told_list applied old) (limit : s.limit ≡ (replicated s.max_locks (told_list applied old)).limit) (is : s.attached ≡ old.attached)
      (tells : s.link_told ≡ is_some (applied old.link)) (told : IfSome (applied old.link) (λ l. gives old.link ≡ l)) where
    pub given : old.attached ≡ true → IsTold s.link_told (gives old.link ≡ s.locks)
    given on = given_told s.link_told old.attached (applied old.link) (gives old.link) s.locks tells on locks told

    -- with what follows now
    abbrev pub with_replica : State
    with_replica = record s { attached = new.attached; locks = told_list applied new; limit = (replicated s.max_locks (told_list applied new)).limit }

    -- that is as before
    still : (r : Reply) → told_list applied new ≡ told_list applied old → new.attached ≡ old.attached → Comes s r → Comes with_replica r
    still r list now h =
        at_state s command.FailOver s with_replica r
        (λ i. record s {
          attached = (is ∙ sym now) i;
          locks = (locks ∙ sym list) i;
          limit = (limit ∙ ap (λ l. (replicated s.max_locks l).limit) (sym list)) i;
        }) h

    -- or none does
    gone : (r : Reply) → new.attached ≡ false → Comes (detached s) r → Comes with_replica r
    gone r off h =
        let list : told_list applied new ≡ [] = ap (λ b. if b then unwrap_or (applied new.link) [] else []) off in
        let table = bare ∙ ap (replicated s.max_locks) (sym list) in
        at_state s command.FailOver (detached s) with_replica r
        (λ i. record s { attached = sym off i; locks = (table i).entries; limit = (table i).limit }) h

    pub not_over_so : (fault : OverFault) → IsTable (replicated s.max_locks []) → IsOverFault faults gives applied old new fault
        → Comes with_replica (reply.Refused (over_refusal fault))
    not_over_so over.NotAttached good h =
        still (reply.Refused refusal.NotAttached) (ap (told_list applied) h.1) (ap (λ (f : ReplicaView L). f.attached) h.1) (unattached (is ∙ h.0))
    not_over_so over.Link good h = gone (reply.Refused refusal.LinkFault) h.1 (unlinked (is ∙ h.0))
    not_over_so (over.Clash first second) good h =
        gone (reply.Refused (refusal.Unsound (bad.Replica first second))) h.1
        (clashes (gives old.link) (given h.0) (is ∙ h.0) first second good h.2 h.3)
    not_over_so over.NoMemory good h =
        let now : new.attached ≡ old.attached = h.now ∙ sym h.before in
        still (reply.Refused refusal.NoMemory) (λ i. if now i then unwrap_or (h.told i) [] else []) now (over_wanting (is ∙ h.before))

-- that the link failed is told where its count of faults has risen
pub over_cause : {L : Type 0} (faults : L → ℕ) (gives : L → List Entry) (applied : L → Option (List Entry)) (old new : ReplicaView L) (fault : OverFault)
    (r : Refusal) → r ≡ over_refusal fault → IsOverFault faults gives applied old new fault → HasLinkCause (faults old.link) (faults new.link) (reply.Refused r)
over_cause faults gives applied old new fault r is h =
    subst (λ x. HasLinkCause (faults old.link) (faults new.link) (reply.Refused x)) (sym is) (by_fault fault h)
  where
    by_fault : (x : OverFault) → IsOverFault faults gives applied old new x → HasLinkCause (faults old.link) (faults new.link) (reply.Refused (over_refusal x))
    by_fault over.NotAttached h = tt
    by_fault over.Link h = h.2
    by_fault (over.Clash first second) h = tt
    by_fault over.NoMemory h = tt

-- and two places where the list that it gave can't stand
pub over_told : {L : Type 0} (faults : L → ℕ) (gives : L → List Entry) (applied : L → Option (List Entry)) (old new : ReplicaView L) (fault : OverFault)
    (r : Refusal) (locks : List Entry) → r ≡ over_refusal fault → IsOverFault faults gives applied old new fault
    → IsOver true locks (gives old.link) (reply.Refused r)
over_told faults gives applied old new fault r locks is h =
    subst (λ x. IsOver true locks (gives old.link) (reply.Refused x)) (sym is) (by_fault fault h)
  where
    by_fault : (x : OverFault) → IsOverFault faults gives applied old new x → IsOver true locks (gives old.link) (reply.Refused (over_refusal x))
    by_fault over.NotAttached h = tt
    by_fault over.Link h = tt
    by_fault (over.Clash first second) h = (h.2, h.3)
    by_fault over.NoMemory h = tt

-- ---- a replica that is attached

either : (P : Type 0) (b : Bool) → (b ≡ true → P) → (b ≡ false → P) → P
either P true f g = f refl
either P false f g = g refl

module _ (s : State) (room : Admits s command.Attach) where
  pub attaches : IsAct s command.Attach (attached s) reply.Done
  attaches = is_done s command.Attach (attached s) tt room refl

  leaves_attached : leaves (call_verdict (found_in s) s (OfAdmin Attaches)) ≡ true
  leaves_attached = ap leaves (admitted (found_in s) s command.Attach room)

  pub attach_fails : IsAct s command.Attach (detached s) (reply.Refused refusal.LinkFault)
  attach_fails = record { outcome = only LinkFails; possible = record { reading = tt; event = (leaves_attached, refl); lost = tt }; same = refl }

  wants : MayHappen Wanting s (OfAdmin Attaches) (call_verdict (found_in s) s (OfAdmin Attaches))
  wants = (room.served, leaves_attached)

  -- one that followed is lost
  lost_wanting : s.attached ≡ true → IsAct s command.Attach (record s { attached = false }) (reply.Refused refusal.NoMemory)
  lost_wanting on = record {
    outcome = record { event = Wanting; reading = AsKnown; lost = true };
    possible = record { reading = tt; event = wants; lost = record { served = room.served; attached = on; may = tt } };
    same = refl;
  }

  -- and where none did none does
  none_wanting : s.attached ≡ false → IsAct s command.Attach (record s { attached = false }) (reply.Refused refusal.NoMemory)
  none_wanting off =
      subst (λ b. IsAct s command.Attach (record s { attached = b }) (reply.Refused refusal.NoMemory)) off
      (is_wanting s command.Attach room.served leaves_attached)

  pub attach_wanting : IsAct s command.Attach (record s { attached = false }) (reply.Refused refusal.NoMemory)
  attach_wanting = either _ s.attached lost_wanting none_wanting
