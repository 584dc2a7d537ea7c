-- A replica that follows the table, or is lost, in a call that ships what it changes.
use Rattle.std.proofs.Common.{◌≡◌, Bool, true, false, List, refl, sym, ap, ◌∙◌, subst}
use Rattle.enq_base.specs.declared.condition.Condition.{Condition}
use Rattle.enq_base.specs.declared.condition.Condition.TheVariants as condition
use Rattle.lock_entry.specs.Table.{Table}
use Rattle.lock_entry.specs.declared.entry.Entry.{Entry}
use Rattle.hall_model.specs.Acts.{Admits, IsAct}
use Rattle.hall_calls.specs.Written.{IsWritten}
use Rattle.hall_model.specs.Calls.{Call, call_of, ships}
use Rattle.hall_model.specs.Devices.{Event, AllWell, Wanting, StoreFails, BackupFails, LinkFails, NotRemade, ChangesLocks, MayLose, MayLoseIn, Reading, found_by}
use Rattle.hall_model.specs.History.{Served, ends_in, judged, losing}
use Rattle.hall_model.specs.State.{State, attached_in}
use Rattle.hall_model.specs.Step.{Verdict, Refuses, Leaves, call_verdict}
use Rattle.hall_model.specs.declared.command.Command.{Command}
use Rattle.hall_model.specs.declared.command.Reply.{Reply}
use Rattle.hall_calls.specs.declared.units.Written.{Written}
use Rattle.hall_calls.specs.declared.units.Written.TheVariants.{Answered, Failed, Unfiled}

-- one that follows now has followed before, and it is lost only in a call that ships, where other locks stand behind it
pub record Stays (call : Call) (before now : Bool) (old new : List Entry) : Type 0 where
  pub kept : now ≡ true → before ≡ true
  pub apart : ships call ≡ false → now ≡ before
  pub lost : before ≡ true → now ≡ false → new ≡ old → ⊥

true_not_false : true ≡ false → ⊥
true_not_false e = cc

pub stays_same : (call : Call) (b : Bool) (old new : List Entry) → Stays call b b old new
stays_same call b old new = record { kept = λ on. on; apart = λ off. refl; lost = λ on off same. true_not_false (sym on ∙ off) }

pub stays_shipped : (call : Call) (before now : Bool) (old new : Table) → ships call ≡ true → (now ≡ true → before ≡ true) → new.limit ≡ old.limit
    → (before ≡ true → now ≡ false → new ≡ old → ⊥) → Stays call before now old.entries new.entries
stays_shipped call before now old new on kept limit lost = record {
  kept = kept;
  apart = λ off. absurd (true_not_false (sym on ∙ off));
  lost = λ follows off same. lost follows off (λ i. record { entries = same i; limit = limit i });
}

-- a doubt loses any
pub stays_in : (k : Condition) (call : Call) (before now : Bool) (old new : List Entry) → Stays call before now old new
    → Stays call (attached_in k before) (attached_in k now) old new
stays_in condition.Up call before now old new h = h
stays_in condition.NoServer call before now old new h = h
stays_in (condition.Doubt n) call before now old new h = stays_same call false old new

-- a call that leaves the state changes no locks
unchanged : (s : State) (v : Verdict) → (judged s v).state ≡ s → ChangesLocks s v → ⊥
unchanged s (Refuses r) same h = h
unchanged s (Leaves after r) same h = h (ap (λ (t : State). t.locks) same)

-- so in one none is lost, also where memory is wanting
pub lost_wanting : (lost : Bool) (s : State) (call : Call) (v : Verdict) → (judged s v).state ≡ s → MayLose lost AllWell s call v → MayLose lost Wanting s call v
lost_wanting false s call v same may = tt
lost_wanting true s call v same may = absurd (unchanged s v same may.may.1)

-- a call that is done and leaves other locks changes them
changed : (s : State) (v : Verdict) (after : State) (r : Reply) → judged s v ≡ record { state = after; reply = r } → (after.locks ≡ s.locks → ⊥)
    → ChangesLocks s v
changed s (Refuses x) after r same other = other (ap (λ (d : Served). d.state.locks) (sym same))
changed s (Leaves t x) after r same other = λ is. other (ap (λ (d : Served). d.state.locks) (sym same) ∙ is)

-- one that follows still was lost by nothing that went wrong, and other locks stand only where nothing did
may_lose : (e : Event) (reading : Reading) (s : State) (call : Call) (v : Verdict) (after : State) (r : Reply)
    → ends_in e reading s call v ≡ record { state = after; reply = r } → after.attached ≡ true → (after.locks ≡ s.locks → ⊥) → ships call ≡ true
    → MayLoseIn e s call v
may_lose AllWell reading s call v after r same on other may = (may, changed s v after r same other)
may_lose Wanting reading s call v after r same on other may = absurd (other (ap (λ (d : Served). d.state.locks) (sym same)))
may_lose StoreFails reading s call v after r same on other may = absurd (true_not_false (sym on ∙ ap (λ (d : Served). d.state.attached) (sym same)))
may_lose BackupFails reading s call v after r same on other may = absurd (true_not_false (sym on ∙ ap (λ (d : Served). d.state.attached) (sym same)))
may_lose LinkFails reading s call v after r same on other may = absurd (true_not_false (sym on ∙ ap (λ (d : Served). d.state.attached) (sym same)))
may_lose (NotRemade fault) reading s call v after r same on other may =
    absurd (true_not_false (sym on ∙ ap (λ (d : Served). d.state.attached) (sym same)))

-- where it isn't lost, the act is the same
unlost : (s : State) (c : Command) (after : State) (r : Reply) (now : Bool) → now ≡ after.attached → IsAct s c after r
    → IsAct s c (record after { attached = now }) r
unlost s c after r now e act = subst (λ b. IsAct s c (record after { attached = b }) r) (sym e) act

-- and where it is, the devices have done the same but for that
lost : (s : State) (c : Command) (after : State) (r : Reply) → ships (call_of c) ≡ true → Admits s c → s.attached ≡ true → after.attached ≡ true
    → (after.locks ≡ s.locks → ⊥) → IsAct s c after r → IsAct s c (record after { attached = false }) r
lost s c after r may room before on other act =
    let o = act.outcome in
    let v = call_verdict (found_by o.reading s) s (call_of c) in
    elim o.lost as (λ b. losing b (ends_in o.event o.reading s (call_of c) v) ≡ record { state = after; reply = r }
    → IsAct s c (record after { attached = false }) r) [
      | true ↦ λ same. absurd (true_not_false (sym on ∙ ap (λ (d : Served). d.state.attached) (sym same)))
      | false ↦ λ same. record {
        outcome = record { event = o.event; reading = o.reading; lost = true };
        possible = record {
          reading = act.possible.reading;
          event = act.possible.event;
          lost = record { served = room.served; attached = before; may = may_lose o.event o.reading s (call_of c) v after r same on other may };
        };
        same = ap (λ (d : Served). record d { state = record d.state { attached = false } }) same;
      }
    ] act.same

by_case : (s : State) (c : Command) (after : State) (r : Reply) (now before may : Bool) → s.attached ≡ before → ships (call_of c) ≡ may
    → (now ≡ true → before ≡ true) → (may ≡ false → now ≡ before) → (before ≡ true → now ≡ false → after.locks ≡ s.locks → ⊥)
    → Admits s c → after.attached ≡ s.attached → IsAct s c after r → IsAct s c (record after { attached = now }) r
by_case s c after r true true may e f kept apart other room same act = unlost s c after r true (sym (same ∙ e)) act
by_case s c after r true false may e f kept apart other room same act = absurd (true_not_false (sym (kept refl)))
by_case s c after r false false may e f kept apart other room same act = unlost s c after r false (sym (same ∙ e)) act
by_case s c after r false true false e f kept apart other room same act = absurd (true_not_false (sym (apart refl)))
by_case s c after r false true true e f kept apart other room same act = lost s c after r f room e (same ∙ e) (other refl refl) act

-- a call that leaves what followed, with what follows now
pub shipped : (s : State) (c : Command) (after : State) (r : Reply) (now : Bool) → Stays (call_of c) s.attached now s.locks after.locks → Admits s c
    → after.attached ≡ s.attached → IsAct s c after r → IsAct s c (record after { attached = now }) r
shipped s c after r now stays room same act =
    by_case s c after r now s.attached (ships (call_of c)) refl refl stays.kept stays.apart stays.lost room same act

-- the same of one that uses store and file
pub shipped_written : (s : State) (c : Command) (after : State) (now : Bool) (w : Written) → Stays (call_of c) s.attached now s.locks after.locks → Admits s c
    → after.attached ≡ s.attached → IsWritten s c after w → IsWritten s c (record after { attached = now }) w
shipped_written s c after now (Answered r) stays room same act = shipped s c after r now stays room same act
shipped_written s c after now (Failed change) stays room same act = act
shipped_written s c after now Unfiled stays room same act = act
