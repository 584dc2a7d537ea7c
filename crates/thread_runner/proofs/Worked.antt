-- Where nothing went wrong, no unit waits behind the last look.
use Rattle.std.proofs.Common.{◌≡◌, ◌⊎◌, inl, inr, ℕ, ◌<◌, Bool, true, false, true≢false, cond, List, [], ◌∷◌, ◌++◌, refl, sym, ap, ◌∙◌, subst, arith}
use Rattle.std.proofs.lemmas.Bool.Decides.{nat_tests}
use Rattle.std.specs.Prelude.{◌&&◌, ◌||◌, map, nat_eq, Option, None, Some, is_some, MatchBool}
use Rattle.std.specs.List.{AllByRecursion, list_any}
use Rattle.hall_model.specs.Recall.{Made, calls_of, state_after}
use Rattle.hall_model.specs.State.{State}
use Rattle.hall_model.specs.declared.command.PastEntry.{PastEntry}
use Rattle.hall_model.specs.declared.command.Who.{Who}
use Rattle.hall_model.specs.declared.command.Who.TheVariants as caller
use Rattle.script_actors.specs.Actors.{Land}
use Rattle.order_laws.specs.Behind.{HasNoTrouble, IsFresh, wants}
use Rattle.order_laws.specs.Resting.{NoneWaits}
use Rattle.order_workers.specs.Orders.{Rests, Stops}
use Rattle.script_actors.specs.Doers.{is_same}
use Rattle.script_actors.specs.declared.line.NumberedLine.{NumberedLine}
use Rattle.actor_threads.specs.declared.actor.Deed.{Deed}
use Rattle.caller_laws.specs.Callers.{AreAmong, AreTheirs, entries_by, is_by}
use Rattle.caller_laws.specs.Doing.{Did, WorkerDid}
use Rattle.caller_laws.specs.Rest.{BeganAt, IsIdle, RestedAlone, WentWell}
use Rattle.thread_runner.specs.Writing.{found_full, is_worker}
use Rattle.turn_desks.specs.Led.{Counts, IsLed}
use Rattle.thread_runner.specs.Acting.{AreSmall, HasWorker, IsSmall}
use Rattle.thread_runner.specs.Hiring.{AreDone, DidDeed, left_of}
use Rattle.thread_runner.specs.Looking.{LeavesNone, LooksLast, LooksOnce, NoneRests, OneLooks, stood}
use Rattle.thread_runner.proofs.Looks.{leads_states}

-- ---- what the laws of workers at rest say

abbrev pub RestsLaw : Type 0
RestsLaw = (first : State) (made : List Made) (w : ℕ) (rests : Bool) → WentWell first made → AreTheirs (calls_of made) → w < 256
    → WorkerDid (calls_of made) w rests None → rests ≡ true

abbrev pub NoneLaw : Type 0
NoneLaw = (first : State) (made : List Made) (w : ℕ) (s : State) → WentWell first made → AreTheirs (calls_of made)
    → RestedAlone w s (state_after first made) → BeganAt first s → ((v : ℕ) → v < 256 → IsIdle (calls_of made) v) → NoneWaits (state_after first made)

-- ---- callers

nat_eq_same : (a b : ℕ) → nat_eq a b ≡ true → a ≡ b
nat_eq_same a b h = grind (arith, nat_tests)

same_worker : (v : ℕ) (x : Who) → is_same (caller.Worker v) x ≡ true → x ≡ caller.Worker v
same_worker v (caller.Session s) h = absurd (true≢false (sym h))
same_worker v (caller.Worker u) h = ap caller.Worker (sym (nat_eq_same v u h))
same_worker v caller.Admin h = absurd (true≢false (sym h))

-- where no caller is this worker, none of the calls is its own
none_by : (v : ℕ) (callers : List Who) (past : List PastEntry) → AreAmong callers past → list_any (λ (x : Who). is_same x (caller.Worker v)) callers ≡ false
    → entries_by (caller.Worker v) past ≡ []
none_by v callers [] among none = refl
none_by v callers (e ∷ past) among none = go (is_by (caller.Worker v) e) refl (none_by v callers past among.1 none)
  where
    go : (b : Bool) → is_by (caller.Worker v) e ≡ b → entries_by (caller.Worker v) past ≡ [] → entries_by (caller.Worker v) (e ∷ past) ≡ []
    go true on rest =
        let found : list_any (λ (x : Who). is_same x e.who) callers ≡ true = among.0 in
        let here : list_any (λ (x : Who). is_same x (caller.Worker v)) callers ≡ true =
        subst (λ y. list_any (λ (x : Who). is_same x y) callers ≡ true) (same_worker v e.who on) found in
        absurd (true≢false (sym here ∙ none))
    go false off rest = ap (λ b. cond b (e ∷ entries_by (caller.Worker v) past) (entries_by (caller.Worker v) past)) off ∙ rest

or_left : (a b : Bool) → (a || b) ≡ false → a ≡ false
or_left true b h = h
or_left false b h = refl

or_right : (a b : Bool) → (a || b) ≡ false → b ≡ false
or_right true b h = absurd (true≢false h)
or_right false b h = h

none_of : (o : Option ℕ) → is_some o ≡ false → o ≡ None
none_of None h = refl
none_of (Some x) h = absurd (true≢false h)

-- ---- deeds

abbrev who_in : List Deed → List Who
who_in deeds = map (λ (d : Deed). d.who) deeds

module _ (rest_law : RestsLaw) (land : Land) (lines : List NumberedLine) (first : State) (made : List Made) (past : List PastEntry)
    (is : past ≡ calls_of made) (well : WentWell first made) (theirs : AreTheirs past) where
  worker_did : (d : Deed) (w : ℕ) → d.who ≡ caller.Worker w → is_some d.full_at ≡ false → DidDeed land lines past d → WorkerDid past w d.rests None
  worker_did d w e off h =
      subst (λ f. WorkerDid past w d.rests f) (none_of d.full_at off) (subst (λ x. Did land lines past x (left_of d) d.full_at) e h.did)

  -- a worker's deed that didn't find the history full is one at rest
  rested : (d : Deed) (w : ℕ) → d.who ≡ caller.Worker w → w < 256 → is_some d.full_at ≡ false → DidDeed land lines past d → d.rests ≡ true
  rested d w e small off h =
      rest_law first made w d.rests well (subst AreTheirs is theirs) small (subst (λ p. WorkerDid p w d.rests None) is (worker_did d w e off h))

  none_rests : (ds : List Deed) → NoneRests ds → AllByRecursion (DidDeed land lines past) ds → AreSmall (who_in ds) → found_full ds ≡ false
      → list_any is_worker (who_in ds) ≡ true → ⊥
  none_rests [] none all small full some = true≢false (sym some)
  none_rests (d ∷ ds) none all small full some =
      go d.who refl (none_rests ds none.1 all.1 small.1 (or_right (is_some d.full_at) (found_full ds) full))
    where
      go : (x : Who) → d.who ≡ x → (list_any is_worker (who_in ds) ≡ true → ⊥) → ⊥
      go (caller.Session s) e again = again (sym (ap (λ x. is_worker x || list_any is_worker (who_in ds)) e) ∙ some)
      go caller.Admin e again = again (sym (ap (λ x. is_worker x || list_any is_worker (who_in ds)) e) ∙ some)
      go (caller.Worker w) e again =
          let rests : d.rests ≡ true = rested d w e (subst IsSmall e small.0) (or_left (is_some d.full_at) (found_full ds) full) all.0 in
          true≢false (sym rests ∙ (sym (ap (λ x. is_worker x && d.rests) e) ∙ none.0))

  -- a worker is one of them, at rest, or there is none of its number
  idle_in : (v : ℕ) (ds : List Deed) → v < 256 → AllByRecursion (DidDeed land lines past) ds → found_full ds ≡ false
      → (list_any (λ (x : Who). is_same x (caller.Worker v)) (who_in ds) ≡ false) ⊎ WorkerDid past v true None
  idle_in v [] small all full = inl refl
  idle_in v (d ∷ ds) small all full =
      go (is_same d.who (caller.Worker v)) refl (idle_in v ds small all.1 (or_right (is_some d.full_at) (found_full ds) full))
    where
      off : is_some d.full_at ≡ false
      off = or_left (is_some d.full_at) (found_full ds) full

      worker : (x : Who) → is_same x (caller.Worker v) ≡ true → x ≡ caller.Worker v
      worker (caller.Session s) h = absurd (true≢false (sym h))
      worker (caller.Worker u) h = ap caller.Worker (nat_eq_same u v h)
      worker caller.Admin h = absurd (true≢false (sym h))

      onto : is_same d.who (caller.Worker v) ≡ false
          → (list_any (λ (x : Who). is_same x (caller.Worker v)) (who_in ds) ≡ false) ⊎ WorkerDid past v true None
          → (list_any (λ (x : Who). is_same x (caller.Worker v)) (who_in (d ∷ ds)) ≡ false) ⊎ WorkerDid past v true None
      onto off' (inl none) = inl (ap (λ c. c || list_any (λ (x : Who). is_same x (caller.Worker v)) (who_in ds)) off' ∙ none)
      onto off' (inr did) = inr did

      go : (b : Bool) → is_same d.who (caller.Worker v) ≡ b
          → (list_any (λ (x : Who). is_same x (caller.Worker v)) (who_in ds) ≡ false) ⊎ WorkerDid past v true None
          → (list_any (λ (x : Who). is_same x (caller.Worker v)) (who_in (d ∷ ds)) ≡ false) ⊎ WorkerDid past v true None
      go true e rest =
          let who : d.who ≡ caller.Worker v = worker d.who e in
          let rests : d.rests ≡ true = rested d v who small off all.0 in
          inr (subst (λ b. WorkerDid past v b None) rests (worker_did d v who off all.0))
      go false e rest = onto e rest

  idle : (v : ℕ) (callers : List Who) (ds : List Deed) → who_in ds ≡ callers → AreAmong callers past → v < 256
      → AllByRecursion (DidDeed land lines past) ds → found_full ds ≡ false → IsIdle past v
  idle v callers ds who among small all full = go (idle_in v ds small all full)
    where
      go : (list_any (λ (x : Who). is_same x (caller.Worker v)) (who_in ds) ≡ false) ⊎ WorkerDid past v true None → IsIdle past v
      go (inl none) = inl (none_by v callers past among (ap (list_any (λ (x : Who). is_same x (caller.Worker v))) (sym who) ∙ none))
      go (inr did) = inr did

  -- the worker that looked last rested then
  rested_alone : (s t : State) (d now : Deed) (l : LooksOnce s t d now) → now.rests ≡ true → RestedAlone l.worker s t
  rested_alone s t d now l rests = record {
    calls = l.work.0;
    leads = leads_states (stood s d) (stood t now) l.work.0 l.work.1;
    rests = subst (λ b. MatchBool b (Rests l.worker l.work.0) (Stops l.worker l.work.0)) rests l.work.2;
  }

  module _ (none_law : NoneLaw) (s t : State) (at : t ≡ state_after first made) (began : BeganAt first s) (callers : List Who) (deeds now : List Deed)
      (among : AreAmong callers past) (done : AreDone land lines callers past now) (some : HasWorker callers) (small : AreSmall callers)
      (full : found_full now ≡ false) where
    by_look : OneLooks s t deeds now → NoneWaits t
    by_look o =
        let all : AllByRecursion (DidDeed land lines past) (o.front ++ o.deed_now ∷ o.back) =
        subst (AllByRecursion (DidDeed land lines past)) o.is done.did in
        let who : o.deed_now.who ≡ caller.Worker o.looks.worker = o.looks.same ∙ o.looks.who in
        let few : found_full (o.front ++ o.deed_now ∷ o.back) ≡ false = ap found_full (sym o.is) ∙ full in
        let rests : o.deed_now.rests ≡ true =
        rested o.deed_now o.looks.worker who
        (subst IsSmall who (small_in o.front o.back o.deed_now (subst AreSmall (sym done.who ∙ ap who_in o.is) small)))
        (full_in o.front o.back o.deed_now few) (did_in o.front o.back o.deed_now all) in
        subst NoneWaits (sym at)
        (none_law first made o.looks.worker s well (subst AreTheirs is theirs)
        (subst (RestedAlone o.looks.worker s) at (rested_alone s t o.deed o.deed_now o.looks rests)) began
        (λ v lt. subst (λ p. IsIdle p v) is (idle v callers now done.who among lt done.did full)))
      where
        did_in : (front back : List Deed) (d : Deed) → AllByRecursion (DidDeed land lines past) (front ++ d ∷ back) → DidDeed land lines past d
        did_in [] back d h = h.0
        did_in (x ∷ front) back d h = did_in front back d h.1

        small_in : (front back : List Deed) (d : Deed) → AreSmall (who_in (front ++ d ∷ back)) → IsSmall d.who
        small_in [] back d h = h.0
        small_in (x ∷ front) back d h = small_in front back d h.1

        full_in : (front back : List Deed) (d : Deed) → found_full (front ++ d ∷ back) ≡ false → is_some d.full_at ≡ false
        full_in [] back d h = or_left (is_some d.full_at) (found_full back) h
        full_in (x ∷ front) back d h = full_in front back d (or_right (is_some x.full_at) (found_full (front ++ d ∷ back)) h)

    waits_none : LooksLast s t deeds now → NoneWaits t
    waits_none (inl o) = by_look o
    waits_none (inr n) =
        absurd (none_rests now (subst NoneRests (sym n.2) n.0) done.did (subst AreSmall (sym done.who) small) full
        (ap (list_any is_worker) done.who ∙ some))

-- behind the last look
pub leaves_none : (rest_law : RestsLaw) (none_law : NoneLaw) (land : Land) (lines : List NumberedLine) (told tells linked : Bool) (first : State)
    (before : Counts)
    (s t : State) (at_s at_t : Counts) (callers : List Who) (deeds now : List Deed) → IsFresh first → first.past ≡ []
    → IsLed told tells linked first before s at_s → (led : IsLed told tells linked first before t at_t) → AreTheirs t.past
    → AreAmong callers t.past → AreDone land lines callers t.past now → HasWorker callers → AreSmall callers → LooksLast s t deeds now → LeavesNone t now
leaves_none rest_law none_law land lines told tells linked first before s t at_s at_t callers deeds now fresh none led_s led theirs among done some small
    looks calm memory full =
    let well : WentWell first led.made = record {
      fresh = fresh;
      none = none;
      answers = led.answers;
      calm = subst HasNoTrouble led.calls calm;
      memory = subst (λ p. list_any wants p ≡ false) led.calls memory;
    } in
    waits_none rest_law land lines first led.made t.past led.calls well theirs none_law s t led.state
    (led_s.made, led_s.answers, led_s.state) callers deeds now
    among done some small full looks
