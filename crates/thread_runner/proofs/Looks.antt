-- What the last look of a worker leaves of the deeds.
use Rattle.std.proofs.Common.{◌≡◌, ℕ, ◌≤◌, Bool, true, false, true≢false, List, [], ◌∷◌, ◌++◌, length, refl, sym, ap, ◌∙◌, subst, arith, append_assoc, append-nil, length-append}
use Rattle.std.proofs.lemmas.Bool.Decides.{nat_tests}
use Rattle.std.specs.Prelude.{◌&&◌, map, nat_eq, Option}
use Rattle.std.specs.List.{AllByRecursion}
use Rattle.std.proofs.lemmas.List.{map-append}
use mathlib.Core.List.{IsPrefix}
use Rattle.hall_model.specs.State.{State}
use Rattle.hall_model.specs.declared.command.PastEntry.{PastEntry}
use Rattle.hall_model.specs.declared.command.Who.{Who}
use Rattle.hall_model.specs.declared.command.Who.TheVariants as caller
use Rattle.script_actors.specs.Actors.{Land}
use Rattle.order_workers.specs.Orders.{DidWork, Leads, Made, Stays, Then}
use Rattle.script_actors.specs.Doers.{is_same}
use Rattle.script_actors.specs.declared.line.NumberedLine.{NumberedLine}
use Rattle.actor_threads.specs.Last.{LeadsServed, Stood, looked}
use Rattle.actor_threads.specs.declared.actor.Deed.{Deed}
use Rattle.caller_laws.specs.Callers.{AreDistinct, AreTheirs}
use Rattle.caller_laws.specs.Doing.{Did, LeadsAlone, Left, Looked, WorkerDid}
use Rattle.caller_laws.specs.Rest.{LeadsState}
use Rattle.thread_runner.specs.Writing.{is_worker}
use Rattle.thread_runner.specs.Hiring.{AreDone, DidDeed, left_of}
use Rattle.thread_runner.specs.Looking.{LooksOnce, OneLooks, is_resting, stood}
use Rattle.thread_runner.proofs.Done.{all_append, all_back, all_front}

-- ---- the worker's calls, seen in the history alone, and in the states alone

leads_alone : (k l : Stood) (calls : List Made) → Leads LeadsServed k calls l → Leads LeadsAlone (looked k) calls (looked l)
leads_alone k l calls (Stays x) = Stays (looked k)
leads_alone k l calls (Then x m y cs c done more) = Then (looked k) (looked m) (looked l) cs c (leads_alone k m cs done) more.alone

pub alone : (w : ℕ) (rests : Bool) (k l : Stood) → DidWork LeadsServed w rests k l → DidWork LeadsAlone w rests (looked k) (looked l)
alone w rests k l d = (d.0, leads_alone k l d.0 d.1, d.2)

pub leads_states : (k l : Stood) (calls : List Made) → Leads LeadsServed k calls l → Leads LeadsState k.state calls l.state
leads_states k l calls (Stays x) = Stays k.state
leads_states k l calls (Then x m y cs c done more) = Then k.state m.state l.state cs c (leads_states k m cs done) more.step

prefix_on : (xs ys zs : List PastEntry) → IsPrefix xs ys → IsPrefix ys zs → IsPrefix xs zs
prefix_on xs ys zs p q = (p.0 ++ q.0, sym (append_assoc xs p.0 q.0) ∙ (ap (λ l. l ++ q.0) p.1 ∙ q.1))

grown : (k l : Stood) (calls : List Made) → Leads LeadsServed k calls l → IsPrefix k.state.past l.state.past
grown k l calls (Stays x) = ([], append-nil k.state.past)
grown k l calls (Then x m y cs c done more) = prefix_on k.state.past m.state.past l.state.past (grown k m cs done) more.alone.grew

longer : (xs ys : List PastEntry) → IsPrefix xs ys → 262144 ≤ length xs → 262144 ≤ length ys
longer xs ys p h =
    let a : length (xs ++ p.0) ≡ length ys = ap length p.1 in
    let b = length-append xs p.0 in
    omega (arith, a, b, h)

-- ---- the worker and the others

other_way : (a b : ℕ) → nat_eq a b ≡ false → nat_eq b a ≡ false
other_way a b h = grind (arith, nat_tests)

-- another caller isn't this worker, told from the other side
turned : (w : ℕ) (x : Who) → is_same x (caller.Worker w) ≡ false → is_same (caller.Worker w) x ≡ false
turned w (caller.Session s) h = refl
turned w (caller.Worker v) h = other_way v w h
turned w caller.Admin h = refl

abbrev IsApart : ℕ → Deed → Type 0
IsApart w d = is_same (caller.Worker w) d.who ≡ false

abbrev who_in : List Deed → List Who
who_in deeds = map (λ (d : Deed). d.who) deeds

apart_behind : (w : ℕ) (x : Who) (ds : List Deed) → x ≡ caller.Worker w → AllByRecursion (λ (y : Who). is_same x y ≡ false) (who_in ds)
    → AllByRecursion (IsApart w) ds
apart_behind w x [] e h = tt
apart_behind w x (d ∷ ds) e h = (subst (λ z. is_same z d.who ≡ false) e h.0, apart_behind w x ds e h.1)

apart_back : (w : ℕ) (front back : List Deed) (d : Deed) → d.who ≡ caller.Worker w → AreDistinct (who_in (front ++ d ∷ back)) → AllByRecursion (IsApart w) back
apart_back w [] back d e h = apart_behind w d.who back e h.0
apart_back w (x ∷ front) back d e h = apart_back w front back d e h.1

head_apart : (w : ℕ) (x : Who) (front back : List Deed) (d : Deed) → d.who ≡ caller.Worker w
    → AllByRecursion (λ (y : Who). is_same x y ≡ false) (who_in (front ++ d ∷ back)) → is_same (caller.Worker w) x ≡ false
head_apart w x [] back d e h = turned w x (subst (λ z. is_same x z ≡ false) e h.0)
head_apart w x (y ∷ front) back d e h = head_apart w x front back d e h.1

apart_front : (w : ℕ) (front back : List Deed) (d : Deed) → d.who ≡ caller.Worker w → AreDistinct (who_in (front ++ d ∷ back))
    → AllByRecursion (IsApart w) front
apart_front w [] back d e h = tt
apart_front w (x ∷ front) back d e h = (head_apart w x.who front back d e h.0, apart_front w front back d e h.1)

-- ---- what the laws of a worker that goes on say

abbrev pub Goes : Type 0
Goes = (w : ℕ) (rests : Bool) (k l : Looked) → AreTheirs l.past → WorkerDid k.past w true k.full_at → DidWork LeadsAlone w rests k l
    → WorkerDid l.past w rests l.full_at

abbrev pub OthersStay : Type 0
OthersStay = (land : Land) (lines : List NumberedLine) (w : ℕ) (rests : Bool) (k l : Looked) (who : Who) (left : Left) (full_at : Option ℕ)
    → AreTheirs l.past → DidWork LeadsAlone w rests k l → is_same (caller.Worker w) who ≡ false → Did land lines k.past who left full_at
    → Did land lines l.past who left full_at

and_right : (a b : Bool) → (a && b) ≡ true → b ≡ true
and_right true b h = h
and_right false b h = absurd (true≢false (sym h))

module _ (goes : Goes) (others : OthersStay) (land : Land) (lines : List NumberedLine) (s t : State) (theirs : AreTheirs t.past) where
  stays : (d now x : Deed) (l : LooksOnce s t d now) → IsApart l.worker x → DidDeed land lines s.past x → DidDeed land lines t.past x
  stays d now x l far h = record {
    did = others land lines l.worker now.rests (looked (stood s d)) (looked (stood t now)) x.who (left_of x) x.full_at theirs
        (alone l.worker now.rests (stood s d) (stood t now) l.work) far h.did;
    long = λ yes. longer s.past t.past (grown (stood s d) (stood t now) l.work.0 l.work.1) (h.long yes);
  }

  all_stay : (d now : Deed) (l : LooksOnce s t d now) (xs : List Deed) → AllByRecursion (IsApart l.worker) xs
      → AllByRecursion (DidDeed land lines s.past) xs → AllByRecursion (DidDeed land lines t.past) xs
  all_stay d now l [] far h = tt
  all_stay d now l (x ∷ xs) far h = (stays d now x l far.0 h.0, all_stay d now l xs far.1 h.1)

  looked_did : (d now : Deed) (l : LooksOnce s t d now) → is_resting d ≡ true → DidDeed land lines s.past d → DidDeed land lines t.past now
  looked_did d now l rested h =
      let was : WorkerDid s.past l.worker d.rests d.full_at = subst (λ w. Did land lines s.past w (left_of d) d.full_at) l.who h.did in
      let rests : d.rests ≡ true = and_right (is_worker d.who) d.rests rested in
      let at_rest : WorkerDid s.past l.worker true d.full_at = subst (λ b. WorkerDid s.past l.worker b d.full_at) rests was in
      let is : WorkerDid t.past l.worker now.rests now.full_at =
      goes l.worker now.rests (looked (stood s d)) (looked (stood t now)) theirs at_rest (alone l.worker now.rests (stood s d) (stood t now) l.work) in
      record {
        did = subst (λ w. Did land lines t.past w (left_of now) now.full_at) (sym (l.same ∙ l.who)) is;
        long = l.long;
      }

  pub done_behind : (callers : List Who) (deeds now : List Deed) → AreDistinct callers → OneLooks s t deeds now → AreDone land lines callers s.past deeds
      → AreDone land lines callers t.past now
  done_behind callers deeds now distinct o done =
      let d : Deed = o.deed in
      let l : LooksOnce s t o.deed o.deed_now = o.looks in
      let apart : AreDistinct (who_in (o.front ++ o.deed ∷ o.back)) = subst AreDistinct (sym done.who ∙ ap who_in o.was) distinct in
      let all : AllByRecursion (DidDeed land lines s.past) (o.front ++ o.deed ∷ o.back) =
      subst (AllByRecursion (DidDeed land lines s.past)) o.was done.did in
      let behind : AllByRecursion (DidDeed land lines s.past) (o.deed ∷ o.back) = all_back (DidDeed land lines s.past) o.front (o.deed ∷ o.back) all in
      record {
        who =
            ap who_in o.is ∙ map-append (λ (x : Deed). x.who) o.front (o.deed_now ∷ o.back)
            ∙ (λ i. who_in o.front ++ l.same i ∷ who_in o.back)
            ∙ sym (map-append (λ (x : Deed). x.who) o.front (o.deed ∷ o.back)) ∙ sym (ap who_in o.was) ∙ done.who;
        did =
            subst (AllByRecursion (DidDeed land lines t.past)) (sym o.is)
            (all_append (DidDeed land lines t.past) o.front (o.deed_now ∷ o.back)
            (all_stay o.deed o.deed_now l o.front (apart_front l.worker o.front o.back o.deed l.who apart)
            (all_front (DidDeed land lines s.past) o.front (o.deed ∷ o.back) all)) (
              looked_did o.deed o.deed_now l o.rested behind.0,
              all_stay o.deed o.deed_now l o.back
                  (apart_back l.worker o.front o.back o.deed l.who apart) behind.1,
            ));
      }
