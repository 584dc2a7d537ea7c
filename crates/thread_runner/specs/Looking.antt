-- The last look of a worker, once all threads are joined.
use Rattle.std.specs.Prelude.{◌≡◌, ◌⊎◌, ℕ, Bool, true, false, ◌&&◌, List, ◌∷◌, ◌++◌}
use Rattle.std.specs.List.{AllByRecursion, list_any}
use Rattle.actor_threads.specs.declared.actor.Deed.{Deed}
use Rattle.actor_threads.specs.Last.{LeadsServed, Stood}
use Rattle.hall_model.specs.State.{State}
use Rattle.hall_model.specs.declared.command.Who.TheVariants as caller
use Rattle.order_laws.specs.Behind.{HasNoTrouble, wants}
use Rattle.order_laws.specs.Resting.{NoneWaits}
use Rattle.order_workers.specs.Orders.{DidWork}
use Rattle.thread_runner.specs.Writing.{found_full, is_worker}
use Rattle.thread_runner.specs.Hiring.{IsLong}

-- a worker that ended because nothing was left to do
abbrev pub is_resting : Deed → Bool
is_resting d = is_worker d.who && d.rests

abbrev pub NoneRests : List Deed → Type 0
NoneRests deeds = AllByRecursion (λ (d : Deed). is_resting d ≡ false) deeds

abbrev pub stood : State → Deed → Stood
stood s d = record { state = s; full_at = d.full_at }

-- the worker went on alone with its loop from one state to the other
pub record LooksOnce (s t : State) (d now : Deed) : Type 0 where
  pub worker : ℕ
  pub who : d.who ≡ caller.Worker worker
  pub same : now.who ≡ d.who
  pub said : now.said ≡ d.said
  pub drawn : now.drawn ≡ d.drawn
  pub glanced : now.glanced ≡ d.glanced
  pub work : DidWork LeadsServed worker now.rests (stood s d) (stood t now)
  pub long : IsLong t.past now

-- one that rested did so, and nothing else changed
pub record OneLooks (s t : State) (deeds now : List Deed) : Type 0 where
  pub front : List Deed
  pub back : List Deed
  pub deed : Deed
  pub deed_now : Deed
  pub was : deeds ≡ front ++ deed ∷ back
  pub is : now ≡ front ++ deed_now ∷ back
  pub rested : is_resting deed ≡ true
  pub looks : LooksOnce s t deed deed_now

-- or none had rested, and nothing changed
abbrev pub LooksLast : State → State → List Deed → List Deed → Type 0
LooksLast s t deeds now = OneLooks s t deeds now ⊎ (NoneRests deeds × (t ≡ s) × (now ≡ deeds))

-- Where nothing went wrong and nothing was wanting, no unit waits.
abbrev pub LeavesNone : State → List Deed → Type 0
LeavesNone s deeds = HasNoTrouble s.past → list_any wants s.past ≡ false → found_full deeds ≡ false → NoneWaits s
