-- When workers rest, what they may be answered, and what waits then.
use Rattle.std.specs.Prelude.{◌≡◌, ℕ, ◌<◌, Bool, true, false, not, ◌&&◌, ◌||◌, nat_eq, List, ◌∷◌, ◌++◌, Some, None}
use Rattle.std.specs.List.{list_all, list_any}
use Rattle.enq_base.specs.declared.owner.UnitKey.{UnitKey}
use Rattle.enq_base.specs.declared.refusal.Refusal.{Refusal}
use Rattle.enq_base.specs.declared.refusal.Refusal.TheVariants as refusal
use Rattle.hall_model.specs.declared.command.Reply.{Reply}
use Rattle.hall_model.specs.declared.command.Reply.TheVariants as reply
use Rattle.hall_model.specs.declared.command.PastEntry.{PastEntry}
use Rattle.hall_model.specs.Calls.{Call, OfSession, OfWorker, OfAdmin, Commits, Drops, Resubmits, Restarts, Takes}
use Rattle.hall_model.specs.Calls.{call_of}
use Rattle.hall_model.specs.Orders.{first_unclaimed, is_claimed, order_for, order_of, waits_for}
use Rattle.hall_model.specs.Recall.{Made, calls_of, state_after}
use Rattle.hall_model.specs.State.{State}
use Rattle.ledger_steps.specs.Steps.{waiting_for}
use Rattle.order_laws.specs.Behind.{NoneHasOrder, is_up, order_after, up_after}
use Rattle.ledger_steps.specs.declared.part.Part.TheVariants.{V1, V2}
use Rattle.ledger_steps.specs.declared.part.Part.{Part}

-- no unit waits for its V1 part, nor for its V2 part
abbrev pub NoneWaits : State → Type 0
NoneWaits s = (unit : UnitKey) → (waits_for V1 s.stored unit || waits_for V2 s.stored unit) ≡ false

-- no worker has an order, and there is none to take
pub record AllRest (s : State) : Type 0 where
  pub free : NoneHasOrder s
  pub first : first_unclaimed s.orders (waiting_for V1 s.stored) ≡ None
  pub second : first_unclaimed s.orders (waiting_for V2 s.stored) ≡ None

-- ---- orders to take

-- each unit that waits for this part is one that some worker has an order for
abbrev pub AreClaimed : Part → State → Type 0
AreClaimed part s = (unit : UnitKey) → waits_for part s.stored unit ≡ true → is_claimed s.orders unit ≡ true

-- the worker has no order, there is none of this part to take, and nothing changes
pub record FindsNone (s t : State) (worker : ℕ) (part : Part) : Type 0 where
  pub free : order_of s.orders worker ≡ None
  pub none : first_unclaimed s.orders (waiting_for part s.stored) ≡ None
  pub same : t ≡ s

-- With this call and its answer a unit may wait for its V1 part that no worker has an order for: one was recorded or is
-- tried again, an order was dropped, or a restart ended all orders.
abbrev pub offers : Call → Reply → Bool
offers (OfSession session (Commits parts stock)) (reply.Unit unit) = true
offers (OfWorker worker Drops) (reply.Unit unit) = true
offers (OfAdmin (Resubmits unit)) (reply.Unit other) = true
offers (OfAdmin Restarts) reply.Done = true
offers call r = false

abbrev pub NoneOffers : List PastEntry → Type 0
NoneOffers calls = list_any (λ (call : PastEntry). offers (call_of call.command) call.reply) calls ≡ false

-- ---- answers

-- why a take may be refused while the server is up: the worker has an order, no unit waits, or the history is full
abbrev pub may_refuse_take : Refusal → Bool
may_refuse_take (refusal.WorkerBusy unit) = true
may_refuse_take refusal.Idle = true
may_refuse_take refusal.LogFull = true
may_refuse_take r = false

-- and why a post of a unit that waits for the part: the history or the store is full, memory is wanting, or a device
-- failed
abbrev pub may_refuse_post : Refusal → Bool
may_refuse_post refusal.LogFull = true
may_refuse_post (refusal.StoreFull limit) = true
may_refuse_post refusal.NoMemory = true
may_refuse_post refusal.StoreFault = true
may_refuse_post refusal.BackupFault = true
may_refuse_post r = false

-- the call is done, or refused for such a reason
abbrev pub is_done_unless : (Refusal → Bool) → Reply → Bool
is_done_unless may (reply.Refused r) = may r
is_done_unless may r = true

-- ---- an order, until its worker's next call

abbrev pub is_by : ℕ → Call → Bool
is_by worker (OfWorker other call) = nat_eq other worker
is_by worker call = false

-- the call is none of this worker's, and the server is up behind it
abbrev pub goes_beside : ℕ → PastEntry → Bool
goes_beside worker call = not (is_by worker (call_of call.command)) && is_up call.after.condition

abbrev pub GoBeside : ℕ → List PastEntry → Type 0
GoBeside worker calls = list_all (goes_beside worker) calls ≡ true

-- Where a take gives a unit while the server is up, the worker has an order for it, and it waits for that part, until
-- the worker calls again or the server is up no more.
abbrev pub OrdersStand : State → List Made → Type 0
OrdersStand first made =
    (earlier between later : List Made) (m : Made) (worker : ℕ) (part : Part) (unit : UnitKey)
    → made ≡ earlier ++ m ∷ (between ++ later) → worker < 256 → up_after (calls_of earlier) ≡ true
    → call_of m.call.command ≡ OfWorker worker (Takes part) → m.call.reply ≡ reply.Unit unit
    → GoBeside worker (calls_of between)
    → order_for part (state_after first (earlier ++ m ∷ between)).stored
    (state_after first (earlier ++ m ∷ between)).orders worker ≡ Some unit

-- ---- behind a history

-- Behind the earlier calls there is no V1 order to take, and the later ones offer no unit for one; behind all of them
-- there is no V2 order to take, and no worker has an order.
pub record AllRestBehind (first : State) (earlier later : List Made) : Type 0 where
  pub first_none : first_unclaimed (state_after first earlier).orders
      (waiting_for V1 (state_after first earlier).stored) ≡ None
  pub offered : NoneOffers (calls_of later)
  pub second_none :
      first_unclaimed (state_after first (earlier ++ later)).orders
      (waiting_for V2 (state_after first (earlier ++ later)).stored) ≡ None
  pub free : (worker : ℕ) → worker < 256 → order_after worker (calls_of (earlier ++ later)) ≡ None
