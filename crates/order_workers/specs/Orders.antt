-- What a worker does with its orders.
use Rattle.std.specs.Prelude.{◌≡◌, ℕ, Bool, true, false, nat_eq, List, [], ◌∷◌, ◌++◌, MatchBool}
use Rattle.enq_base.specs.declared.refusal.Refusal.TheVariants as refusal
use Rattle.hall_model.specs.declared.command.Command.{Command}
use Rattle.hall_model.specs.declared.command.Command.TheVariants as command
use Rattle.hall_model.specs.declared.command.Reply.{Reply}
use Rattle.hall_model.specs.declared.command.Reply.TheVariants as reply
use Rattle.order_workers.specs.declared.desk.Look.{Look}
use Rattle.order_workers.specs.declared.worker.Order.{Order}
use Rattle.order_workers.specs.declared.worker.Order.TheVariants.{Done, Idle, Refused}
use Rattle.ledger_steps.specs.declared.part.Part.{Part}
use Rattle.ledger_steps.specs.declared.part.Part.TheVariants.{V1, V2}
use Rattle.hall_model.specs.Calls.{post_of, take_of}

-- ---- calls

-- the calls that a worker of this number makes
abbrev pub is_of_worker : ℕ → Command → Bool
is_of_worker w (command.Take1 x) = nat_eq w x
is_of_worker w (command.Take2 x) = nat_eq w x
is_of_worker w (command.Do1 x) = nat_eq w x
is_of_worker w (command.Do2 x) = nat_eq w x
is_of_worker w (command.DropOrder x) = nat_eq w x
is_of_worker w c = false

abbrev pub is_refused : Reply → Bool
is_refused (reply.Refused r) = true
is_refused r = false

-- an order was given
abbrev pub is_order : Reply → Bool
is_order (reply.Unit unit) = true
is_order r = false

-- there was no unit for one
abbrev pub is_idle : Reply → Bool
is_idle (reply.Refused refusal.Idle) = true
is_idle r = false

-- a call that a worker made, its answer, and whether the server was up behind it
pub record Made : Type 0 where
  pub command : Command
  pub reply : Reply
  pub is_up : Bool

abbrev pub made : Command → Look → Made
made c look = record { command = c; reply = look.reply; is_up = look.is_up }

-- an order for the part was given
abbrev pub IsTaken : ℕ → Part → Made → Type 0
IsTaken w part m = (m.command ≡ take_of part w) × (is_order m.reply ≡ true)

-- there was no unit for one, and the server was up
abbrev pub IsIdle : ℕ → Part → Made → Type 0
IsIdle w part m = (m.command ≡ take_of part w) × (is_idle m.reply ≡ true) × (m.is_up ≡ true)

-- the order was done
abbrev pub IsPosted : ℕ → Part → Made → Type 0
IsPosted w part m = (m.command ≡ post_of part w) × (is_refused m.reply ≡ false)

-- ---- the loop

abbrev pub other : Part → Part
other V1 = V2
other V2 = V1

-- A worker that begins with V1 orders has made these calls, and takes orders of the last part next: each order that it
-- took was done with the server up behind it, and it turned to the other part where there was no order of one.
pub data Goes (w : ℕ) : List Made → Part → Type 0 where
  Begins : Goes w [] V1
  Does : (calls : List Made) (part : Part) (take post : Made) → Goes w calls part → IsTaken w part take
      → IsPosted w part post → post.is_up ≡ true
      → Goes w (calls ++ take ∷ post ∷ []) part
  Turns : (calls : List Made) (part : Part) (take : Made) → Goes w calls part → IsIdle w part take
      → Goes w (calls ++ take ∷ []) (other part)

-- The calls with which a worker ends that doesn't rest: a take that gives no order, but for one without a unit where
-- the server is up; an order that is refused, and then dropped; one that is done, behind which the server isn't up.
pub data Ends (w : ℕ) (part : Part) : List Made → Type 0 where
  Untaken : (take : Made) → take.command ≡ take_of part w → is_order take.reply ≡ false → (IsIdle w part take → ⊥)
      → Ends w part (take ∷ [])
  Drops : (take post drop : Made) → IsTaken w part take → post.command ≡ post_of part w → is_refused post.reply ≡ true
      → drop.command ≡ command.DropOrder w
      → Ends w part (take ∷ post ∷ drop ∷ [])
  LastDone : (take post : Made) → IsTaken w part take → IsPosted w part post → post.is_up ≡ false
      → Ends w part (take ∷ post ∷ [])

-- a worker that found no order of both parts and rests: with its last call it turned back to V1, since there was no
-- order of V2
pub record Rests (w : ℕ) (calls : List Made) : Type 0 where
  pub goes : Goes w calls V1
  pub before : List Made
  pub take : Made
  pub all : calls ≡ before ++ take ∷ []
  pub idle : IsIdle w V2 take

-- a worker that ended by a refusal, or by a server that isn't up
pub record Stops (w : ℕ) (calls : List Made) : Type 0 where
  pub done : List Made
  pub last : List Made
  pub part : Part
  pub goes : Goes w done part
  pub ends : Ends w part last
  pub all : calls ≡ done ++ last

-- ---- at a desk

module _ {K : Type 0} (leads : K → Made → K → Type 0) where
  -- calls, one behind another, from a state of the desk to a later one
  pub data Leads : K → List Made → K → Type 0 where
    Stays : (k : K) → Leads k [] k
    Then : (k l n : K) (calls : List Made) (m : Made) → Leads k calls l → leads l m n → Leads k (calls ++ m ∷ []) n

  -- what came of one order
  abbrev pub DidOrder : ℕ → Part → K → K → Order → Type 0
  DidOrder w part k l Done = (take : Made) × (post : Made) × Leads k (take ∷ post ∷ []) l × IsTaken w part take
      × IsPosted w part post × (post.is_up ≡ true)
  DidOrder w part k l (Idle past) = (take : Made) × Leads k (take ∷ []) l × IsIdle w part take
  DidOrder w part k l Refused = (last : List Made) × Leads k last l × Ends w part last

  -- the same behind its take
  abbrev pub DidTaken : ℕ → Part → K → K → Order → Type 0
  DidTaken w part k l Done = (post : Made) × Leads k (post ∷ []) l × IsPosted w part post × (post.is_up ≡ true)
  DidTaken w part k l (Idle past) = ⊥
  DidTaken w part k l Refused = (last : List Made) × Leads k last l
      × ((take : Made) → IsTaken w part take → Ends w part (take ∷ last))

  -- all the calls of a worker, which then rests or not
  abbrev pub DidWork : ℕ → Bool → K → K → Type 0
  DidWork w rests k l = (calls : List Made) × Leads k calls l × MatchBool rests (Rests w calls) (Stops w calls)
