-- The change that stores a call may be made in a commit.
use Rattle.std.specs.Global.{Vec}
use Rattle.std.proofs.Common.{◌≡◌, ℕ, Bool, true, Result, Ok, Err, IfOk, List, [], ◌∷◌, Option, IsTrue, sym, subst}
use Rattle.std.specs.List.{IsDistinct}
use Rattle.enq_base.specs.declared.no_memory.NoMemory.{NoMemory}
use Rattle.enq_base.specs.Grammar.{is_key}
use Rattle.keeper_api.specs.declared.rows.Change.{Change}
use Rattle.keeper_api.specs.Batch.{IsBatch}
use Rattle.remote_target.specs.declared.call.CallOutcome.{CallOutcome}
use Rattle.remote_sending.specs.Outbox.{outbox_change}
use Rattle.remote_sending.proofs.Spelled.{key_long}

pub call_is_batch : (tid text : List ℕ) (outcome : Option CallOutcome) → IsTrue (is_key tid) → IsBatch (outbox_change tid text outcome ∷ [])
unfolding IsDistinct
call_is_batch tid text outcome h = record { keys = (key_long tid h, tt); distinct = (tt, tt) }

-- what is made of a batch is one too
pub made_batch : (result : Result (Vec Change) NoMemory) (batch : List Change) → IsBatch batch → IfOk result (λ made. made.items ≡ batch)
    → IfOk result (λ made. IsBatch made.items)
made_batch (Ok made) batch is h = subst IsBatch (sym h) is
made_batch (Err e) batch is h = tt
