-- The changes of a call may be made in one commit.
use Rattle.std.specs.Global.{Vec}
use Rattle.enq_base.specs.declared.no_memory.NoMemory.{NoMemory}
use Rattle.keeper_api.specs.declared.rows.Change.{Change}
use Rattle.std.proofs.Common.{◌≡◌, ℕ, ◌≤◌, Bool, true, ◌&&◌, nat_le, Result, Ok, Err, IfOk, List, [], ◌∷◌, length, Option, Some, None, IsTrue, refl, sym, subst, arith}
use Rattle.std.proofs.lemmas.Bool.{and_parts, leb-true}
use Rattle.std.specs.List.{IsDistinct, list_all}
use Rattle.enq_base.specs.Grammar.{is_key, is_key_byte}
use Rattle.keeper_api.specs.Batch.{IsBatch}
use Rattle.module_effects.specs.declared.spot.Spot.{Spot}
use Rattle.module_effects.specs.Rows.{RowName}
use Rattle.remote_target.specs.Rows.{row_left, spot_changes, written_at}
use Rattle.remote_target.specs.Runs.{Execution}
use Rattle.module_effects.specs.Spots.{row_at}

true_of : (b : Bool) → IsTrue b → b ≡ true
true_of b h = h

pub key_long : (bytes : List ℕ) → IsTrue (is_key bytes) → 1 ≤ length bytes
key_long bytes h =
    let both = and_parts (list_all is_key_byte bytes && nat_le 1 (length bytes)) (nat_le (length bytes) 60) h in
    leb-true 1 (length bytes) (and_parts (list_all is_key_byte bytes) (nat_le 1 (length bytes)) both.0).1

alone : (place : ℕ) (x : Execution) → IsTrue (is_key x.tid) → IsBatch (written_at place x [])
unfolding IsDistinct
alone place x h = record { keys = (key_long x.tid h, (omega arith, tt)); distinct = ((refl, tt), (tt, tt)) }

beside : (place : ℕ) (x : Execution) (name : RowName) (text : Option (List ℕ)) → IsTrue (is_key x.tid) → IsBatch (written_at place x (row_left name text ∷ []))
unfolding IsDistinct
beside place x name None h = record { keys = (key_long x.tid h, (omega arith, (omega arith, tt))); distinct = ((refl, (refl, tt)), ((refl, tt), (tt, tt))) }
beside place x name (Some text) h =
    record { keys = (key_long x.tid h, (omega arith, (omega arith, tt))); distinct = ((refl, (refl, tt)), ((refl, tt), (tt, tt))) }

pub call_is_batch : (place : ℕ) (x : Execution) (row : Option Spot) → IsTrue (is_key x.tid) → IsBatch (written_at place x (spot_changes row))
call_is_batch place x None h = alone place x h
call_is_batch place x (Some spot) h = beside place x (row_at spot) spot.text h

left_alone : (name : RowName) (text : Option (List ℕ)) → IsBatch (row_left name text ∷ [])
unfolding IsDistinct
left_alone name None = record { keys = (omega arith, tt); distinct = (tt, tt) }
left_alone name (Some text) = record { keys = (omega arith, tt); distinct = (tt, tt) }

-- a row by itself is one too
pub row_is_batch : (row : Option Spot) → IsBatch (spot_changes row)
unfolding IsDistinct
row_is_batch None = record { keys = tt; distinct = tt }
row_is_batch (Some spot) = left_alone (row_at spot) spot.text

-- what is made of a batch is one too
pub made_batch : (result : Result (Vec Change) NoMemory) (batch : List Change) → IsBatch batch → IfOk result (λ made. made.items ≡ batch)
    → IfOk result (λ made. IsBatch made.items)
made_batch (Ok made) batch is h = subst IsBatch (sym h) is
made_batch (Err e) batch is h = tt
