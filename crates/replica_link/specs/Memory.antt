-- A link in memory.
use Rattle.std.specs.Prelude.{ℕ, ◌+◌, ◌≤◌, Bool, nat_eq, List, [], Option, Some, None}
use Rattle.std.specs.List.{list_any}
use Rattle.enq_base.specs.Causes.{one_more}
use Rattle.lock_entry.specs.declared.entry.Entry.{Entry}
use Rattle.replica_link.specs.Operations.{after_op}
use Rattle.replica_link.specs.declared.fault.LinkFault.{LinkFault}
use Rattle.replica_link.specs.declared.fault.LinkFault.TheVariants.{Failed, NoMemory}
use Rattle.replica_link.specs.declared.operation.TableOp.{TableOp}

-- the replica's list, the number of the next operation, the calls that fail, the calls made, and how many of them
-- failed or were refused
pub record MemLinkState : Type 0 where
  pub list : List Entry
  pub next : Option ℕ
  pub fails : List ℕ
  pub calls : ℕ
  pub faults : ℕ
  pub refusals : ℕ

-- not attached, and not yet called
abbrev pub fresh : List ℕ → MemLinkState
fresh fails = record { list = []; next = None; fails = fails; calls = 0; faults = 0; refusals = 0 }

-- whether the call that comes is one of those that fail
abbrev pub call_fails : MemLinkState → Bool
call_fails link = list_any (λ k. nat_eq k (one_more link.calls)) link.fails

abbrev pub called : MemLinkState → MemLinkState
called link = record link { calls = one_more link.calls }

abbrev pub attached : List Entry → MemLinkState → MemLinkState
attached entries link = record link { list = entries; next = Some 1 }

abbrev pub shipped : ℕ → TableOp → MemLinkState → MemLinkState
shipped seq op link = record link { list = after_op link.list op; next = Some (seq + 1) }

abbrev pub detached : MemLinkState → MemLinkState
detached link = record link { next = None }

abbrev pub failed : MemLinkState → MemLinkState
failed link = record link { next = None; faults = one_more link.faults }

abbrev pub refused : MemLinkState → MemLinkState
refused link = record link { refusals = one_more link.refusals }

abbrev pub after_fault : LinkFault → MemLinkState → MemLinkState
after_fault Failed link = failed link
after_fault NoMemory link = refused link

-- neither count has fallen
pub record IsLater (old new : MemLinkState) : Type 0 where
  pub faults : old.faults ≤ new.faults
  pub refusals : old.refusals ≤ new.refusals
