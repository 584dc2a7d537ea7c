-- A replica in memory whose entries are found by their names.
use Rattle.std.specs.Prelude.{ℕ, ◌+◌, ◌≤◌, List, [], Option, Some, None}
use Rattle.enq_base.specs.Causes.{one_more}
use Rattle.lock_entry.specs.declared.entry.Entry.{Entry}
use Rattle.replica_link.specs.Operations.{after_op}
use Rattle.replica_link.specs.declared.fault.LinkFault.{LinkFault}
use Rattle.replica_link.specs.declared.fault.LinkFault.TheVariants.{Failed, NoMemory}
use Rattle.replica_link.specs.declared.operation.TableOp.{TableOp}

-- the replica's list, the number of the next operation, and how many calls failed or were refused
pub record IndexLinkState : Type 0 where
  pub list : List Entry
  pub next : Option ℕ
  pub faults : ℕ
  pub refusals : ℕ

-- not attached, and not yet called
abbrev pub unattached : IndexLinkState
unattached = record { list = []; next = None; faults = 0; refusals = 0 }

abbrev pub attached : List Entry → IndexLinkState → IndexLinkState
attached entries link = record link { list = entries; next = Some 1 }

abbrev pub shipped : ℕ → TableOp → IndexLinkState → IndexLinkState
shipped seq op link = record link { list = after_op link.list op; next = Some (seq + 1) }

-- the count of the fault rises
abbrev pub counted : LinkFault → IndexLinkState → IndexLinkState
counted Failed link = record link { faults = one_more link.faults }
counted NoMemory link = record link { refusals = one_more link.refusals }

-- the same, and no replica is attached
abbrev pub lost : LinkFault → IndexLinkState → IndexLinkState
lost f link = record (counted f link) { next = None }

-- neither count has fallen
pub record IsLater (old new : IndexLinkState) : Type 0 where
  pub faults : old.faults ≤ new.faults
  pub refusals : old.refusals ≤ new.refusals
