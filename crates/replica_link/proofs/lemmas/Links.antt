-- How far a link has come with operations that are shipped to it.
use Rattle.std.proofs.Common.{◌≡◌, ℕ, ◌+◌, Bool, List, drop, Option, Some}
use Rattle.std.specs.Prelude.{IfSome, is_some}
use Rattle.lock_entry.specs.declared.entry.Entry.{Entry}
use Rattle.replica_link.specs.declared.operation.TableOp.{TableOp}
use Rattle.replica_link.specs.Operations.{after_ops}

-- the operations from the i-th on do to what is applied what all of them do to the snapshot
pub record Shipped (told : Bool) (next : Option ℕ) (applied : Option (List Entry)) (snapshot : List Entry) (ops : List TableOp) (i seq : ℕ) : Type 0 where
  pub follows : next ≡ Some seq
  pub count : seq ≡ i + 1
  pub tells : is_some applied ≡ told
  pub rest : IfSome applied (λ list. after_ops list (drop i ops) ≡ after_ops snapshot ops)
