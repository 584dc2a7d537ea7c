-- What shipped operations make of a replica's list.
use Rattle.std.specs.Prelude.{◌≡◌, false, cond, List, [], ◌∷◌, ◌++◌, map}
use Rattle.lock_entry.specs.declared.entry.Entry.{Entry}
use Rattle.lock_entry.specs.Names.{has_name, name_of, named, stands}
use Rattle.lock_entry.specs.Freeing.{without, handed_over}
use Rattle.lock_entry.specs.Turning.{turned, is_at}
use Rattle.replica_link.specs.declared.operation.TableOp.{TableOp}
use Rattle.replica_link.specs.declared.operation.TableOp.TheVariants.{Put, Drop, Turn, Handed}

abbrev pub instead_of : Entry → Entry → Entry
instead_of e other = cond (has_name (name_of e) other) e other

-- the entry in the place of the one with its name, or last
abbrev pub put : List Entry → Entry → List Entry
put list e = cond (stands list (name_of e)) (map (instead_of e) list) (list ++ e ∷ [])

-- the list after one operation
abbrev pub after_op : List Entry → TableOp → List Entry
after_op list (Put e) = put list e
after_op list (Drop owner asked) = without list (named owner asked)
after_op list (Turn owner table pattern) = turned list (is_at owner table pattern)
after_op list (Handed unit) = handed_over list unit

-- The replica's list: the operations, the first of them first, over the snapshot.
abbrev pub after_ops : List Entry → List TableOp → List Entry
after_ops snapshot [] = snapshot
after_ops snapshot (op ∷ ops) = after_ops (after_op snapshot op) ops

-- the operation puts an entry whose name doesn't stand
abbrev pub IsNew : List Entry → TableOp → Type 0
IsNew list (Put e) = stands list (name_of e) ≡ false
IsNew list (Drop owner asked) = ⊥
IsNew list (Turn owner table pattern) = ⊥
IsNew list (Handed unit) = ⊥
