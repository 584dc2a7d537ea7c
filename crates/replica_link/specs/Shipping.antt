-- What is shipped where a table changes, so that its replica follows it.
use Rattle.std.specs.Prelude.{◌-◌, cond, nat_le, List, [], ◌∷◌, ◌++◌, map}
use Rattle.std.specs.List.{filter, find, flat_map}
use Rattle.std.specs.Option.{option_map_or}
use Rattle.enq_base.specs.declared.owner.Owner.{Owner}
use Rattle.lock_entry.specs.declared.entry.Asked.{Asked}
use Rattle.lock_entry.specs.declared.entry.Asker.{Asker}
use Rattle.lock_entry.specs.declared.entry.Entry.{Entry}
use Rattle.lock_entry.specs.declared.entry.LockName.{LockName}
use Rattle.lock_entry.specs.Names.{asked_of, has_name, is_of}
use Rattle.replica_link.specs.declared.operation.TableOp.{TableOp}
use Rattle.replica_link.specs.declared.operation.TableOp.TheVariants.{Put, Drop, Turn}

abbrev pub drop_of : Entry → TableOp
drop_of e = Drop e.owner (asked_of e)

-- all entries of the owner go
abbrev pub owner_ops : List Entry → Owner → List TableOp
owner_ops list owner = map drop_of (filter (is_of owner) list)

-- the entry loses one, and goes at 0
abbrev pub lowered_op : Entry → TableOp
lowered_op e = cond (nat_le e.count 1) (drop_of e) (Put (record e { count = e.count - 1 }))

-- the entry of this name loses one, if it stands
abbrev pub freed_ops : List Entry → LockName → List TableOp
freed_ops list n = option_map_or (λ e. lowered_op e ∷ []) (find (has_name n) list) []

-- the entry of this name, as it stands in the table
abbrev pub put_ops : List Entry → LockName → List TableOp
put_ops table n = option_map_or (λ e. Put e ∷ []) (find (has_name n) table) []

-- the entries that a call's halves name, as they stand after it
abbrev pub granted_ops : List Entry → List LockName → List TableOp
granted_ops table names = flat_map (put_ops table) names

-- the given entries stand in place of the owner's
abbrev pub readmitted_ops : List Entry → Owner → List Entry → List TableOp
readmitted_ops list owner given = owner_ops list owner ++ map Put given

-- the O entries of the asker's two owners at this table and argument turn
abbrev pub turn_ops : Asker → Asked → List TableOp
turn_ops asker a = Turn asker.dialogue a.table a.pattern ∷ (Turn asker.update a.table a.pattern ∷ [])

-- the O entries of the asker turn, and those of others that give way go
abbrev pub converted_ops : Asker → List Asked → (removed : List Entry) → List TableOp
converted_ops asker asked removed = flat_map (turn_ops asker) asked ++ map drop_of removed
