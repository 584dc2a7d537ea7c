-- What is said of the table of a store holds of a store that stands.
use Rattle.std.proofs.Common.{◌≡◌, ◌≤◌, true, List, Option, Some, length, refl, sym, ap, subst, ◌∙◌}
use Rattle.std.specs.Prelude.{is_some}
use Rattle.lock_entry.specs.Table.{IsTable, Table}
use Rattle.lock_entry.specs.declared.entry.Entry.{Entry}
use Rattle.replica_link.specs.declared.operation.TableOp.{TableOp}
use Rattle.enq_server.specs.Replica.{IsAt, IsLostBy, IsLostWith, ReplicaView}
use Rattle.enq_server.specs.Server.{table_of}

pub good_store : {T : Type 0} (table : T → Table) (store : Option T) (one : T) → store ≡ Some one → IsTable (table_of table store) → IsTable (table one)
good_store table store one is good = subst (λ s. IsTable (table_of table s)) is good

pub at_store : {T L : Type 0} (table : T → Table) (applied : L → Option (List Entry)) (f : ReplicaView L) (store : Option T) (one : T) → store ≡ Some one
    → (is_some store ≡ true → IsAt applied f (table_of table store).entries) → IsAt applied f (table one).entries
at_store table applied f store one is at = subst (λ s. is_some s ≡ true → IsAt applied f (table_of table s).entries) is at refl

-- where what follows is lost something was sent, and the store's table is another then
pub lost_store : {T L : Type 0} (table : T → Table) (f f' replica : ReplicaView L) (store : Option T) (one : T) (before now : Table) (ops : List TableOp)
    → store ≡ Some one → f ≡ replica → table_of table store ≡ before → IsLostBy f f' ops → (1 ≤ length ops → now.entries ≡ (table one).entries → ⊥)
    → IsLostWith replica f' before now
lost_store {L = L} table f f' replica store one before now ops is same stood lost other = λ on off stays.
    let as_before : now ≡ table one = stays ∙ sym stood ∙ ap (table_of table) is in
    other (lost (ap (λ (g : ReplicaView L). g.attached) same ∙ on) off) (ap (λ (t : Table). t.entries) as_before)
