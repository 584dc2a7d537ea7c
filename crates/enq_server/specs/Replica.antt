-- A replica that follows the lock table.
use Rattle.std.specs.Prelude.{◌≡◌, ◌≢◌, ◌⊎◌, ◌≤◌, ℕ, Bool, true, false, if◌then◌else◌, List, [], length}
use Rattle.std.specs.Prelude.{Option, Some, IfSome, is_some}
use Rattle.std.specs.Option.{unwrap_or}
use Rattle.enq_base.specs.Causes.{Rose}
use Rattle.lock_entry.specs.Sound.{IsSound, first_clash}
use Rattle.lock_entry.specs.Table.{Table}
use Rattle.lock_entry.specs.declared.entry.Entry.{Entry}
use Rattle.replica_link.specs.declared.fault.LinkFault.{LinkFault}
use Rattle.replica_link.specs.declared.fault.LinkFault.TheVariants as link
use Rattle.replica_link.specs.declared.operation.TableOp.{TableOp}
use Rattle.enq_server.specs.declared.fault.OverFault.{OverFault}
use Rattle.enq_server.specs.declared.fault.OverFault.TheVariants as over

-- the link to it, the number of the next operation, and whether it follows
pub record ReplicaView (L : Type 0) : Type 0 where
  pub link : L
  pub seq : ℕ
  pub attached : Bool

-- where it follows and the link tells its list, that is this one
abbrev pub IsAt : {L : Type 0} → (L → Option (List Entry)) → ReplicaView L → List Entry → Type 0
IsAt applied f list = f.attached ≡ true → IfSome (applied f.link) (λ l. l ≡ list)

-- the list of a replica that follows, where the link tells it
abbrev pub told_list : {L : Type 0} → (L → Option (List Entry)) → ReplicaView L → List Entry
told_list applied f = if f.attached then unwrap_or (applied f.link) [] else []

-- neither count has fallen, what followed before is lost only where one of them rose, and the link tells its list just
-- where it did
pub record KeepsOn {L : Type 0} (applied : L → Option (List Entry)) (faults refusals : L → ℕ)
    (old new : ReplicaView L) : Type 0 where
  pub faults_later : faults old.link ≤ faults new.link
  pub refusals_later : refusals old.link ≤ refusals new.link
  pub kept : new.attached ≡ true → old.attached ≡ true
  pub lost : old.attached ≡ true → new.attached ≡ false → Rose (faults old.link) (faults new.link)
      ⊎ Rose (refusals old.link) (refusals new.link)
  pub told : is_some (applied new.link) ≡ is_some (applied old.link)

-- one that followed is lost only where some of these operations was sent
abbrev pub IsLostBy : {L : Type 0} → (old new : ReplicaView L) → List TableOp → Type 0
IsLostBy old new ops = old.attached ≡ true → new.attached ≡ false → 1 ≤ length ops

-- one that followed is lost only where the table is another then
abbrev pub IsLostWith : {L : Type 0} → (old new : ReplicaView L) → (before now : Table) → Type 0
IsLostWith old new before now = old.attached ≡ true → new.attached ≡ false → now ≢ before

-- how a fault of the link is told
abbrev pub over_fault : LinkFault → OverFault
over_fault link.Failed = over.Link
over_fault link.NoMemory = over.NoMemory

-- neither count of the link has fallen, and it tells its list just where it did
pub record IsLater {L : Type 0} (applied : L → Option (List Entry)) (faults refusals : L → ℕ)
    (old new : ReplicaView L) : Type 0 where
  pub faults_later : faults old.link ≤ faults new.link
  pub refusals_later : refusals old.link ≤ refusals new.link
  pub told : is_some (applied new.link) ≡ is_some (applied old.link)

-- it follows as before, and would give the same
pub record StillFollows {L : Type 0} (gives : L → List Entry) (applied : L → Option (List Entry))
    (old new : ReplicaView L) : Type 0 where
  pub before : old.attached ≡ true
  pub now : new.attached ≡ true
  pub given : gives new.link ≡ gives old.link
  pub told : applied new.link ≡ applied old.link

-- why no table was taken over from the replica: none followed, the link failed, what it gives isn't sound, or memory
-- ran out, after which it may be asked again
abbrev pub IsOverFault : {L : Type 0} → (faults : L → ℕ) → (gives : L → List Entry)
    → (applied : L → Option (List Entry)) → (old new : ReplicaView L) → OverFault → Type 0
IsOverFault faults gives applied old new over.NotAttached = (old.attached ≡ false) × (new ≡ old)
IsOverFault faults gives applied old new over.Link =
    (old.attached ≡ true) × (new.attached ≡ false) × Rose (faults old.link) (faults new.link)
IsOverFault faults gives applied old new (over.Clash first second) =
    (old.attached ≡ true) × (new.attached ≡ false) × (IsSound (gives old.link) → ⊥)
    × (first_clash (gives old.link) ≡ Some (first, second))
IsOverFault faults gives applied old new over.NoMemory = StillFollows gives applied old new
