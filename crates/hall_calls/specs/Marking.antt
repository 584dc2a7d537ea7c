-- What a call leaves of the lock server, and of a unit that gets a mark.
use Rattle.std.specs.Prelude.{ℕ, ◌≡◌, ◌≤◌, ◌⊎◌, Bool, false, ◌&&◌, if◌then◌else◌, List, length, nat_le, Option, Some}
use Rattle.std.specs.Prelude.{None, IfErr, IsErrOf, IsTrue, OnOk, Result, Ok, Err}
use Rattle.backup_file.specs.Backup.{IsReady, IsSame}
use Rattle.backup_file.specs.File.{Stands}
use Rattle.backup_file.specs.Lists.{is_known}
use Rattle.backup_file.specs.declared.handed.Handed.{Handed}
use Rattle.enq_base.specs.declared.unit_id.UnitId.{UnitId}
use Rattle.enq_base.specs.declared.owner.UnitKey.{UnitKey}
use Rattle.enq_base.specs.declared.refusal.Refusal.{Refusal}
use Rattle.enq_base.specs.declared.refusal.Refusal.TheVariants as refusal
use Rattle.enq_server.specs.Faults.{HasCallCause, IsReadmission}
use Rattle.enq_server.specs.Replica.{IsLostWith, KeepsOn}
use Rattle.enq_server.specs.Recovery.{AreWith}
use Rattle.enq_server.specs.Server.{Server, with_list}
use Rattle.enq_server.specs.declared.fault.ServerFault.{ServerFault}
use Rattle.enq_server.specs.declared.fault.ServerFault.TheVariants as server
use Rattle.lock_entry.specs.Granting.{readmitted}
use Rattle.lock_entry.specs.declared.entry.Asker.{Asker}
use Rattle.lock_entry.specs.declared.entry.Entry.{Entry}
use Rattle.ledger_steps.specs.declared.step.Step.TheVariants as step
use Rattle.update_records.specs.Growing.{with_mark}
use Rattle.update_records.specs.Ledger.{Ledger}
use Rattle.update_records.specs.declared.records.MarkKind.{MarkKind}
use Rattle.hall_model.specs.OpenUnits.{waits_with_locks}
use Rattle.hall_model.specs.Orders.{order_for, without_order}
use Rattle.hall_model.specs.declared.command.Reply.{Reply}
use Rattle.hall_model.specs.declared.command.Reply.TheVariants as reply
use Rattle.hall_calls.specs.Filing.{AreWaiting, lists_ended, locks_ended, stays_known}
use Rattle.hall_calls.specs.OpenLists.{AgreeAll, AreOpenLists}
use Rattle.hall_calls.specs.declared.units.Written.{Written}
use Rattle.hall_calls.specs.declared.units.Written.TheVariants.{Answered, Failed, Unfiled}
use Rattle.ledger_steps.specs.declared.part.Part.{Part}

-- ---- the lock server

-- the limit stays, and so does whether a table stands; a replica that followed is lost only where the table is another
pub record ServesOn {D L : Type 0} (applied : L → Option (List Entry)) (faults refusals : L → ℕ)
    (old new : Server D L) : Type 0 where
  pub limit : new.table.limit ≡ old.table.limit
  pub standing : new.stands ≡ old.stands
  pub replica : KeepsOn applied faults refusals old.replica new.replica
  pub lost : IsLostWith old.replica new.replica old.table new.table

-- entries stand again for their asker, and the file has them as the unit's list; or the table refuses them, memory was
-- wanting, or the disk failed
pub record Readmits {D L : Type 0} (tells : Bool) (reads : D → List ℕ) (may_leave : D → List ℕ → Type 0)
    (faults : D → ℕ) (asker : Asker) (unit : UnitKey) (given : List Entry) (old new : Server D L)
    (result : Result Unit ServerFault) : Type 0 where
  pub granted : OnOk result (readmitted old.table asker given ≡ Ok new.table.entries)
  pub refused : IfErr result (IsReadmission (readmitted old.table asker given) old.table.entries new.table.entries)
  pub usable : OnOk result (new.file.failed ≡ false)
  pub known : OnOk result (AreWith unit given old.file.units new.file.units)
  pub listed : IsTrue tells → (lists : List Handed) → IsReady reads may_leave old.file lists
      → OnOk result (IsReady reads may_leave new.file (with_list unit given lists))
  pub images : IsTrue tells → (lists : List Handed) → IsReady reads may_leave old.file lists → (image : List ℕ)
      → may_leave new.file.disk image
      → Stands image lists ⊎ Stands image (with_list unit given lists)
  pub untouched : IfErr result (λ f. (f ≡ server.Failed) ⊎ IsSame old.file new.file)
  pub some : IsErrOf result server.Failed → 1 ≤ length given
  pub cause : HasCallCause (faults old.file.disk) (faults new.file.disk) result

-- ---- a mark

-- what the lists of the open units are behind a mark, with the unit's list and, where it is to end, without it
pub record EndsList (ends : Bool) (ledger now : Ledger) (unit : UnitKey) : Type 0 where
  pub known : (old new : List UnitId) → AreWaiting ledger old
      → ((other : UnitKey) → is_known other new ≡ stays_known ends unit old other) → AreWaiting now new
  pub lists : (given : List Handed) → AreOpenLists ledger given → AreOpenLists now (lists_ended ends given unit)
  pub agree : (given : List Handed) → AgreeAll ledger given → AgreeAll now given
  pub half : (given : List Handed) → AgreeAll ledger given → AgreeAll now (lists_ended ends given unit)

-- The mark is written, the unit's locks have ended where they were to end, and this is answered; or the store failed
-- with the mark in flight; or the disk failed as the unit's list was to go.
abbrev pub IsNoted : (ledger now : Ledger) (entries left : List Entry) (ends : Bool) → UnitKey → MarkKind → Reply
    → Written → Type 0
IsNoted ledger now entries left ends unit kind said (Answered r) =
    (r ≡ said) × (now ≡ with_mark ledger unit kind) × (left ≡ locks_ended ends entries unit)
IsNoted ledger now entries left ends unit kind said (Failed (Some (step.Note key noted))) =
    (key ≡ unit) × (noted ≡ kind)
IsNoted ledger now entries left ends unit kind said Unfiled =
    (now ≡ with_mark ledger unit kind) × IsTrue (ends && waits_with_locks ledger unit)
IsNoted ledger now entries left ends unit kind said _ = ⊥

-- the mark is written, or the store failed with it in flight
abbrev pub IsMarked : (ledger now : Ledger) → UnitKey → MarkKind → Written → Type 0
IsMarked ledger now unit kind (Answered (reply.Unit key)) = (key ≡ unit) × (now ≡ with_mark ledger unit kind)
IsMarked ledger now unit kind (Failed (Some (step.Note key noted))) = (key ≡ unit) × (noted ≡ kind)
IsMarked ledger now unit kind _ = ⊥

-- ---- a post

-- of a worker with this order, by whether the store has as many marks as it may
abbrev pub unit_to_post : (full : Bool) → (limit : ℕ) → Option UnitKey → Result UnitKey Refusal
unit_to_post full limit None = Err refusal.NoOrder
unit_to_post full limit (Some unit) = if full then Err (refusal.StoreFull limit) else Ok unit

-- the unit whose part a worker may post now, or why there is none
abbrev pub to_post : (part : Part) → Ledger → List (Option UnitKey) → (limit worker : ℕ) → Result UnitKey Refusal
to_post part ledger orders limit worker =
    unit_to_post (nat_le limit (length ledger.marks)) limit (order_for part ledger orders worker)

-- the order of a part that was tried goes
abbrev pub orders_behind : List (Option UnitKey) → (worker : ℕ) → Written → List (Option UnitKey)
orders_behind orders worker (Answered (reply.Refused r)) = orders
orders_behind orders worker (Answered r) = without_order orders worker
orders_behind orders worker (Failed change) = orders
orders_behind orders worker Unfiled = orders
