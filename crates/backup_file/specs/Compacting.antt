-- A file while its log is written anew.
use Rattle.std.specs.Prelude.{◌≡◌, ◌≢◌, ◌⊎◌, ℕ, ◌+◌, ◌≤◌, List, ◌∷◌, ◌++◌, length}
use Rattle.bk_disk.specs.Disk.{Only}
use Rattle.gate_log.specs.Gates.{IsAtRest}
use Rattle.gate_log.specs.Logs as logs
use Rattle.backup_file.specs.declared.handed.Handed.{Handed}
use Rattle.backup_file.specs.declared.places.Place.{Place}
use Rattle.backup_file.specs.declared.places.Slot.{Slot}
use Rattle.backup_file.specs.declared.places.Slots.{Slots}
use Rattle.backup_file.specs.Slots.{IsInForce, other, slot_in, with_slot}
use Rattle.backup_file.specs.File.{AreSlotted, IsFrontAt, compact, log_grammar}

-- at this offset stands a log that leads to these lists, and a closed gate behind it
pub record HasLog (rest : List ℕ) (offset : ℕ) (log : List ℕ) (l : List Handed) : Type 0 where
  pub before : List ℕ
  pub byte : ℕ
  pub more : List ℕ
  pub parts : rest ≡ before ++ (log ++ byte ∷ more)
  pub sized : length before ≡ offset
  pub is_log : logs.IsFront log_grammar log l
  pub closed : byte ≢ 1

-- a front log with these slots, then these bytes, and all of it is on the disk
pub record IsLaid (gate : ℕ) (s : Slots) (rest bytes : List ℕ) (images : List ℕ → Type 0) : Type 0 where
  pub head : List ℕ
  pub whole : bytes ≡ head ++ rest
  pub slotted : AreSlotted gate s head
  pub durable : Only bytes images

-- the slot in force names a log that leads to these lists
pub record NamesLog (p : Place) (rest : List ℕ) (l : List Handed) : Type 0 where
  pub force : IsInForce p.slots p.which
  pub log : List ℕ
  pub offset : ℕ
  pub has : HasLog rest offset log l
  pub starts : p.gate + 40 + offset ≡ (slot_in p.slots p.which).start

-- the same file, but for the slot that isn't in force, of which this holds
pub record IsLaidBeside (p : Place) (P : Slot → Type 0) (rest bytes : List ℕ) (images : List ℕ → Type 0) : Type 0 where
  pub slot : Slot
  pub holds : P slot
  pub laid : IsLaid p.gate (with_slot p.slots (other p.which) slot) rest bytes images

abbrev pub IsShutSlot : Slot → Type 0
IsShutSlot x = x.gate ≢ 1

-- it is closed, and names the log at this offset as one of the next generation
pub record IsNextSlot (p : Place) (at : ℕ) (x : Slot) : Type 0 where
  pub shut : x.gate ≢ 1
  pub generation : x.generation ≡ (slot_in p.slots p.which).generation + 1
  pub start : x.start ≡ at

-- where the other slot is in force, and names a log there
abbrev pub next_place : Place → ℕ → Place
next_place p at = record {
  gate = p.gate;
  slots = with_slot p.slots (other p.which)
      (record { gate = 1; generation = (slot_in p.slots p.which).generation + 1; start = at });
  which = other p.which;
}

-- the new log may be written there: right behind the slots, where it ends before the log in force begins, or right
-- behind the closed gate
abbrev pub IsFree : Place → (gate at size : ℕ) → Type 0
IsFree p gate at size =
    ((at ≡ p.gate + 40) × (at + size ≤ (slot_in p.slots p.which).start)) ⊎ (at ≡ gate + 1)

-- the log in force stands as before, and another that has one hand of each of its lists stands at this offset
pub record HasBoth (p : Place) (at : ℕ) (l : List Handed) (bytes : List ℕ) (images : List ℕ → Type 0) : Type 0 where
  pub rest : List ℕ
  pub laid : IsLaid p.gate p.slots rest bytes images
  pub names : NamesLog p rest l
  pub offset : ℕ
  pub has : HasLog rest offset (compact l) l
  pub starts : p.gate + 40 + offset ≡ at

-- the log at this offset is in force, has one hand of each list, and is all that follows
pub record IsRewritten (p : Place) (gate : ℕ) (l : List Handed) (bytes : List ℕ) (images : List ℕ → Type 0)
    : Type 0 where
  pub front : List ℕ
  pub is_front : IsFrontAt p front l
  pub same : is_front.log ≡ compact l
  pub at_rest : IsAtRest bytes images gate front
