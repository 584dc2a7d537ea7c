-- Two slots, one of which names the log in force.
use Rattle.std.specs.Prelude.{◌≡◌, ◌≢◌, ◌⊎◌, ℕ, ◌+◌, ◌<◌, List, [], ◌∷◌, ◌++◌, length}
use Rattle.std.specs.Int.{w64, from_be_bytes, to_be_bytes}
use Rattle.backup_file.specs.declared.places.Slot.{Slot}
use Rattle.backup_file.specs.declared.places.Slots.{Slots}
use Rattle.backup_file.specs.declared.places.Which.{Which}
use Rattle.backup_file.specs.declared.places.Which.TheVariants.{One, Two}

abbrev pub slot_in : Slots → Which → Slot
slot_in s One = s.one
slot_in s Two = s.two

abbrev pub other : Which → Which
other One = Two
other Two = One

-- the slots with this one in that place
abbrev pub with_slot : Slots → Which → Slot → Slots
with_slot s One x = record { one = x; two = s.two }
with_slot s Two x = record { one = s.one; two = x }

-- its gate is open, and where the other's is open too that one's generation is less
pub record IsInForce (s : Slots) (w : Which) : Type 0 where
  pub opened : (slot_in s w).gate ≡ 1
  pub newest : (slot_in s (other w)).gate ≡ 1 → (slot_in s (other w)).generation < (slot_in s w).generation

-- the slot's gate is open, and where the rival's is open too the rival's generation is less
abbrev pub LeadsOver : Slot → Slot → Type 0
LeadsOver x rival = (x.gate ≡ 1) × (rival.gate ≡ 1 → rival.generation < x.generation)

-- none is open, or both are and have one generation
abbrev pub IsUndecided : Slots → Type 0
IsUndecided s = ((s.one.gate ≢ 1) × (s.two.gate ≢ 1))
    ⊎ ((s.one.gate ≡ 1) × (s.two.gate ≡ 1) × (s.one.generation ≡ s.two.generation))

-- a slot in 17 bytes, whatever a stop left in them: its gate, and two numbers of 8 bytes
pub record IsSlot (bytes : List ℕ) (x : Slot) : Type 0 where
  pub number : List ℕ
  pub offset : List ℕ
  pub parts : bytes ≡ x.gate ∷ (number ++ offset)
  pub eight : length number ≡ 8
  pub as_many : length offset ≡ 8
  pub generation : x.generation ≡ from_be_bytes w64 number
  pub start : x.start ≡ from_be_bytes w64 offset

abbrev pub slot_bytes : Slot → List ℕ
slot_bytes x = x.gate ∷ (to_be_bytes w64 x.generation ++ to_be_bytes w64 x.start)

-- the kind of the record and the length of its payload
abbrev pub slots_head : List ℕ
slots_head = 3 ∷ 0 ∷ 0 ∷ 0 ∷ 34 ∷ []

abbrev pub slots_record : Slots → List ℕ
slots_record s = slots_head ++ (slot_bytes s.one ++ slot_bytes s.two)

-- these slots stand at the front
pub record AreSlots (bytes : List ℕ) (s : Slots) : Type 0 where
  pub one : List ℕ
  pub two : List ℕ
  pub rest : List ℕ
  pub parts : bytes ≡ slots_head ++ (one ++ (two ++ rest))
  pub first : IsSlot one s.one
  pub second : IsSlot two s.two

-- the offset of a slot behind the gate of both
abbrev pub slot_at : ℕ → Which → ℕ
slot_at gate One = gate + 6
slot_at gate Two = gate + 23

-- the slots of a file whose front log ends at this gate, and behind which its first log stands
abbrev pub first_slots : ℕ → Slots
first_slots gate = record {
  one = record { gate = 1; generation = 1; start = gate + 40 };
  two = record { gate = 0; generation = 0; start = 0 };
}
