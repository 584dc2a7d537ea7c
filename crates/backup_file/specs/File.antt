-- What the bytes of a backup file stand for, in either version.
use Rattle.std.specs.Prelude.{◌≡◌, ◌⊎◌, ℕ, ◌+◌, ◌<◌, ◌≤◌, ◌^◌, Bool, List, [], ◌∷◌, ◌++◌, length, drop, IsTrue, nat_le}
use Rattle.std.specs.List.{flat_map, list_all}
use Rattle.gate_log.specs.Gates.{IsShut}
use Rattle.gate_log.specs.Grammars.{Grammar}
use Rattle.gate_log.specs.Logs as logs
use Rattle.lock_entry.specs.declared.entry.Entry.{Entry}
use Rattle.backup_file.specs.declared.handed.Handed.{Handed}
use Rattle.backup_file.specs.declared.handed.Record.{Record}
use Rattle.backup_file.specs.declared.handed.Record.TheVariants.{Hand, Free}
use Rattle.backup_file.specs.declared.places.Place.{Place}
use Rattle.backup_file.specs.declared.places.Slots.{Slots}
use Rattle.backup_file.specs.declared.places.Which.{Which}
use Rattle.backup_file.specs.Lists.{after, IsLegal}
use Rattle.backup_file.specs.Slots.{IsInForce, IsSlot, IsUndecided, first_slots, slot_at, slot_in, slots_head}
use Rattle.backup_file.specs.Slots.{slots_record}
use Rattle.backup_file.specs.Spelling.{spelling, IsRecord}

-- ---- logs

-- `ENQBCK01`
abbrev pub name : List ℕ
name = 69 ∷ 78 ∷ 81 ∷ 66 ∷ 67 ∷ 75 ∷ 48 ∷ 49 ∷ []

-- the arguments have at most so many bytes
abbrev pub are_within : ℕ → List Entry → Bool
are_within most entries = list_all (λ (e : Entry). nat_le (length e.pattern) most) entries

abbrev pub IsWithin : ℕ → Record → Type 0
IsWithin most (Hand h) = IsTrue (are_within most h.entries)
IsWithin most (Free u) = Unit {0}

-- the record may follow these lists, in a log whose arguments have at most so many bytes
abbrev pub MayFollow : ℕ → List Handed → Record → Type 0
MayFollow most l r = IsLegal l r × IsWithin most r

-- logs that begin with a name, and whose arguments have at most so many bytes
abbrev pub grammar_of : List ℕ → ℕ → Grammar Record (List Handed)
grammar_of name most = record {
  name = name;
  first = [];
  spelling = spelling;
  is_record = IsRecord;
  is_legal = MayFollow most;
  after =
      after;
}

-- the log that a file begins with
abbrev pub front_grammar : Grammar Record (List Handed)
front_grammar = grammar_of name 150

-- the log in force of a file of version 2
abbrev pub log_grammar : Grammar Record (List Handed)
log_grammar = grammar_of [] 255

-- the records of a log that has one hand of each list, and no other record
abbrev pub compact : List Handed → List ℕ
compact l = flat_map (λ (h : Handed). logs.opened log_grammar (Hand h)) l

-- a file of at most 9 bytes
abbrev pub IsShort : List ℕ → Type 0
IsShort bytes = logs.IsShort front_grammar bytes

abbrev pub IsLong : List ℕ → Type 0
IsLong bytes = logs.IsLong front_grammar bytes

-- ---- version 2

-- a front log that ends at this gate, which is open, and behind it these slots
pub record AreSlotted (gate : ℕ) (s : Slots) (bytes : List ℕ) : Type 0 where
  pub front : List ℕ
  pub lists : List Handed
  pub is_front : logs.IsFront front_grammar front lists
  pub place : length front ≡ gate
  pub one : List ℕ
  pub two : List ℕ
  pub spelled : bytes ≡ front ++ 1 ∷ (slots_head ++ (one ++ two))
  pub first : IsSlot one s.one
  pub second : IsSlot two s.two

-- The bytes before a closed gate: a front log with its slots, anything up to the start of the slot in force, and there
-- the log, which leads to these lists.
pub record IsFrontAt (p : Place) (front : List ℕ) (l : List Handed) : Type 0 where
  pub head : List ℕ
  pub gap : List ℕ
  pub log : List ℕ
  pub parts : front ≡ head ++ (gap ++ log)
  pub slotted : AreSlotted p.gate p.slots head
  pub force : IsInForce p.slots p.which
  pub starts : p.gate + 40 + length gap ≡ (slot_in p.slots p.which).start
  pub is_log : logs.IsFront log_grammar log l

abbrev pub IsFront : List ℕ → List Handed → Type 0
IsFront front l = (p : Place) × IsFrontAt p front l

-- the lists of the front log don't count
pub record IsVersion2 (bytes : List ℕ) (l : List Handed) : Type 0 where
  pub place : Place
  pub front : List ℕ
  pub is_front : IsFrontAt place front l
  pub shut : IsShut front bytes

-- the log in force has one hand of each list, and no other record
pub record IsCompact (bytes : List ℕ) (l : List Handed) : Type 0 where
  pub version : IsVersion2 bytes l
  pub same : version.is_front.log ≡ compact l

-- The bytes stand for these lists: in version 1 at most 9 bytes for none, and a longer file where its name and open
-- records lead to them and then a closed gate stands; in version 2 those of the log in force.
abbrev pub Stands : List ℕ → List Handed → Type 0
Stands bytes l = logs.Stands front_grammar bytes l ⊎ IsVersion2 bytes l

-- ---- files that stand for nothing

-- behind a front log that ends at this gate stand these slots, and then anything
pub record HasSlots (bytes : List ℕ) (gate : ℕ) (s : Slots) : Type 0 where
  pub head : List ℕ
  pub rest : List ℕ
  pub whole : bytes ≡ head ++ rest
  pub slotted : AreSlotted gate s head

-- a log can't start there: these bytes belong to the front log and the slots, or there are none
abbrev pub IsOutside : List ℕ → ℕ → ℕ → Type 0
IsOutside bytes gate start = (start < gate + 40) ⊎ (length bytes ≤ start)

-- the log from the start on is whole up to this offset, and what comes then is not
pub record BreaksBehind (bytes : List ℕ) (gate start at : ℕ) : Type 0 where
  pub from : gate + 40 ≤ start
  pub within : start < length bytes
  pub into : ℕ
  pub breaks : logs.BreaksAt log_grammar (drop start bytes) into
  pub place : at ≡ start + into

-- The slots name no log, or one that can't be there, or one that breaks.
abbrev pub EndsAtSlots : List ℕ → ℕ → Slots → ℕ → Type 0
EndsAtSlots bytes gate s at = (IsUndecided s × (at ≡ gate + 6))
    ⊎ ((w : Which) × IsInForce s w × ((IsOutside bytes gate (slot_in s w).start × (at ≡ slot_at gate w))
    ⊎ BreaksBehind bytes gate (slot_in s w).start at))

pub record BreaksAtSlots (bytes : List ℕ) (at : ℕ) : Type 0 where
  pub gate : ℕ
  pub slots : Slots
  pub has : HasSlots bytes gate slots
  pub ends : EndsAtSlots bytes gate slots at

-- The bytes stand for nothing, and this is the offset where they break: in the front log, where no slots stand, or in
-- the slots or the log that they name.
abbrev pub IsBad : List ℕ → ℕ → Type 0
IsBad bytes at = (logs.IsBad front_grammar bytes at × ((s : Slots) → HasSlots bytes at s → ⊥))
    ⊎ BreaksAtSlots bytes at

-- what old stands for new stands for, and bytes that stand for nothing stay
pub record Keeps (old new : List ℕ) : Type 0 where
  pub states : (l : List Handed) → Stands old l → Stands new l
  pub bytes : (at : ℕ) → IsBad old at → new ≡ old

-- ---- files that are made

-- a file without lists, as it is made anew
abbrev pub first_file : List ℕ
first_file = name ++ 1 ∷ (slots_record (first_slots 8) ++ 0 ∷ [])

-- the generation in force has reached its end: nothing is compacted any more
pub record IsWornOut (bytes : List ℕ) : Type 0 where
  pub gate : ℕ
  pub slots : Slots
  pub has : HasSlots bytes gate slots
  pub which : Which
  pub force : IsInForce slots which
  pub worn : 2 ^ 63 ≤ (slot_in slots which).generation

-- the generation in force was at its end before, where it is now
abbrev pub IsNoOlder : (before now : List ℕ) → Type 0
IsNoOlder before now = IsWornOut now → IsWornOut before
