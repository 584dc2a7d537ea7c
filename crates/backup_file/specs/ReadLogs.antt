-- Reading the records of a log one after the other, as far as they go.
use Rattle.std.specs.Prelude.{◌≡◌, ◌≢◌, ◌⊎◌, ℕ, Bool, true, false, List, [], ◌∷◌, ◌++◌, length, Some, None, Option}
use Rattle.std.specs.List.{flat_map}
use Rattle.byte_fields.specs.declared.fault.ReadFault.{ReadFault}
use Rattle.byte_fields.specs.declared.fault.ReadFault.TheVariants.{NoMemory, Bad}
use Rattle.gate_log.specs.Gates.{IsShut}
use Rattle.gate_log.specs.Logs as logs
use Rattle.backup_file.specs.declared.handed.Handed.{Handed}
use Rattle.backup_file.specs.declared.handed.Record.{Record}
use Rattle.backup_file.specs.declared.places.Place.{Place}
use Rattle.backup_file.specs.declared.places.Slots.{Slots}
use Rattle.backup_file.specs.Reading.{record_at}
use Rattle.backup_file.specs.Lists.{lists_behind}
use Rattle.backup_file.specs.Slots.{AreSlots}
use Rattle.backup_file.specs.File.{IsCompact, IsFrontAt, MayFollow, compact, front_grammar, grammar_of, log_grammar}

-- A record was noted behind these where it may follow them, and else it may not.
abbrev pub IsNotedWithin : ℕ → Bool → List Record → Record → List Record → Type 0
IsNotedWithin most true old step new = MayFollow most (lists_behind old) step × (new ≡ old ++ step ∷ [])
IsNotedWithin most false old step new = MayFollow most (lists_behind old) step → ⊥

-- a record that may follow these was read at the front, and noted behind them
pub record IsReadWithin (most : ℕ) (behind rest : List ℕ) (old new : List Record) : Type 0 where
  pub step : Record
  pub read : record_at behind ≡ Some (step, rest)
  pub legal : MayFollow most (lists_behind old) step
  pub noted : new ≡ old ++ step ∷ []

-- no record that may follow these stands at the front
abbrev pub NoneWithin : ℕ → List ℕ → List Record → Type 0
NoneWithin most behind old =
    (step : Record) (rest : List ℕ) → record_at behind ≡ Some (step, rest) → MayFollow most (lists_behind old) step → ⊥

-- P, where the record is bad
abbrev pub IfBad : Type 0 → ReadFault → Type 0
IfBad P NoMemory = Unit {0}
IfBad P Bad = P

-- these records were read up to the rest
pub record IsReadSoFar (most : ℕ) (bytes rest : List ℕ) (records : List Record) : Type 0 where
  pub front : List ℕ
  pub whole : bytes ≡ front ++ rest
  pub spelled : front ≡ flat_map (logs.opened log_grammar) records
  pub leads : logs.Leads (grammar_of [] most) [] records (lists_behind records)

-- and behind no open gate of the rest comes one that may follow
pub record IsReadAll (most : ℕ) (bytes rest : List ℕ) (records : List Record) : Type 0 where
  pub so_far : IsReadSoFar most bytes rest records
  pub ends : (behind : List ℕ) → rest ≡ 1 ∷ behind → NoneWithin most behind records

-- a closed gate stands there, or none or an open one
abbrev pub IsEnd : Bool → List ℕ → Type 0
IsEnd true rest = IsShut [] rest
IsEnd false rest = (rest ≡ []) ⊎ ((behind : List ℕ) × (rest ≡ 1 ∷ behind))

-- the slots behind an open gate
abbrev pub AreBehindGate : List ℕ → Slots → Type 0
AreBehindGate rest s = (behind : List ℕ) × (rest ≡ 1 ∷ behind) × AreSlots behind s

-- behind the records of version 1 that lead to these lists a closed gate stands at this offset
pub record IsReadFirst (bytes : List ℕ) (gate : ℕ) (l : List Handed) : Type 0 where
  pub front : List ℕ
  pub is_front : logs.IsFront front_grammar front l
  pub shut : IsShut front bytes
  pub place : length front ≡ gate

-- behind the log in force, which leads to these lists, a closed gate stands at this offset; the log is compact just
-- where that is told
pub record IsReadBehind (p : Place) (bytes : List ℕ) (gate : ℕ) (is_compact : Bool) (l : List Handed) : Type 0 where
  pub front : List ℕ
  pub is_front : IsFrontAt p front l
  pub shut : IsShut front bytes
  pub place : length front ≡ gate
  pub compact : is_compact ≡ true → is_front.log ≡ compact l
  pub loose : is_compact ≡ false → IsCompact bytes l → ⊥

-- a file without a place of slots is one of version 1
abbrev pub IsReadAs : List ℕ → Option Place → ℕ → Bool → List Handed → Type 0
IsReadAs bytes None gate is_compact l = IsReadFirst bytes gate l
IsReadAs bytes (Some p) gate is_compact l = IsReadBehind p bytes gate is_compact l

-- with the lists of these records, and compact just where there are as many lists
abbrev pub AreReadAs : List ℕ → Option Place → ℕ → List Record → Type 0
AreReadAs bytes place gate records =
    (is_compact : Bool) → (is_compact ≡ true → length (lists_behind records) ≡ length records)
    → (is_compact ≡ false → length (lists_behind records) ≢ length records)
    → IsReadAs bytes place gate is_compact (lists_behind records)
