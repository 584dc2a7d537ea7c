-- How the records of a backup file are spelled.
use Rattle.std.specs.Prelude.{◌≡◌, ℕ, ◌<◌, ◌≤◌, ◌^◌, true, List, [], ◌∷◌, ◌++◌, length, IsTrue}
use Rattle.std.specs.List.{flat_map, AllByRecursion}
use Rattle.std.specs.Int.{w16, w32, to_be_bytes}
use Rattle.enq_base.specs.Grammar.{is_name, is_pattern}
use Rattle.enq_base.specs.declared.owner.UnitKey.{UnitKey}
use Rattle.enq_base.specs.declared.owner.Owner.TheVariants.{Upd}
use Rattle.mode_rules.specs.Modes.{mode_number}
use Rattle.lock_entry.specs.declared.entry.Entry.{Entry}
use Rattle.backup_file.specs.declared.handed.Handed.{Handed}
use Rattle.backup_file.specs.declared.handed.Record.{Record}
use Rattle.backup_file.specs.declared.handed.Record.TheVariants.{Hand, Free}

abbrev pub unit_bytes : UnitKey → List ℕ
unit_bytes u = to_be_bytes w32 u.start ++ to_be_bytes w32 u.session ++ to_be_bytes w32 u.luw

-- one byte of length, and that many bytes
abbrev pub short : List ℕ → List ℕ
short bytes = length bytes ∷ bytes

abbrev pub entry_bytes : Entry → List ℕ
entry_bytes e = short e.table ++ (mode_number e.mode ∷ to_be_bytes w16 e.count) ++ short e.pattern

-- all entries of a list have one user
abbrev pub user_of : List Entry → List ℕ
user_of [] = []
user_of (e ∷ es) = e.user

abbrev pub hand_bytes : Handed → List ℕ
hand_bytes h = unit_bytes h.unit ++ short (user_of h.entries) ++ to_be_bytes w32
    (length h.entries) ++ flat_map entry_bytes h.entries

abbrev pub kind_byte : Record → ℕ
kind_byte (Hand h) = 1
kind_byte (Free u) = 2

abbrev pub payload : Record → List ℕ
payload (Hand h) = hand_bytes h
payload (Free u) = unit_bytes u

-- a kind, the length of the payload, and the payload
abbrev pub spelling : Record → List ℕ
spelling r = kind_byte r ∷ to_be_bytes w32 (length (payload r)) ++ payload r

-- ---- what has a spelling

pub record IsUnit (u : UnitKey) : Type 0 where
  pub start : u.start < 2 ^ 32
  pub session : u.session < 2 ^ 32
  pub luw : u.luw < 2 ^ 32

-- a handed entry of the unit's update owner, of mode S, E or X
pub record IsLock (unit : UnitKey) (user : List ℕ) (e : Entry) : Type 0 where
  pub owned : e.owner ≡ Upd unit
  pub used : e.user ≡ user
  pub is_handed : e.handed ≡ true
  pub named : IsTrue (is_name e.table)
  pub lasting : 0 < mode_number e.mode
  pub counted : 0 < e.count
  pub countable : e.count ≤ 9999
  pub patterned : IsTrue (is_pattern e.pattern)

pub record IsHand (h : Handed) : Type 0 where
  pub keyed : IsUnit h.unit
  pub used : IsTrue (is_name (user_of h.entries))
  pub some : 0 < length h.entries
  pub few : length h.entries < 2 ^ 32
  pub locks : AllByRecursion (IsLock h.unit (user_of h.entries)) h.entries

abbrev pub HasPayload : Record → Type 0
HasPayload (Hand h) = IsHand h
HasPayload (Free u) = IsUnit u

pub record IsRecord (r : Record) : Type 0 where
  pub held : HasPayload r
  pub fits : length (payload r) < 2 ^ 32
