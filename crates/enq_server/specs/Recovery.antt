-- What a server recovers from the lists of its backup file.
use Rattle.std.specs.Prelude.{ℕ, ◌≡◌, ◌+◌, Bool, not, ◌||◌, ◌&&◌, ◌∷◌, ◌++◌, [], List, Option, Some, None}
use Rattle.std.specs.Prelude.{if◌then◌else◌, length, nat_lt, take}
use Rattle.std.specs.HashMap.{HashMap, get}
use Rattle.std.specs.List.{All, filter, flat_map, list_any, slice_get}
use Rattle.std.specs.Option.{option_map_or}
use Rattle.enq_base.specs.Owners.{same_unit}
use Rattle.enq_base.specs.declared.owner.UnitKey.{UnitKey}
use Rattle.lock_entry.specs.declared.entry.Entry.{Entry}
use Rattle.lock_entry.specs.declared.entry.UnitLocks.{UnitLocks}
use Rattle.backup_file.specs.File.{IsBad, Stands}
use Rattle.enq_base.specs.Ids.{id_of, same_id}
use Rattle.backup_file.specs.Lists.{is_known}
use Rattle.backup_file.specs.declared.handed.Handed.{Handed}
use Rattle.enq_base.specs.declared.unit_id.UnitId.{UnitId}

-- the unit is one of these
abbrev pub is_one_of : List UnitLocks → UnitKey → Bool
is_one_of units key = list_any (λ (u : UnitLocks). same_unit u.unit key) units

-- the entries of the unit's list, none where no list of it stands
abbrev pub entries_of : List Handed → UnitKey → List Entry
entries_of [] unit = []
entries_of (h ∷ l) unit = if same_unit h.unit unit then h.entries else entries_of l unit

-- the entries of the list at this place, none without a place
abbrev pub entries_at : List Handed → Option ℕ → List Entry
entries_at l None = []
entries_at l (Some place) = option_map_or (λ (h : Handed). h.entries) (slice_get l place) []

-- the map has the place of each list that stands among the last ones
abbrev pub ArePlaces : {S : Type 0} → HashMap UnitId ℕ S → (all last : List Handed) → Type 0
ArePlaces places all last = (u : UnitKey) → entries_at all (get same_id places (id_of u)) ≡ entries_of last u

-- these are the units
abbrev pub AreKnown : List UnitId → List UnitLocks → Type 0
AreKnown ids units = (u : UnitKey) → is_known u ids ≡ is_one_of units u

-- the units that have entries
abbrev pub locking : List UnitLocks → List UnitLocks
locking units = filter (λ (u : UnitLocks). nat_lt 0 (length u.entries)) units

-- the same units as before, with this one, where it has entries
abbrev pub AreWith : UnitKey → List Entry → (before now : List UnitId) → Type 0
AreWith unit entries before now =
    (other : UnitKey)
    → is_known other now ≡ ((nat_lt 0 (length entries) && same_unit unit other) || is_known other before)

-- the same units as before, without this one
abbrev pub AreWithout : UnitKey → (before now : List UnitId) → Type 0
AreWithout unit before now =
    (other : UnitKey) → is_known other now ≡ (is_known other before && not (same_unit unit other))

-- the unit's list has just its entries
abbrev pub Agrees : List Handed → UnitLocks → Type 0
Agrees l u = u.entries ≡ entries_of l u.unit

-- the entries of these units, one unit behind the other
abbrev pub joined : List UnitLocks → List Entry
joined units = flat_map (λ (u : UnitLocks). u.entries) units

-- the lists of these units alone
abbrev pub lists_among : List UnitLocks → List Handed → List Handed
lists_among units l = filter (λ (h : Handed). is_one_of units h.unit) l

-- two lists of entries differ first at this place, counted from 1
pub record IsFirstDifference (xs ys : List Entry) (at : ℕ) : Type 0 where
  pub before : ℕ
  pub place : at ≡ before + 1
  pub same : take before xs ≡ take before ys
  pub differ : slice_get xs before ≡ slice_get ys before → ⊥

-- the first of the units whose list differs from its entries, and the first place where it does
pub record IsMissing (l : List Handed) (units : List UnitLocks) (unit : UnitKey) (at : ℕ) : Type 0 where
  pub front : List UnitLocks
  pub found : UnitLocks
  pub rest : List UnitLocks
  pub whole : units ≡ front ++ found ∷ rest
  pub agree : All (Agrees l) front
  pub named : found.unit ≡ unit
  pub difference : IsFirstDifference found.entries (entries_of l unit) at

-- the unit is among these
abbrev pub is_among : UnitKey → List UnitKey → Bool
is_among u us = list_any (λ (v : UnitKey). same_unit v u) us

-- a list stays where its unit is one of these, or not among those whose lists are gone
abbrev pub stays : List UnitLocks → List UnitKey → Handed → Bool
stays units gone h = is_one_of units h.unit || not (is_among h.unit gone)

-- the lists but those of other units that are gone
abbrev pub left : List UnitLocks → List UnitKey → List Handed → List Handed
left units gone l = filter (stays units gone) l

-- the bytes stand for these lists, less none, some or all of those of other units
pub record StandsLess (units : List UnitLocks) (l : List Handed) (bytes : List ℕ) : Type 0 where
  pub gone : List UnitKey
  pub stands : Stands bytes (left units gone l)

-- what old stands for new stands for, less none, some or all lists of other units, and bytes that stand for nothing
-- stay
pub record FreesOthers (units : List UnitLocks) (old new : List ℕ) : Type 0 where
  pub lists : (l : List Handed) → Stands old l → StandsLess units l new
  pub bytes : (at : ℕ) → IsBad old at → new ≡ old
