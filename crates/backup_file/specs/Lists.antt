-- The lists that units handed over, and what the records of a file do to them.
use Rattle.std.specs.Prelude.{◌≡◌, ◌<◌, Bool, not, cond, List, [], ◌∷◌, ◌++◌, filter, length, IsTrue}
use Rattle.std.specs.List.{All, fold, list_any}
use Rattle.enq_base.specs.Owners.{same_unit}
use Rattle.enq_base.specs.declared.owner.UnitKey.{UnitKey}
use Rattle.lock_entry.specs.Names.{has_distinct_names}
use Rattle.enq_base.specs.Ids.{id_of, same_id}
use Rattle.backup_file.specs.declared.handed.Handed.{Handed}
use Rattle.backup_file.specs.declared.handed.Record.{Record}
use Rattle.backup_file.specs.declared.handed.Record.TheVariants.{Hand, Free}
use Rattle.enq_base.specs.declared.unit_id.UnitId.{UnitId}

-- whether the unit's list stands
abbrev pub has_unit : UnitKey → List Handed → Bool
has_unit u l = list_any (λ h. same_unit h.unit u) l

-- whether the unit is among these
abbrev pub is_known : UnitKey → List UnitId → Bool
is_known u ids = list_any (same_id (id_of u)) ids

-- these are the units whose lists stand, in whichever order
abbrev pub AreUnits : List UnitId → List Handed → Type 0
AreUnits ids l = (u : UnitKey) → is_known u ids ≡ has_unit u l

-- each of these lists has an entry
abbrev pub HaveEntries : List Handed → Type 0
HaveEntries l = All (λ (h : Handed). 0 < length h.entries) l

-- the lists but the unit's
abbrev pub without : UnitKey → List Handed → List Handed
without u l = filter (λ h. not (same_unit h.unit u)) l

-- The lists after a record: a hand's is the last, and takes the place of an earlier one of its unit.
abbrev pub after : List Handed → Record → List Handed
after l (Hand h) = without h.unit l ++ h ∷ []
after l (Free u) = without u l

-- the entries of a hand have distinct names, and a free is of a unit whose list stands
abbrev pub IsLegal : List Handed → Record → Type 0
IsLegal l (Hand h) = IsTrue (has_distinct_names h.entries)
IsLegal l (Free u) = IsTrue (has_unit u l)

abbrev pub unit_of : Record → UnitKey
unit_of (Hand h) = h.unit
unit_of (Free u) = u

-- whether one of the records is of the unit
abbrev pub is_touched : UnitKey → List Record → Bool
is_touched u rs = list_any (λ r. same_unit (unit_of r) u) rs

-- these are the units of the records
abbrev pub AreTouched : List UnitId → List Record → Type 0
AreTouched ids rs = (u : UnitKey) → is_known u ids ≡ is_touched u rs

-- the hands behind which no record of their unit comes
abbrev pub hands : List Record → List Handed
hands [] = []
hands (Hand h ∷ rs) = cond (is_touched h.unit rs) (hands rs) (h ∷ hands rs)
hands (Free u ∷ rs) = hands rs

-- the lists that stand behind these records
abbrev pub lists_behind : List Record → List Handed
lists_behind records = fold after [] records
