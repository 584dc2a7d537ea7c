-- What stands once locks are freed, or handed over to the update.
use Rattle.std.specs.Prelude.{◌-◌, Bool, true, not, ◌&&◌, cond, nat_le, List, [], ◌∷◌, ◌++◌, map}
use Rattle.std.specs.List.{filter, list_any}
use Rattle.enq_base.specs.declared.owner.Owner.{Owner}
use Rattle.enq_base.specs.declared.owner.Owner.TheVariants.{Upd}
use Rattle.enq_base.specs.declared.owner.UnitKey.{UnitKey}
use Rattle.mode_rules.specs.declared.Mode.TheVariants.{O}
use Rattle.mode_rules.specs.Modes.{same_mode}
use Rattle.lock_entry.specs.declared.entry.Entry.{Entry}
use Rattle.lock_entry.specs.declared.entry.LockName.{LockName}
use Rattle.lock_entry.specs.Names.{has_name, is_of}

-- the entry with one taken from its count, or nothing where that was the last
abbrev pub lowered : Entry → List Entry
lowered e = cond (nat_le e.count 1) [] (record e { count = e.count - 1 } ∷ [])

-- the first element that passes the test makes place for those that it turns into
abbrev pub replace_first : {X : Type 0} → (X → Bool) → (X → List X) → List X → List X
replace_first test turn [] = []
replace_first test turn (x ∷ xs) = cond (test x) (turn x ++ xs) (x ∷ replace_first test turn xs)

-- the entry of this name loses one, and goes at 0
abbrev pub freed : List Entry → LockName → List Entry
freed entries n = replace_first (has_name n) lowered entries

-- the entries without the one of this name
abbrev pub without : List Entry → LockName → List Entry
without entries n = filter (λ e. not (has_name n e)) entries

-- all entries of the owner go
abbrev pub freed_owner : List Entry → Owner → List Entry
freed_owner entries owner = filter (λ e. not (is_of owner e)) entries

-- its O entries go
abbrev pub without_optimistic : List Entry → Owner → List Entry
without_optimistic entries owner = filter (λ e. not (is_of owner e && same_mode e.mode O)) entries

-- the entry, handed where it is the owner's
abbrev pub flagged : Owner → Entry → Entry
flagged owner e = cond (is_of owner e) (record e { handed = true }) e

-- the unit's S, E and X entries become handed, and its O entries go
abbrev pub handed_over : List Entry → UnitKey → List Entry
handed_over entries unit = map (flagged (Upd unit)) (without_optimistic entries (Upd unit))

-- an entry of the owner wasn't handed over
abbrev pub has_unhanded : Owner → List Entry → Bool
has_unhanded owner entries = list_any (λ e. is_of owner e && not e.handed) entries
