-- The halves of requests, with what a walk over the entries shows of them.
use Rattle.std.specs.Prelude.{◌≡◌, ℕ, ◌+◌, min, not, List, map, Option, Some, None, is_some, slice_index_or, slice_set}
use Rattle.std.specs.List.{filter, position}
use Rattle.lock_entry.specs.declared.entry.Entry.{Entry}
use Rattle.lock_entry.specs.declared.entry.LockName.{LockName}
use Rattle.lock_entry.specs.declared.fault.AskFault.{AskFault}
use Rattle.lock_entry.specs.declared.fault.AskFault.TheVariants as fault
use Rattle.lock_entry.specs.Names.{has_name, count_at, times, each_once}
use Rattle.lock_entry.specs.Granting.{new_entry}
use Rattle.lock_table.specs.declared.halves.Half.{Half}

-- the name, where its entry stands, and its count
abbrev pub half_at : List Entry → LockName → Half
half_at entries n = record { name = n; place = position (has_name n) entries; count = count_at entries n }

abbrev pub names_of : List Half → List LockName
names_of halves = map (λ h. h.name) halves

-- the names whose entries don't stand, each once
abbrev pub fresh_names : List Half → List LockName
fresh_names halves = each_once (names_of (filter (λ h. not (is_some h.place)) halves))

-- the new entry, its count cut off at 9,999
abbrev pub capped_entry : List ℕ → List LockName → LockName → Entry
capped_entry user names n = record (new_entry user names n) { count = min 9999 (times names n) }

-- the list with one more at the place, if there is a place
abbrev pub raised_at : List Entry → Option ℕ → Entry → List Entry
raised_at entries None d = entries
raised_at entries (Some i) d =
    slice_set entries i (record (slice_index_or entries i d) { count = (slice_index_or entries i d).count + 1 })

-- the entry that bars, or want of memory
abbrev pub IsBar : Option Entry → AskFault → Type 0
IsBar bar fault.NoMemory = Unit {0}
IsBar bar (fault.Foreign e) = bar ≡ Some e
IsBar bar _ = ⊥
