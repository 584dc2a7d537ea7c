-- What a table answers to requests, and to entries that are to be granted again.
use Rattle.std.specs.Prelude.{ℕ, ◌+◌, Bool, not, ◌&&◌, cond, nat_lt, List, [], ◌∷◌, ◌++◌, length, map, Option, Some}
use Rattle.std.specs.Prelude.{None, Result, Ok, Err, false}
use Rattle.std.specs.List.{list_any, filter, find}
use Rattle.std.specs.Option.{option_or}
use Rattle.lock_entry.specs.declared.entry.Asked.{Asked}
use Rattle.lock_entry.specs.declared.entry.Asker.{Asker}
use Rattle.lock_entry.specs.declared.entry.Entry.{Entry}
use Rattle.lock_entry.specs.declared.entry.LockName.{LockName}
use Rattle.lock_entry.specs.declared.entry.Request.{Request}
use Rattle.lock_entry.specs.declared.fault.AskFault.{AskFault}
use Rattle.lock_entry.specs.declared.fault.AskFault.TheVariants.{Foreign, Full, Count}
use Rattle.lock_entry.specs.Names.{asked_of, name_of, stands, halves, times, each_once, count_at}
use Rattle.lock_entry.specs.Barring.{bars}
use Rattle.lock_entry.specs.Freeing.{freed_owner}
use Rattle.lock_entry.specs.Table.{Table}

-- the oldest entry that bars the first barred of what is asked for
abbrev pub first_bar : List Entry → Asker → List Asked → Option Entry
first_bar entries asker [] = None
first_bar entries asker (a ∷ rest) = option_or (find (bars asker a) entries) (first_bar entries asker rest)

-- the names that no entry has, each once, in order of first naming
abbrev pub new_names : List Entry → List LockName → List LockName
new_names entries names = each_once (filter (λ n. not (stands entries n)) names)

-- some are added, and more than the limit would stand
abbrev pub is_full : Table → (added : ℕ) → Bool
is_full t added = nat_lt 0 added && nat_lt t.limit (length t.entries + added)

-- the count of some named entry would exceed 9,999
abbrev pub is_over : List Entry → List LockName → Bool
is_over entries names = list_any (λ n. nat_lt 9999 (count_at entries n + times names n)) names

-- the entry, risen by the halves that name it
abbrev pub raised : List LockName → Entry → Entry
raised names e = record e { count = e.count + times names (name_of e) }

-- a new entry, whose count is the number of the halves that name it
abbrev pub new_entry : List ℕ → List LockName → LockName → Entry
new_entry user names n =
    record {
      owner = n.owner;
      user = user;
      table = n.asked.table;
      pattern = n.asked.pattern;
      mode =
          n.asked.mode;
      count = times names n;
      handed = false;
    }

-- each named entry rises, and the other names become entries at the end
abbrev pub granted : List Entry → List ℕ → List LockName → List Entry
granted entries user names = map (raised names) entries ++ map (new_entry user names) (new_names entries names)

abbrev pub unless_barred : {X : Type 0} → Option Entry → Result X AskFault → Result X AskFault
unless_barred None r = r
unless_barred (Some e) r = Err (Foreign e)

abbrev pub unless_full : {X : Type 0} → Table → ℕ → Result X AskFault → Result X AskFault
unless_full t added r = cond (is_full t added) (Err (Full (length t.entries) t.limit)) r

-- The grant rule: the entries after the call, or its refusal.
unfoldable pub asked : Table → Asker → List ℕ → List Request → Result (List Entry) AskFault
asked t asker user requests =
    let names = halves asker requests in
    unless_barred (first_bar t.entries asker (map (λ r. r.asked) requests))
    (unless_full t (length (new_names t.entries names))
    (cond (is_over t.entries names) (Err Count) (Ok (granted t.entries user names))))

-- the given entries whose names no entry has
abbrev pub newcomers : List Entry → List Entry → List Entry
newcomers entries given = filter (λ e. not (stands entries (name_of e))) given

-- Readmission: the given entries as they are, in place of those of the update owner, or the refusal.
unfoldable pub readmitted : Table → Asker → List Entry → Result (List Entry) AskFault
readmitted t asker given =
    unless_barred (first_bar t.entries asker (map asked_of given))
    (unless_full t (length (newcomers t.entries given))
    (Ok (freed_owner t.entries asker.update ++ given)))
