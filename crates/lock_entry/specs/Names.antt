-- What names an entry of a lock table, and which entries requests name.
use Rattle.std.specs.Prelude.{ℕ, Bool, true, not, ◌&&◌, cond, List, [], ◌∷◌, ◌++◌, count_by}
use Rattle.std.specs.List.{list_any, list_all, flat_map, filter, find}
use Rattle.std.specs.Option.{option_map_or}
use Rattle.std.specs.Str.{bytes_eq}
use Rattle.enq_base.specs.Owners.{same_owner}
use Rattle.enq_base.specs.declared.owner.Owner.{Owner}
use Rattle.mode_rules.specs.Modes.{same_mode}
use Rattle.lock_entry.specs.declared.entry.Asked.{Asked}
use Rattle.lock_entry.specs.declared.entry.Asker.{Asker}
use Rattle.lock_entry.specs.declared.entry.Entry.{Entry}
use Rattle.lock_entry.specs.declared.entry.LockName.{LockName}
use Rattle.lock_entry.specs.declared.entry.Request.{Request}

-- one table and one argument
abbrev pub same_place : Asked → Asked → Bool
same_place a b = bytes_eq a.table b.table && bytes_eq a.pattern b.pattern

-- one table, one argument and one mode
abbrev pub same_asked : Asked → Asked → Bool
same_asked a b = same_place a b && same_mode a.mode b.mode

abbrev pub same_name : LockName → LockName → Bool
same_name a b = same_owner a.owner b.owner && same_asked a.asked b.asked

-- what the entry was asked for
abbrev pub asked_of : Entry → Asked
asked_of e = record { table = e.table; pattern = e.pattern; mode = e.mode }

-- an entry is named by its owner, table, argument and mode
abbrev pub name_of : Entry → LockName
name_of e = record { owner = e.owner; asked = asked_of e }

abbrev pub named : Owner → Asked → LockName
named owner asked = record { owner = owner; asked = asked }

abbrev pub has_name : LockName → Entry → Bool
has_name n e = same_name n (name_of e)

abbrev pub is_of : Owner → Entry → Bool
is_of owner e = same_owner e.owner owner

-- whether an entry of this name stands
abbrev pub stands : List Entry → LockName → Bool
stands entries n = list_any (has_name n) entries

-- the count of the entry of this name, or 0
abbrev pub count_at : List Entry → LockName → ℕ
count_at entries n = option_map_or (λ e. e.count) (find (has_name n) entries) 0

-- each element passes the test with each later one
abbrev pub all_pairs : {X : Type 0} → (X → X → Bool) → List X → Bool
all_pairs test [] = true
all_pairs test (x ∷ xs) = list_all (test x) xs && all_pairs test xs

abbrev pub names_differ : Entry → Entry → Bool
names_differ a b = not (same_name (name_of a) (name_of b))

-- no two entries have one name
abbrev pub has_distinct_names : List Entry → Bool
has_distinct_names entries = all_pairs names_differ entries

-- each half of a request names one entry: the dialogue owner's first, then the update owner's
abbrev pub halves_of : Asker → Request → List LockName
halves_of asker r = cond r.dialogue (named asker.dialogue r.asked ∷ []) [] ++ cond r.update
    (named asker.update r.asked ∷ []) []

-- the names that the halves of the requests name, in order
abbrev pub halves : Asker → List Request → List LockName
halves asker requests = flat_map (halves_of asker) requests

-- how many of the names are this one
abbrev pub times : List LockName → LockName → ℕ
times names n = count_by (same_name n) names

-- the names, each once, in order of first naming
abbrev pub each_once : List LockName → List LockName
each_once [] = []
each_once (n ∷ ns) = n ∷ filter (λ m. not (same_name n m)) (each_once ns)
