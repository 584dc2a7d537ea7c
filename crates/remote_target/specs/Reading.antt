-- Which rows are those of a target, and the first that is none.
use Rattle.std.specs.Prelude.{ℕ, ◌≡◌, ◌+◌, Bool, false, not, ◌&&◌, nat_eq, nat_le, List, [], ◌∷◌, ◌++◌, length, take}
use Rattle.std.specs.Prelude.{drop, position, is_some, if◌then◌else◌, Option, Some, None, IfSome}
use Rattle.std.specs.List.{AllByRecursion, list_any, find}
use Rattle.std.specs.HashSet.{HashSet, contains}
use Rattle.std.specs.Str.{bytes_eq}
use Rattle.byteorder.specs.Endian.{big_bytes, big_number}
use Rattle.enq_base.specs.Grammar.{is_key, is_name, is_text}
use Rattle.keeper_api.specs.declared.rows.Row.{Row}
use Rattle.keeper_api.specs.Rows.{Rows}
use Rattle.remote_target.specs.Rows.{IsCount, count_key, outcome_in}
use Rattle.table_reading.specs.Tables.{rows_in}
use Rattle.remote_target.specs.declared.fault.TargetFault.{TargetFault}
use Rattle.remote_target.specs.declared.fault.TargetFault.TheVariants.{StoreFault, BadRow, Full, NoMemory}

-- ---- table 2

abbrev pub is_counting : Row → Bool
is_counting row = bytes_eq row.key count_key

abbrev pub count_in : Option Row → Option ℕ
count_in None = Some 0
count_in (Some row) = if nat_eq (length row.value) 8 then Some (big_number 8 row.value) else None

-- the number of calls that is stored, where its row is not bad
abbrev pub stored_count : List Row → Option ℕ
stored_count counts = count_in (find is_counting counts)

abbrev pub is_number : Option ℕ → ℕ → Bool
is_number None n = false
is_number (Some m) n = nat_eq m n

abbrev pub is_count_row : Option ℕ → ℕ → Row → Bool
is_count_row stored calls row = is_counting row && is_number stored calls

-- ---- table 0

abbrev pub is_call : Row → Bool
is_call row = is_key row.key && (is_some (outcome_in row.value) && is_text (drop 10 row.value))

abbrev pub place_in : Row → ℕ
place_in row = big_number 8 row.value

-- from 1 to the number of calls, where that is told
abbrev pub is_within : Option ℕ → ℕ → Bool
is_within None place = nat_le 1 place
is_within (Some count) place = nat_le 1 place && nat_le place count

abbrev pub has_place : ℕ → List Row → Bool
has_place place rows = list_any (λ row. nat_eq (place_in row) place) rows

-- a call whose place no row before it has
abbrev pub is_call_behind : Option ℕ → List Row → Row → Bool
is_call_behind stored before row = (is_call row && is_within stored (place_in row))
    && not (has_place (place_in row) before)

-- the first row that isn't such a call, counted from 1
abbrev pub first_bad_call : Option ℕ → List Row → List Row → Option ℕ
first_bad_call stored before [] = None
first_bad_call stored before (row ∷ rows) =
    if is_call_behind stored before row then first_bad_call stored (before ++ row ∷ []) rows else Some
    (length before + 1)

-- ---- table 1

-- a byte of length, a name of so many bytes, and a key
abbrev pub is_row_key : List ℕ → Bool
is_row_key [] = false
is_row_key (n ∷ rest) = nat_le n (length rest) && (is_name (take n rest) && is_key (drop n rest))

abbrev pub is_text_row : Row → Bool
is_text_row row = is_row_key row.key && is_text row.value

-- ---- all three

abbrev pub at_place : ℕ → Option ℕ → Option (ℕ × ℕ) → Option (ℕ × ℕ)
at_place table None other = other
at_place table (Some row) other = Some (table, row)

abbrev pub one_on : Option ℕ → Option ℕ
one_on None = None
one_on (Some n) = Some (n + 1)

-- the first bad row of the tables 0, 1 and 2, and its table
abbrev pub bad_place : List Row → List Row → List Row → Option (ℕ × ℕ)
bad_place calls texts counts =
    at_place 0 (first_bad_call (stored_count counts) [] calls)
    (at_place 1 (one_on (position (λ row. not (is_text_row row)) texts))
    (at_place 2 (one_on (position (λ row. not (is_count_row (stored_count counts) (length calls) row)) counts)) None))

-- the first bad row of a target's store
abbrev pub bad_place_in : Rows → Option (ℕ × ℕ)
bad_place_in rows = bad_place (rows_in rows 0) (rows_in rows 1) (rows_in rows 2)

abbrev pub OnBadRow : TargetFault → (ℕ → ℕ → Type 0) → Type 0
OnBadRow StoreFault P = Unit {0}
OnBadRow (BadRow table row) P = P table row
OnBadRow Full P = Unit {0}
OnBadRow NoMemory P = Unit {0}

-- opening never finds a target full
abbrev pub MayOpen : TargetFault → Type 0
MayOpen StoreFault = Unit {0}
MayOpen (BadRow table row) = Unit {0}
MayOpen Full = ⊥
MayOpen NoMemory = Unit {0}

-- a bad row, or want of memory
abbrev pub IsCheckFault : TargetFault → Type 0
IsCheckFault StoreFault = ⊥
IsCheckFault (BadRow table row) = Unit {0}
IsCheckFault Full = ⊥
IsCheckFault NoMemory = Unit {0}

-- the set has just the places of these rows
abbrev pub AreSeen : {S : Type 0} → HashSet ℕ S → List Row → Type 0
AreSeen seen rows = (place : ℕ) → contains nat_eq seen place ≡ has_place place rows

-- ---- numbers that are spelled in bytes

-- the first eight bytes of a call's value are those of its place
abbrev pub IsSpelled : Row → Type 0
IsSpelled row = big_bytes 8 (place_in row) ≡ take 8 row.value

abbrev pub AreAllSpelled : List Row → Type 0
AreAllSpelled rows = AllByRecursion IsSpelled rows

abbrev pub value_if : Option Row → Option (List ℕ)
value_if None = None
value_if (Some row) = Some row.value

-- so are the places of all calls, and the number of calls, where its row isn't bad
pub record AreSpelled (calls counts : List Row) : Type 0 where
  pub places : AreAllSpelled calls
  pub number : IfSome (stored_count counts) (IsCount (value_if (find is_counting counts)))
