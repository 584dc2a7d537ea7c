-- The rule on intervals: each stored interval has the numbers that the marks commit, and each committed number has one.
use Rattle.std.specs.Prelude.{ℕ, ◌+◌, ◌-◌, Bool, true, false, not, ◌&&◌, nat_eq, nat_le, List, [], ◌∷◌, length, Option}
use Rattle.std.specs.Prelude.{Some, None, if◌then◌else◌}
use Rattle.std.specs.Cmp.Lexicographic.{pointwise}
use Rattle.std.specs.List.{flat_map, list_all, list_any, range_with_len}
use Rattle.std.specs.Str.{bytes_eq}
use Rattle.enq_base.specs.Owners.{same_unit}
use Rattle.enq_base.specs.declared.owner.UnitKey.{UnitKey}
use Rattle.enq_base.specs.declared.unit.Num.{Num as Number}
use Rattle.lock_entry.specs.Names.{all_pairs}
use Rattle.module_effects.specs.Rows.{RowName}
use Rattle.update_records.specs.Business.{interval_of, numbers_from}
use Rattle.update_records.specs.declared.records.MarkKind.TheVariants.{Num, Rec}
use Rattle.update_records.specs.declared.stored.Record.{Record}
use Rattle.update_records.specs.declared.stored.Record.TheVariants as rec
use Rattle.store_reading.specs.First.{first_wrong, ◌else_at◌}
use Rattle.store_reading.specs.declared.rules.Place.{Place}

-- ---- the committed numbers

-- the numbers that the header of this unit tells; another record changes nothing
abbrev pub numbers_told : UnitKey → List Number → Record → List Number
numbers_told key before (rec.Header unit user v1 v2 locks numbers) = if same_unit unit key then numbers else before
numbers_told key before r = before

abbrev pub numbers_after : UnitKey → List Number → List Record → List Number
numbers_after key before [] = before
numbers_after key before (r ∷ records) = numbers_after key (numbers_told key before r) records

-- the numbers of a unit: none where it has no header
abbrev pub numbers_at : List Record → UnitKey → List Number
numbers_at headers key = numbers_after key [] headers

-- a unit's numbers are committed when it is recorded
abbrev pub numbers_by : List Record → Record → List Number
numbers_by headers (rec.Mark m) = elim m.kind [
  | Num numbers ↦ numbers
  | Rec ↦ numbers_at headers m.unit
  | _ ↦ []
]
numbers_by headers r = []

-- all that the marks commit, in order
abbrev pub committed : List Record → List Record → List Number
committed headers marks = flat_map (numbers_by headers) marks

-- ---- the rule

-- no number stands twice
abbrev pub are_apart : List ℕ → Bool
are_apart numbers = all_pairs (λ a b. not (nat_eq a b)) numbers

-- the numbers of an interval: without a buffer all from the first to the level, in order; with one no number twice, and
-- each from the first to the level
abbrev pub are_drawn : Bool → ℕ → ℕ → List ℕ → Bool
are_drawn false from level numbers = pointwise nat_eq numbers (range_with_len from (level + 1 - from))
are_drawn true from level numbers =
    are_apart numbers && list_all (λ n. nat_le from n && nat_le n level) numbers

-- its end isn't below its beginning, which is at least 1, and its level lies from one below the beginning to the end
abbrev pub are_bounds : ℕ → ℕ → ℕ → Bool
are_bounds from to level = nat_le 1 from && (nat_le from to && (nat_le from (level + 1) && nat_le level to))

abbrev pub is_right_level : List Number → Record → Bool
is_right_level numbers (rec.Level object nr from to level buffered) =
    are_bounds from to level && are_drawn buffered from level (numbers_from (object, nr) numbers)
is_right_level numbers r = false

-- the row of this interval
abbrev pub is_level : RowName → Record → Bool
is_level name (rec.Level object nr from to level buffered) = bytes_eq object name.0 && bytes_eq nr name.1
is_level name r = false

abbrev pub has_level : List Record → RowName → Bool
has_level levels name = list_any (is_level name) levels

-- where a number's interval has no row, that row is missing behind the last
abbrev pub missing_level : List Record → List Number → Option Place
missing_level levels numbers =
    if list_all (λ num. has_level levels (interval_of num)) numbers then None else Some
    (record { table = 5; row = length levels + 1 })

-- the first wrong row of table 5, else the first that is missing
abbrev pub level_fault : (headers marks levels : List Record) → Option Place
level_fault headers marks levels =
    first_wrong (λ before. is_right_level (committed headers marks)) 5 [] levels else_at missing_level levels
    (committed headers marks)
