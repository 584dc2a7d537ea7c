-- Rules of a good store, over the records of its tables, and the first place where a store breaks each.
use Rattle.std.specs.Prelude.{ℕ, ◌+◌, Bool, false, not, ◌&&◌, nat_eq, nat_le, List, [], ◌∷◌, length, Option, Some, None}
use Rattle.std.specs.Prelude.{if◌then◌else◌}
use Rattle.std.specs.List.{flat_map, list_any}
use Rattle.enq_base.specs.Owners.{same_unit}
use Rattle.enq_base.specs.declared.owner.UnitKey.{UnitKey}
use Rattle.enq_base.specs.declared.unit.Status.{Status}
use Rattle.update_records.specs.Marks.{may_follow, status_after}
use Rattle.update_records.specs.declared.records.Mark.{Mark}
use Rattle.update_records.specs.declared.stored.Record.{Record}
use Rattle.update_records.specs.declared.stored.Record.TheVariants as rec
use Rattle.store_reading.specs.First.{first_wrong}
use Rattle.store_reading.specs.declared.rules.Place.{Place}

-- ---- the meta row

-- a start number of at least 1, and this many marks, at most 1,048,576
abbrev pub is_meta : ℕ → Record → Bool
is_meta marks (rec.Meta start n) = nat_le 1 start && (nat_eq n marks && nat_le n 1048576)
is_meta marks r = false

-- table 0 has one row, which tells how many marks there are
abbrev pub has_meta : List Record → ℕ → Bool
has_meta [] marks = false
has_meta (r ∷ []) marks = is_meta marks r
has_meta (r ∷ s ∷ records) marks = false

-- the place is always the first row of table 0
abbrev pub meta_fault : List Record → ℕ → Option Place
meta_fault meta marks = if has_meta meta marks then None else Some (record { table = 0; row = 1 })

-- ---- the numbers of the marks

abbrev pub has_number : ℕ → Record → Bool
has_number n (rec.Mark m) = nat_eq m.seq n
has_number n r = false

-- the number of a mark is its place
abbrev pub number_fault : List Record → Option Place
number_fault marks = first_wrong (λ before. has_number (length before + 1)) 4 [] marks

-- ---- what the marks say of their units

abbrev pub mark_in : Record → List Mark
mark_in (rec.Mark m) = m ∷ []
mark_in r = []

abbrev pub marks_in : List Record → List Mark
marks_in records = flat_map mark_in records

-- the header of this unit, with effects in its V2 part
abbrev pub tells_second : UnitKey → Record → Bool
tells_second key (rec.Header unit user v1 v2 locks numbers) = same_unit unit key && nat_le 1 v2
tells_second key r = false

-- the headers of table 1 tell that this unit has a V2 part
abbrev pub has_second : List Record → UnitKey → Bool
has_second headers key = list_any (tells_second key) headers

-- the status that marks give a unit
abbrev pub status_in : List Record → List Mark → UnitKey → Option Status
status_in headers marks key = status_after (not (has_second headers key)) key None marks

-- a unit of this start or an earlier one, which has the status that its mark needs
abbrev pub may_mark : ℕ → Option Status → Mark → Bool
may_mark start status m = nat_le 1 m.unit.start && (nat_le m.unit.start start && may_follow status m.kind)

abbrev pub is_right_mark : ℕ → List Record → List Record → Record → Bool
is_right_mark start headers before (rec.Mark m) = may_mark start (status_in headers (marks_in before) m.unit) m
is_right_mark start headers before r = false

-- each mark follows the status that its unit has by the marks before it
abbrev pub mark_fault : ℕ → List Record → List Record → Option Place
mark_fault start headers marks = first_wrong (is_right_mark start headers) 4 [] marks
