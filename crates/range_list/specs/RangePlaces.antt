-- Where the interval of each name stands in a list, as a map has it.
use Rattle.std.specs.Prelude.{◌≡◌, ℕ, Bool, ◌&&◌, List}
use Rattle.std.specs.HashMap.{HashMap, get}
use Rattle.std.specs.List.{position_from}
use Rattle.std.specs.Str.{bytes_eq}
use Rattle.number_ranges.specs.Intervals.{is_named}
use Rattle.number_ranges.specs.declared.interval.Interval.{Interval}
use Rattle.range_list.specs.declared.range_id.RangeId.{RangeId}

abbrev pub range_id : List ℕ → List ℕ → RangeId
range_id object nr = record { object = object; nr = nr }

abbrev pub same_range : RangeId → RangeId → Bool
same_range a b = bytes_eq a.object b.object && bytes_eq a.nr b.nr

-- the map has the place of the first interval of each name; these intervals stand from this place on
abbrev pub ArePlacesFrom : {S : Type 0} → ℕ → HashMap RangeId ℕ S → List Interval → Type 0
ArePlacesFrom first places intervals =
    (object nr : List ℕ) → get same_range places (range_id object nr) ≡ position_from
    (is_named object nr) first intervals

abbrev pub ArePlaces : {S : Type 0} → HashMap RangeId ℕ S → List Interval → Type 0
ArePlaces places intervals = ArePlacesFrom 0 places intervals
