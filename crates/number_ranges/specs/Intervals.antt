-- Intervals, their blocks and the codes of their numbers.
use Rattle.std.specs.Prelude.{◌≡◌, ℕ, ◌+◌, ◌-◌, ◌*◌, ◌≤◌, ◌<◌, Bool, ◌&&◌, List, min, nat_eq, nat_le, nat_lt}
use Rattle.std.specs.Prelude.{if◌then◌else◌}
use Rattle.std.specs.Int.{div_ceil}
use Rattle.std.specs.Str.{bytes_eq}
use Rattle.number_ranges.specs.declared.interval.Interval.{Interval}
use Rattle.number_ranges.specs.declared.interval.Code.{Code}
use Rattle.number_ranges.specs.declared.interval.Code.TheVariants.{Blank, Critical, Last}

-- what is true of every interval: its numbers have at most 18 digits, and its level is one below the first or among
-- them
pub record IsInterval (i : Interval) : Type 0 where
  pub low : 1 ≤ i.from
  pub order : i.from ≤ i.to
  pub high : i.to ≤ 999999999999999999
  pub begun : i.from ≤ i.level + 1
  pub within : i.level ≤ i.to
  pub percentage : i.percent ≤ 99

-- the level with so many whole blocks above the present one, at most the end
abbrev pub level_with : Interval → ℕ → ℕ
level_with i blocks = min i.to (i.level + i.buffer * blocks)

-- the level that a number asks for: the present one, or with the fewest blocks that reach the number
abbrev pub block_level : Interval → ℕ → ℕ
block_level i upto = if nat_le upto i.level then i.level else level_with i (div_ceil (upto - i.level) i.buffer)

-- the level is whole blocks above the present one, at most the end, and fewer blocks don't reach the number
pub record IsBlockLevel (i : Interval) (upto level : ℕ) : Type 0 where
  pub blocks : ℕ
  pub whole : level ≡ level_with i blocks
  pub reached : upto ≤ level
  pub least : (fewer : ℕ) → fewer < blocks → i.level + i.buffer * fewer < upto

-- the last number, one of which at most the percentage of the interval is left, or neither
abbrev pub code_of : Interval → ℕ → Code
code_of i n = if nat_eq n i.to then Last else if nat_le ((i.to - n) * 100)
    (i.percent * (i.to - i.from + 1)) then Critical else Blank

abbrev pub with_level : ℕ → Interval → Interval
with_level level i = record i { level = level }

-- the interval of this object and these two digits
abbrev pub is_named : List ℕ → List ℕ → Interval → Bool
is_named object nr i = bytes_eq i.object object && bytes_eq i.nr nr

-- numbers of a buffered interval are handed out from memory, block by block
abbrev pub is_buffered : Interval → Bool
is_buffered i = nat_lt 0 i.buffer
