-- The ranges of a landscape: rules 10 to 14.
use Rattle.std.specs.Prelude.{ℕ, ◌-◌, Bool, false, ◌&&◌, nat_le, ℤ, List, [], ◌∷◌, codes, if◌then◌else◌, Option, Some}
use Rattle.std.specs.Prelude.{None, Result, Ok, Err}
use Rattle.std.specs.List.{list_any}
use Rattle.toml.specs.Data.{Data}
use Rattle.enq_base.specs.Grammar.{is_name, is_digit}
use Rattle.enq_base.specs.Number.{◌>>=◌}
use Rattle.number_ranges.specs.Intervals.{is_named}
use Rattle.number_ranges.specs.declared.interval.Interval.{Interval}
use Rattle.landscape.specs.Broken.{Broken, in_turn, or_rule, then_read}
use Rattle.landscape.specs.Tables.{table_with, text_at, integer_at, natural_of, number_within}

-- ---- rule 10: exactly the six keys, each of its kind

pub record RangeShape : Type 0 where
  pub object : List ℕ
  pub nr : List ℕ
  pub from : ℤ
  pub to : ℤ
  pub buffer : ℤ
  pub percent : ℤ

unfoldable pub shape_of : Data → Option RangeShape
shape_of d = do
  ms ← table_with 6 d
  object ← text_at (codes "object") ms
  nr ← text_at (codes "nr") ms
  from ← integer_at (codes "from") ms
  to ← integer_at (codes "to") ms
  buffer ← integer_at (codes "buffer") ms
  percent ← integer_at (codes "percent") ms
  Some (record { object = object; nr = nr; from = from; to = to; buffer = buffer; percent = percent })

-- ---- rule 11: a name and two digits

abbrev pub is_nr : List ℕ → Bool
is_nr (a ∷ b ∷ []) = is_digit a && is_digit b
is_nr _ = false

abbrev pub name_and_nr : RangeShape → Option (List ℕ × List ℕ)
name_and_nr s = if is_name s.object && is_nr s.nr then Some (s.object, s.nr) else None

-- ---- rule 12: both ends, from 1 to the largest number of 18 digits, in their order

unfoldable pub bounds_of : RangeShape → Option (ℕ × ℕ)
bounds_of s = do
  from ← natural_of s.from
  to ← natural_of s.to
  if (nat_le 1 from && nat_le from to) && nat_le to 999999999999999999 then Some (from, to) else None

-- ---- rule 13: a block of at most 1,000,000, and at most 99 percent

unfoldable pub amounts_of : RangeShape → Option (ℕ × ℕ)
amounts_of s = do
  buffer ← number_within 0 1000000 s.buffer
  percent ← number_within 0 99 s.percent
  Some (buffer, percent)

-- ---- rule 14: no earlier range of this object and number

-- the interval behind the earlier ones, whose level is below its first number; else the first rule that it breaks
unfoldable pub range_of : List Interval → Data → Result Interval ℕ
range_of earlier d =
    then_read (or_rule 10 (shape_of d)) (λ s.
    then_read (or_rule 11 (name_and_nr s)) (λ name.
    then_read (or_rule 12 (bounds_of s)) (λ bounds.
    then_read (or_rule 13 (amounts_of s)) (λ amounts.
    if list_any (is_named name.0 name.1) earlier then Err 14
    else Ok (record {
      object = name.0;
      nr = name.1;
      from = bounds.0;
      to = bounds.1;
      level = bounds.0 - 1;
      buffer = amounts.0;
      percent = amounts.1;
    })))))

-- the ranges of a document, in its order
abbrev pub ranges_of : List Data → Result (List Interval) Broken
ranges_of ds = in_turn range_of [] ds
