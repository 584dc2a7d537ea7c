-- The monitors.
use Rattle.std.specs.Prelude.{ℕ, Bool, true, false, List, ◌++◌, length, count_by, flat_map, codes, decimal}
use Rattle.enq_base.specs.Text.{◌␣◌}
use Rattle.enq_base.specs.declared.condition.Condition.{Condition}
use Rattle.enq_base.specs.declared.condition.Condition.TheVariants as condition
use Rattle.enq_base.specs.declared.unit.Status.{Status}
use Rattle.enq_base.specs.declared.unit.Status.TheVariants as status
use Rattle.lock_entry.specs.declared.entry.Entry.{Entry}
use Rattle.monitors.specs.Shown.{counts_text, doubt_line, end_line, entry_text, range_text, replica_text, shown_line}
use Rattle.monitors.specs.Shown.{unit_line_text}
use Rattle.monitors.specs.declared.views.Counts.{Counts}
use Rattle.monitors.specs.declared.views.ServerView.{ServerView}
use Rattle.number_ranges.specs.Draws.{RangeState}
use Rattle.update_records.specs.declared.view.UnitView.{UnitView}

abbrev pub entry_lines : ℕ → List Entry → List ℕ
entry_lines n es = flat_map (λ (e : Entry). shown_line n (entry_text e)) es

abbrev pub unit_lines : ℕ → List UnitView → List ℕ
unit_lines n us = flat_map (λ (u : UnitView). shown_line n (unit_line_text u)) us

abbrev pub range_lines : ℕ → List RangeState → List ℕ
range_lines n rs = flat_map (λ (r : RangeState). shown_line n (range_text r.interval r.holder)) rs

-- the first line of SM12, where the server is up
abbrev pub up_text : ServerView → ℕ → List ℕ
up_text v used =
    codes "SERVER UP REPLICA" ␣ replica_text v.attached ␣ codes "LOCKS" ␣ decimal used ␣ codes "OF" ␣ decimal v.limit

-- SM12: the lock table, whose entries are shown where the server is up
abbrev pub sm12_text : ℕ → ServerView → List Entry → List ℕ
sm12_text n v es =
    elim v.condition [
      | condition.Up ↦
          shown_line n (up_text v (length es)) ++ entry_lines n es ++ end_line n
      | condition.NoServer ↦ shown_line n (codes "SERVER NONE REPLICA" ␣ replica_text v.attached) ++ end_line n
      | condition.Doubt k ↦ doubt_line n k ++ end_line n
    ]

-- the text where the server isn't in doubt
abbrev pub unless_in_doubt : ℕ → Condition → List ℕ → List ℕ
unless_in_doubt n condition.Up text = text ++ end_line n
unless_in_doubt n condition.NoServer text = text ++ end_line n
unless_in_doubt n (condition.Doubt k) text = doubt_line n k ++ end_line n

-- SM13: the update records
abbrev pub sm13_text : ℕ → Condition → List UnitView → List ℕ
sm13_text n c us = unless_in_doubt n c (unit_lines n us)

-- SNRO: the number ranges
abbrev pub snro_text : ℕ → Condition → List RangeState → List ℕ
snro_text n c rs = unless_in_doubt n c (range_lines n rs)

abbrev pub same_status : Status → Status → Bool
same_status status.Open status.Open = true
same_status status.Posted status.Posted = true
same_status status.Bad status.Bad = true
same_status status.Closed status.Closed = true
same_status status.Bad2 status.Bad2 = true
same_status status.Cancelled status.Cancelled = true
same_status _ _ = false

abbrev pub units_with : Status → List UnitView → ℕ
units_with s us = count_by (λ (u : UnitView). same_status s u.status) us

abbrev pub counts_of : List UnitView → ℕ → ℕ → Counts
counts_of us marks numbers = record {
  units = length us;
  «open» = units_with status.Open us;
  posted = units_with status.Posted us;
  bad = units_with status.Bad us;
  closed = units_with status.Closed us;
  bad2 = units_with status.Bad2 us;
  cancelled = units_with status.Cancelled us;
  marks = marks;
  numbers = numbers;
}

abbrev pub counts_line : ℕ → List UnitView → ℕ → ℕ → List ℕ
counts_line n us marks numbers = shown_line n (counts_text (counts_of us marks numbers))

-- AUDIT: the counts
abbrev pub audit_text : ℕ → Condition → List UnitView → ℕ → ℕ → List ℕ
audit_text n c us marks numbers = unless_in_doubt n c (counts_line n us marks numbers)
