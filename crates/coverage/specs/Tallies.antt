-- How many locks of a session cover the row of each of its watches, line by line.
use Rattle.std.specs.Prelude.{◌≡◌, ⊤, ℕ, ◌+◌, ◌-◌, ◌^◌, min, Bool, true, false, cond, nat_lt, List, [], ◌∷◌, map, set}
use Rattle.std.specs.Prelude.{count_by, Option, Some, None}
use Rattle.std.specs.List.{AllByRecursion, fold}
use Rattle.lock_entry.specs.declared.entry.Asked.{Asked}
use Rattle.script_lang.specs.declared.script_line.ScriptLine.{ScriptLine}
use Rattle.script_lang.specs.declared.script_line.ScriptLine.TheVariants as line
use Rattle.coverage.specs.declared.lack.Finding.{Finding}
use Rattle.coverage.specs.declared.lack.Watch.{Watch}
use Rattle.coverage.specs.declared.lack.Wish.{Wish}
use Rattle.coverage.specs.declared.tally.Tally.{Tally}
use Rattle.coverage.specs.Locks.{covers}
use Rattle.coverage.specs.Lacks.{Standing, met_at_commit, on_table, still_met}
use Rattle.coverage.specs.Walked.{looked_after}

-- how many of the locks cover the row
abbrev pub covering : Wish → List Asked → ℕ
covering w locks = count_by (covers w.table w.key) locks

-- a watch that was looked after, with what its session has
abbrev pub tallied : Standing → Watch → Tally
tallied st x = record {
  watch = looked_after st.held x;
  held = covering x.wish st.held;
  collected = covering x.wish st.container;
}

-- the numbers are right, and no watch needs to be looked after again
abbrev pub AreTallied : Standing → List Tally → Type 0
AreTallied st ts = AllByRecursion (λ t. t ≡ tallied st t.watch) ts

abbrev pub watch_of : Tally → Watch
watch_of t = t.watch

abbrev pub watches_of : List Tally → List Watch
watches_of ts = map watch_of ts

-- the tally over a line that was just read
abbrev pub new_tally : (place : ℕ) → Option Wish → Standing → List Tally
new_tally place None st = []
new_tally place (Some w) st = tallied st (record { place = place; wish = w; met = true }) ∷ []

-- What a line moves: the locks that an ENQ or a COLLECT adds, or those that a DEQ found and took away. They count for
-- any row.
abbrev pub AreMoved : ScriptLine → (before after : Standing) → List Asked → Type 0
AreMoved (line.Enq s object m scope values) st st' moved =
    (w : Wish) → covering w st'.held ≡ covering w st.held + covering w moved
AreMoved (line.Collect s object m scope values) st st' moved =
    (w : Wish) → covering w st'.container ≡ covering w st.container + covering w moved
AreMoved (line.Deq s object m scope values) st st' moved =
    (w : Wish) → covering w st.held ≡ covering w st'.held + covering w moved
AreMoved _ st st' moved = ⊤

-- a line that may change the locks of its session, and may not end its unit
abbrev pub moves : ScriptLine → Bool
moves (line.Enq s object m scope values) = true
moves (line.Deq s object m scope values) = true
moves (line.Collect s object m scope values) = true
moves (line.DeqAll s) = true
moves (line.Flush s) = true
moves (line.Reset s) = true
moves _ = false

-- a sum that stays at the largest number of its type
abbrev pub sum_up : ℕ → ℕ → ℕ
sum_up a b = min (a + b) (2 ^ 64 - 1)

-- how many held locks cover a row after a line that moved so many of those that do
abbrev pub held_after : ScriptLine → (moved held collected : ℕ) → ℕ
held_after (line.Enq s object m scope values) moved held collected = sum_up held moved
held_after (line.Deq s object m scope values) moved held collected = held - moved
held_after (line.DeqAll s) moved held collected = 0
held_after (line.Flush s) moved held collected = sum_up held collected
held_after _ moved held collected = held

-- how many collected locks do
abbrev pub collected_after : ScriptLine → (moved held collected : ℕ) → ℕ
collected_after (line.Collect s object m scope values) moved held collected = sum_up collected moved
collected_after (line.Flush s) moved held collected = 0
collected_after (line.Reset s) moved held collected = 0
collected_after _ moved held collected = collected

abbrev pub counted : ScriptLine → List Asked → Tally → Tally
counted l moved t = record {
  watch = t.watch;
  held = held_after l (covering t.watch.wish moved) t.held t.collected;
  collected = collected_after l (covering t.watch.wish moved) t.held t.collected;
}

-- whether the wish can still be met, by the number alone
abbrev pub looked : Tally → Tally
looked t = record t {
  watch = record {
    place = t.watch.place;
    wish = t.watch.wish;
    met = still_met t.watch.wish.want t.watch.met (nat_lt 0 t.held);
  };
}

abbrev pub turned : ScriptLine → List Asked → Tally → Tally
turned l moved t = looked (counted l moved t)

-- what a line does to the tallies of its session
abbrev pub all_turned : (ends : Bool) → ScriptLine → List Asked → List Tally → List Tally
all_turned ends l moved ts = cond ends [] (cond (moves l) (map (turned l moved) ts) ts)

-- what was found, with what a COMMIT tells of a tally
abbrev pub told_tally : List (Option Finding) → Tally → List (Option Finding)
told_tally found t =
    cond (met_at_commit t.watch.wish.want t.watch.met (nat_lt 0 t.held)) found
    (set found t.watch.place (Some (on_table t.watch.wish.table t.watch.wish.lack)))

abbrev pub told_tallies : List Tally → List (Option Finding) → List (Option Finding)
told_tallies ts found = fold told_tally found ts
