-- The lists of entries that may stand together.
use Rattle.std.specs.Prelude.{ℕ, ◌+◌, Bool, not, ◌&&◌, cond, nat_le, List, [], ◌∷◌, ◌++◌, length, Option, Some, None}
use Rattle.std.specs.Prelude.{IsTrue}
use Rattle.std.specs.List.{list_all, position}
use Rattle.std.specs.Option.{option_map_or}
use Rattle.mode_rules.specs.Modes.{modes_clash}
use Rattle.lock_entry.specs.declared.entry.Asker.{Asker}
use Rattle.lock_entry.specs.declared.entry.Entry.{Entry}
use Rattle.lock_entry.specs.Names.{is_of, asked_of, all_pairs, names_differ, has_distinct_names}
use Rattle.lock_entry.specs.Pairs.{are_related}
use Rattle.lock_entry.specs.Barring.{places_meet}

-- 1 to 9,999
abbrev pub has_count : Entry → Bool
has_count e = nat_le 1 e.count && nat_le e.count 9999

-- entries of unrelated owners that meet and whose modes clash
abbrev pub in_conflict : Entry → Entry → Bool
in_conflict a b = not (are_related a.owner b.owner) &&
    (places_meet (asked_of a) (asked_of b) && modes_clash a.mode b.mode)

-- no two entries are in conflict
abbrev pub has_no_conflict : List Entry → Bool
has_no_conflict entries = all_pairs (λ a b. not (in_conflict a b)) entries

-- the names are distinct, the counts are 1 to 9,999, and no two entries of unrelated owners meet and clash
pub record IsSound (entries : List Entry) : Type 0 where
  pub names : IsTrue (has_distinct_names entries)
  pub counts : IsTrue (list_all has_count entries)
  pub conflicts : IsTrue (has_no_conflict entries)

-- two entries that may stand together: their names differ, and they aren't in conflict
abbrev pub are_apart : Entry → Entry → Bool
are_apart a b = names_differ a b && not (in_conflict a b)

-- the entry has a good count, and may stand together with each of those before it
abbrev pub stands_with : List Entry → Entry → Bool
stands_with before e = has_count e && list_all (λ a. are_apart a e) before

-- the place, from 1, of the first of those before it that it may not stand together with, or else its own
abbrev pub first_against : List Entry → Entry → ℕ
first_against before e = option_map_or (λ i. i + 1) (position (λ a. not (are_apart a e)) before) (length before + 1)

abbrev pub clash_after : List Entry → List Entry → Option (ℕ × ℕ)
clash_after before [] = None
clash_after before (e ∷ es) =
    cond (stands_with before e)
    (clash_after (before ++ e ∷ []) es)
    (Some (first_against before e, length before + 1))

-- the two places, from 1, of the first entry that may not stand with those before it: the one that it breaks soundness
-- with, and its own
abbrev pub first_clash : List Entry → Option (ℕ × ℕ)
first_clash entries = clash_after [] entries

-- entries of the asker's update owner, with distinct names and counts of 1 to 9,999
pub record ReadmitsOnly (asker : Asker) (entries : List Entry) : Type 0 where
  pub owners : IsTrue (list_all (is_of asker.update) entries)
  pub names : IsTrue (has_distinct_names entries)
  pub counts : IsTrue (list_all has_count entries)
