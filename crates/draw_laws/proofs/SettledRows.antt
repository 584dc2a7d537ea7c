-- Levels with the rows of settled intervals.
use Rattle.std.proofs.Common.{◌≡◌, inl, inr, Bool, true, false, true≢false, cond, ◌||◌, List, [], ◌∷◌, map, Some, refl, sym, ap, subst, ◌∙◌}
use Rattle.std.specs.Prelude.{Contains}
use Rattle.std.specs.FinMap.{get, get-insert, insert}
use Rattle.std.specs.List.{AllByRecursion, IsDistinct, filter, list_any}
use Rattle.std.proofs.lemmas.Map.Keys.{IsDistinct-cons}
use Rattle.enq_base.specs.declared.unit.Num.{Num}
use Rattle.module_effects.proofs.lemmas.Tables.{rows_total, same_row, same_row-Decides}
use Rattle.module_effects.specs.Rows.{RowName}
use Rattle.number_ranges.specs.Intervals.{is_named}
use Rattle.number_ranges.specs.declared.interval.Interval.{Interval}
use Rattle.ledger_steps.specs.Intervals.{HasDistinctIntervals, HasNr, with_levels}
use Rattle.update_records.specs.Intervals.{level_of, named}
use Rattle.update_records.specs.Ledger.{Levels}
use Rattle.update_records.specs.declared.stored.StoredInterval.{StoredInterval}
use Rattle.ledger_steps.specs.Drawn.{is_settled_by, stored_as, with_level_behind}
use Rattle.ledger_steps.specs.Levels.{AreApart, IsUnused, name_of, present}
use Rattle.draw_laws.proofs.IntervalNames.{contains_cases, contains_none, is_named_so, none_named}

-- the rows that are written of these intervals
abbrev pub rows_for : Levels → List Num → List Interval → List StoredInterval
rows_for levels nums intervals = map (λ i. stored_as (with_level_behind nums i)) (filter (is_settled_by nums) (map (present levels) intervals))

-- the row of one of them
abbrev pub row_for : Levels → List Num → Interval → StoredInterval
row_for levels nums i = stored_as (with_level_behind nums (present levels i))

pub differ : (a b : RowName) → (a ≡ b → ⊥) → same_row a b ≡ false
differ a b apart = elim (same_row a b) as (λ t. same_row a b ≡ t → t ≡ false) [
  | true ↦ λ e. absurd (apart ((same_row-Decides a b).0 e))
  | false ↦ λ e. refl
] refl

pub one_row : (a b : RowName) → a ≡ b → same_row a b ≡ true
one_row a b same = (same_row-Decides a b).1 same

abbrev insert_row : StoredInterval → Levels → Levels
insert_row row levels = insert levels (named row) (level_of row)

pub insert_other : (row : StoredInterval) (levels : Levels) (name : RowName) → (name ≡ named row → ⊥) → get (insert_row row levels) name ≡ get levels name
insert_other row levels name apart =
    get-insert rows_total levels (named row) (level_of row) name ∙ ap (λ b. cond b (Some (level_of row)) (get levels name)) (differ name (named row) apart)

pub insert_own : (row : StoredInterval) (levels : Levels) (name : RowName) → name ≡ named row → get (insert_row row levels) name ≡ Some (level_of row)
insert_own row levels name same =
    get-insert rows_total levels (named row) (level_of row) name ∙ ap (λ b. cond b (Some (level_of row)) (get levels name)) (one_row name (named row) same)

or_parts : (a b : Bool) → (a || b) ≡ false → (a ≡ false) × (b ≡ false)
or_parts true b h = cc
or_parts false b h = (refl, h)

not_named : (name : RowName) (i : Interval) → is_named name.0 name.1 i ≡ false → name ≡ name_of i → ⊥
not_named name i none same = true≢false (sym (is_named_so name.0 name.1 i (sym same)) ∙ none)

-- a name of none of them keeps its level
pub others_kept : (levels base : Levels) (nums : List Num) (name : RowName) (intervals : List Interval) → list_any (is_named name.0 name.1) intervals ≡ false
    → get (with_levels (rows_for levels nums intervals) base) name ≡ get base name
others_kept levels base nums name [] none = refl
others_kept levels base nums name (i ∷ intervals) none =
    let both = or_parts (is_named name.0 name.1 i) (list_any (is_named name.0 name.1) intervals) none in
    elim (is_settled_by nums (present levels i))
    as (λ b. get (with_levels
    (map (λ j. stored_as (with_level_behind nums j))
    (cond b (present levels i ∷ filter (is_settled_by nums) (map (present levels) intervals))
    (filter (is_settled_by nums) (map (present levels) intervals)))) base) name ≡ get base name) [
      | true ↦
          others_kept levels (insert_row (row_for levels nums i) base) nums name intervals both.1
          ∙ insert_other (row_for levels nums i) base name (not_named name i both.0)
      | false ↦ others_kept levels base nums name intervals both.1
    ]

-- the name of one of them has its row's level, where it is written
pub own_level : (levels base : Levels) (nums : List Num) (i : Interval) (intervals : List Interval) → AreApart intervals → Contains intervals i
    → get (with_levels (rows_for levels nums intervals) base) (name_of i) ≡ cond (is_settled_by nums (present levels i))
    (Some (level_of (row_for levels nums i))) (get base (name_of i))
own_level levels base nums i [] apart among = absurd (contains_none i among)
own_level levels base nums i (x ∷ intervals) apart among =
    elim (contains_cases x intervals i among)
    as (λ _. get (with_levels (rows_for levels nums (x ∷ intervals)) base) (name_of i) ≡ cond (is_settled_by nums (present levels i))
    (Some (level_of (row_for levels nums i))) (get base (name_of i))) [
      | inl e ↦ subst (λ j. get (with_levels (rows_for levels nums (x ∷ intervals)) base) (name_of j) ≡ cond (is_settled_by nums (present levels j))
          (Some (level_of (row_for levels nums j))) (get base (name_of j))) e first_of
      | inr e ↦ later_of e (λ over. own_level levels over nums i intervals apart.1 e)
    ]
  where
    rest : List Interval
    rest = filter (is_settled_by nums) (map (present levels) intervals)

    after : Bool → Levels
    after b = with_levels (map (λ j. stored_as (with_level_behind nums j)) (cond b (present levels x ∷ rest) rest)) base

    first_of : get (after (is_settled_by nums (present levels x))) (name_of x) ≡ cond (is_settled_by nums (present levels x))
        (Some (level_of (row_for levels nums x))) (get base (name_of x))
    first_of = elim (is_settled_by nums (present levels x))
        as (λ b. get (after b) (name_of x) ≡ cond b (Some (level_of (row_for levels nums x))) (get base (name_of x))) [
          | true ↦
              others_kept levels (insert_row (row_for levels nums x) base) nums (name_of x) intervals apart.0
              ∙ insert_own (row_for levels nums x) base (name_of x) refl
          | false ↦ others_kept levels base nums (name_of x) intervals apart.0
        ]

    later_of : Contains intervals i
        → ((over : Levels) → get (with_levels (rows_for levels nums intervals) over) (name_of i) ≡ cond (is_settled_by nums (present levels i))
        (Some (level_of (row_for levels nums i))) (get over (name_of i)))
        → get (after (is_settled_by nums (present levels x))) (name_of i) ≡ cond (is_settled_by nums (present levels i))
        (Some (level_of (row_for levels nums i))) (get base (name_of i))
    later_of there behind = elim (is_settled_by nums (present levels x))
        as (λ b. get (after b) (name_of i) ≡ cond (is_settled_by nums (present levels i)) (Some (level_of (row_for levels nums i))) (get base (name_of i))) [
          | true ↦
              behind (insert_row (row_for levels nums x) base)
              ∙ ap (cond (is_settled_by nums (present levels i)) (Some (level_of (row_for levels nums i))))
              (insert_other (row_for levels nums x) base (name_of i) (λ same. none_named x.object x.nr intervals i apart.0 there same))
          | false ↦ behind base
        ]

-- ---- rows that may be written

pub rows_numbered : (levels : Levels) (nums : List Num) (intervals : List Interval) → AllByRecursion IsUnused intervals
    → AllByRecursion HasNr (rows_for levels nums intervals)
rows_numbered levels nums [] each = tt
rows_numbered levels nums (i ∷ intervals) each =
    elim (is_settled_by nums (present levels i))
    as (λ b. AllByRecursion HasNr
    (map (λ j. stored_as (with_level_behind nums j))
    (cond b (present levels i ∷ filter (is_settled_by nums) (map (present levels) intervals))
    (filter (is_settled_by nums) (map (present levels) intervals))))) [
      | true ↦ (each.0.nr, rows_numbered levels nums intervals each.1)
      | false ↦ rows_numbered levels nums intervals each.1
    ]

others_apart : (levels : Levels) (nums : List Num) (name : RowName) (intervals : List Interval) → list_any (is_named name.0 name.1) intervals ≡ false
    → AllByRecursion (λ other. same_row name other ≡ false) (map named (rows_for levels nums intervals))
others_apart levels nums name [] none = tt
others_apart levels nums name (i ∷ intervals) none =
    let both = or_parts (is_named name.0 name.1 i) (list_any (is_named name.0 name.1) intervals) none in
    elim (is_settled_by nums (present levels i))
    as (λ b. AllByRecursion (λ other. same_row name other ≡ false)
    (map named (map (λ j. stored_as (with_level_behind nums j))
    (cond b (present levels i ∷ filter (is_settled_by nums) (map (present levels) intervals))
    (filter (is_settled_by nums) (map (present levels) intervals)))))) [
      | true ↦ (differ name (name_of i) (not_named name i both.0), others_apart levels nums name intervals both.1)
      | false ↦ others_apart levels nums name intervals both.1
    ]

pub rows_distinct : (levels : Levels) (nums : List Num) (intervals : List Interval) → AreApart intervals → HasDistinctIntervals (rows_for levels nums intervals)
unfolding IsDistinct
rows_distinct levels nums [] apart = tt
rows_distinct levels nums (i ∷ intervals) apart =
    elim (is_settled_by nums (present levels i))
    as (λ b. HasDistinctIntervals
    (map (λ j. stored_as (with_level_behind nums j))
    (cond b (present levels i ∷ filter (is_settled_by nums) (map (present levels) intervals))
    (filter (is_settled_by nums) (map (present levels) intervals))))) [
      | true ↦ IsDistinct-cons same_row (name_of i) (map named (rows_for levels nums intervals)) (others_apart levels nums (name_of i) intervals apart.0)
          (rows_distinct levels nums intervals apart.1)
      | false ↦ rows_distinct levels nums intervals apart.1
    ]
