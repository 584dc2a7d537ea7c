-- The rows of one more unit, and of one more mark, make the rows of the ledger that has it.
use Rattle.std.proofs.Common.{◌≡◌, ℕ, ◌+◌, ◌≤◌, Bool, true, false, not, ◌&&◌, ◌||◌, map, nat_eq, nat_lt, List, [], ◌∷◌, ◌++◌, length, refl, sym, ap, subst, ◌∙◌}
use Rattle.std.proofs.Common.{arith, append_assoc, length-append, if◌then◌else◌}
use Rattle.std.specs.List.{flat_map}
use Rattle.std.specs.Option.{option_map_or}
use Rattle.std.specs.FinMap.{empty}
use Rattle.std.proofs.lemmas.Bool.{eqb-true}
use Rattle.std.proofs.lemmas.List.{append-nil}
use Rattle.keeper_api.specs.declared.rows.Change.{Change}
use Rattle.keeper_api.specs.Rows.{Rows}
use Rattle.keeper_api.specs.Batch.{changed, changed_once}
use Rattle.keeper_api.specs.RowLaws.{changed_append, changed_swapped, once_over, InTables, AreApart, tables_append}
use Rattle.enq_base.specs.Owners.{same_unit}
use Rattle.enq_base.specs.declared.owner.UnitKey.{UnitKey}
use Rattle.enq_base.specs.declared.unit.Effect.{Effect}
use Rattle.lock_entry.specs.declared.entry.Entry.{Entry}
use Rattle.module_effects.specs.Rows.{Tables}
use Rattle.update_records.specs.declared.records.Mark.{Mark}
use Rattle.update_records.specs.declared.records.MarkKind.{MarkKind}
use Rattle.update_records.specs.declared.records.MarkKind.TheVariants.{Num, Rec, V1, Bad1, Again1, V2, Bad2, Again2, Gone}
use Rattle.update_records.specs.declared.records.Unit.{Unit as UnitOfWork}
use Rattle.update_records.specs.Business.{posted, part_of, tables_after, tables_of}
use Rattle.update_records.specs.Growing.{next_mark, with_mark, with_unit}
use Rattle.update_records.specs.Ledger.{Ledger, map_rows, meta_rows, book_rows, rows_of}
use Rattle.update_records.specs.Marks.{draws_alone}
use Rattle.update_records.specs.RecordRows.{header_row, unit_rows, step_rows, part_rows, mark_row, lock_rows, meta_row}
use Rattle.record_laws.proofs.Status.{NoneOf, unit_other, flip}

abbrev pub is_unit_table : ℕ → Bool
is_unit_table n = (nat_lt 0 n && nat_lt n 4) || nat_eq n 7

abbrev pub is_mark_table : ℕ → Bool
is_mark_table n = nat_eq n 4

abbrev pub is_meta_table : ℕ → Bool
is_meta_table n = nat_eq n 0

abbrev pub is_business_table : ℕ → Bool
is_business_table n = nat_eq n 6

abbrev pub is_book_table : ℕ → Bool
is_book_table n = nat_lt n 5 || nat_eq n 7

at_number : (p : ℕ → Bool) (k n : ℕ) → nat_eq n k ≡ true → p n ≡ true → p k ≡ true
at_number p k n is h = subst (λ m. p m ≡ true) (eqb-true n k is) h

pub units_and_meta : AreApart is_unit_table is_meta_table
units_and_meta n a b = let h : is_unit_table 0 ≡ true = at_number is_unit_table 0 n b a in cc

pub units_and_marks : AreApart is_unit_table is_mark_table
units_and_marks n a b = let h : is_unit_table 4 ≡ true = at_number is_unit_table 4 n b a in cc

pub marks_and_meta : AreApart is_mark_table is_meta_table
marks_and_meta n a b = let h : is_mark_table 0 ≡ true = at_number is_mark_table 0 n b a in cc

pub books_and_business : AreApart is_book_table is_business_table
books_and_business n a b = let h : is_book_table 6 ≡ true = at_number is_book_table 6 n b a in cc

pub steps_in : (p : ℕ → Bool) → p 3 ≡ true → (key : UnitKey) (part index : ℕ) (effects : List Effect) → InTables p (step_rows key part index effects)
steps_in p h key part index [] = tt
steps_in p h key part index (effect ∷ effects) = (h, steps_in p h key part (index + 1) effects)

pub part_in : (p : ℕ → Bool) → p 2 ≡ true → p 3 ≡ true → (key : UnitKey) (part : ℕ) (effects : List Effect) → InTables p (part_rows key part effects)
part_in p two three key part [] = tt
part_in p two three key part (effect ∷ effects) = (two, steps_in p three key part 1 (effect ∷ effects))

pub locks_in : (p : ℕ → Bool) → p 7 ≡ true → (key : UnitKey) (index : ℕ) (entries : List Entry) → InTables p (lock_rows key index entries)
locks_in p seven key index [] = tt
locks_in p seven key index (entry ∷ entries) = (seven, locks_in p seven key (index + 1) entries)

pub unit_in : (p : ℕ → Bool) → p 1 ≡ true → p 2 ≡ true → p 3 ≡ true → p 7 ≡ true → (unit : UnitOfWork) → InTables p (unit_rows unit)
unit_in p one two three seven unit =
    tables_append p (header_row unit ∷ part_rows unit.key 1 unit.parts.v1 ++ part_rows unit.key 2 unit.parts.v2) (lock_rows unit.key 1 unit.entries)
    (tables_append p (header_row unit ∷ part_rows unit.key 1 unit.parts.v1) (part_rows unit.key 2 unit.parts.v2)
    (one, part_in p two three unit.key 1 unit.parts.v1) (part_in p two three unit.key 2 unit.parts.v2))
    (locks_in p seven unit.key 1 unit.entries)

units_in : (p : ℕ → Bool) → p 1 ≡ true → p 2 ≡ true → p 3 ≡ true → p 7 ≡ true → (units : List UnitOfWork) → InTables p (flat_map unit_rows units)
units_in p one two three seven [] = tt
units_in p one two three seven (unit ∷ units) = tables_append p (unit_rows unit) _ (unit_in p one two three seven unit) (units_in p one two three seven units)

marks_in : (p : ℕ → Bool) → p 4 ≡ true → (marks : List Mark) → InTables p (map mark_row marks)
marks_in p four [] = tt
marks_in p four (m ∷ marks) = (four, marks_in p four marks)

meta_in : (p : ℕ → Bool) → p 0 ≡ true → (start n : ℕ) → InTables p (meta_rows start n)
meta_in p zero_in start n =
    elim (nat_eq start 0) as (λ b. InTables p (if b then [] else (meta_row start n ∷ []))) [ true ↦ tt | false ↦ (zero_in, tt) ]

pub books_in : (p : ℕ → Bool) → p 0 ≡ true → p 1 ≡ true → p 2 ≡ true → p 3 ≡ true → p 4 ≡ true → p 7 ≡ true → (ledger : Ledger) → InTables p (book_rows ledger)
books_in p meta one two three four seven ledger =
    tables_append p _ _ (tables_append p _ _ (units_in p one two three seven ledger.units) (marks_in p four ledger.marks))
    (meta_in p meta ledger.start (length ledger.marks))

units_push : (units : List UnitOfWork) (unit : UnitOfWork) → flat_map unit_rows (units ++ unit ∷ []) ≡ flat_map unit_rows units ++ unit_rows unit
units_push [] unit = append-nil (unit_rows unit)
units_push (u ∷ units) unit = ap (λ r. unit_rows u ++ r) (units_push units unit) ∙ sym (append_assoc (unit_rows u) _ _)

marks_push : (marks : List Mark) (m : Mark) → map mark_row (marks ++ m ∷ []) ≡ map mark_row marks ++ mark_row m ∷ []
marks_push [] m = refl
marks_push (x ∷ marks) m = ap (λ r. mark_row x ∷ r) (marks_push marks m)

pub tables_push : (units : List UnitOfWork) (tables : Tables) (marks : List Mark) (m : Mark)
    → tables_after units tables (marks ++ m ∷ []) ≡ posted (part_of units m) (tables_after units tables marks)
tables_push units tables [] m = refl
tables_push units tables (x ∷ marks) m = tables_push units (posted (part_of units x) tables) marks m

pub plain : (b : Bool) → (b && true) ≡ false → b ≡ false
plain true h = cc
plain false h = refl

pub other_part : (units : List UnitOfWork) (u : UnitOfWork) (seq : ℕ) (key : UnitKey) (kind : MarkKind)
    → (same_unit key u.key && not (draws_alone kind)) ≡ false
    → part_of (units ++ u ∷ []) (record { seq = seq; unit = key; kind = kind }) ≡ part_of units (record { seq = seq; unit = key; kind = kind })
other_part units u seq key V1 h = ap (λ o. option_map_or (λ (x : UnitOfWork). x.parts.v1) o [])
    (unit_other units u key (flip u.key key (plain (same_unit key u.key) h)))
other_part units u seq key V2 h = ap (λ o. option_map_or (λ (x : UnitOfWork). x.parts.v2) o [])
    (unit_other units u key (flip u.key key (plain (same_unit key u.key) h)))
other_part units u seq key (Num numbers) h = refl
other_part units u seq key Rec h = refl
other_part units u seq key (Bad1 i r) h = refl
other_part units u seq key Again1 h = refl
other_part units u seq key (Bad2 i r) h = refl
other_part units u seq key Again2 h = refl
other_part units u seq key Gone h = refl

-- a unit of which no mark tells changes no table
pub tables_grow : (units : List UnitOfWork) (u : UnitOfWork) (tables : Tables) (marks : List Mark) → NoneOf u.key marks
    → tables_after (units ++ u ∷ []) tables marks ≡ tables_after units tables marks
tables_grow units u tables [] none = refl
tables_grow units u tables (m ∷ marks) none =
    ap (λ part. tables_after (units ++ u ∷ []) (posted part tables) marks) (other_part units u m.seq m.unit m.kind none.0)
    ∙ tables_grow units u (posted (part_of units m) tables) marks none.1

length_push : (marks : List Mark) (m : Mark) → length (marks ++ m ∷ []) ≡ length marks + 1
length_push marks m = length-append marks (m ∷ [])

pub meta_is : (start n : ℕ) → 1 ≤ start → meta_rows start n ≡ meta_row start n ∷ []
meta_is start n h =
    elim (nat_eq start 0) as (λ b. nat_eq start 0 ≡ b → (if b then [] else (meta_row start n ∷ [])) ≡ meta_row start n ∷ []) [
      | true ↦ λ e. let none : start ≡ 0 = eqb-true start 0 e in absurd (omega arith)
      | false ↦ λ e. refl
    ] refl

-- a later meta row counts
meta_over : (start n k : ℕ) (rows : Rows) → 1 ≤ start → changed (meta_row start k ∷ []) (changed (meta_rows start n) rows) ≡ changed (meta_rows start k) rows
meta_over start n k rows h =
    ap (λ cs. changed_once (meta_row start k) (changed cs rows)) (meta_is start n h)
    ∙ once_over (meta_row start k) (meta_row start n) rows refl
    ∙ sym (ap (λ cs. changed cs rows) (meta_is start k h))

-- what a batch does that ends with a mark and the meta row
marked : (start n k : ℕ) (m : Mark) (rows : Rows) → 1 ≤ start → changed (mark_row m ∷ meta_row start k ∷ []) (changed (meta_rows start n) rows) ≡ changed
    (meta_rows start k) (changed (mark_row m ∷ []) rows)
marked start n k m rows h =
    ap (changed_once (meta_row start k))
    (changed_swapped is_meta_table is_mark_table (λ i a b. marks_and_meta i b a) (meta_rows start n) (mark_row m ∷ []) (meta_in is_meta_table refl start n)
    (refl, tt) rows)
    ∙ meta_over start n k _ h

-- the rows of the books, part by part
abbrev stack : List UnitOfWork → List Mark → ℕ → ℕ → Rows → Rows
stack units marks start n rows = changed (meta_rows start n) (changed (map mark_row marks) (changed (flat_map unit_rows units) rows))

pub parts_of : (units : List UnitOfWork) (marks : List Mark) (start n : ℕ) (rows : Rows)
    → changed (flat_map unit_rows units ++ map mark_row marks ++ meta_rows start n) rows ≡ stack units marks start n rows
parts_of units marks start n rows =
    changed_append (flat_map unit_rows units ++ map mark_row marks) (meta_rows start n) rows
    ∙ ap (changed (meta_rows start n)) (changed_append (flat_map unit_rows units) (map mark_row marks) rows)

-- one more mark on top
stack_mark : (units : List UnitOfWork) (marks : List Mark) (start : ℕ) (m : Mark) (rows : Rows) → 1 ≤ start
    → changed (mark_row m ∷ meta_row start (length marks + 1) ∷ []) (stack units marks start (length marks) rows) ≡ stack units (marks ++ m ∷ []) start
    (length (marks ++ m ∷ [])) rows
stack_mark units marks start m rows h =
    let below = changed (flat_map unit_rows units) rows in
    marked start (length marks) (length marks + 1) m (changed (map mark_row marks) below) h
    ∙ ap (changed (meta_rows start (length marks + 1)))
    (sym (ap (λ cs. changed cs below) (marks_push marks m) ∙ changed_append (map mark_row marks) (mark_row m ∷ []) below))
    ∙ ap (λ k. changed (meta_rows start k) (changed (map mark_row (marks ++ m ∷ [])) below)) (sym (length_push marks m))

-- one more unit below the marks
stack_unit : (units : List UnitOfWork) (marks : List Mark) (start n : ℕ) (unit : UnitOfWork) (rows : Rows)
    → changed (unit_rows unit) (stack units marks start n rows) ≡ stack (units ++ unit ∷ []) marks start n rows
stack_unit units marks start n unit rows =
    let below = changed (flat_map unit_rows units) rows in
    let in_units = unit_in is_unit_table refl refl refl refl unit in
    changed_swapped is_meta_table is_unit_table (λ k a b. units_and_meta k b a) (meta_rows start n) (unit_rows unit)
    (meta_in is_meta_table refl start n) in_units (changed (map mark_row marks) below)
    ∙ ap (changed (meta_rows start n)) (
    changed_swapped is_mark_table is_unit_table (λ k a b. units_and_marks k b a) (map mark_row marks) (unit_rows unit)
    (marks_in is_mark_table refl marks) in_units below
    ∙ ap (changed (map mark_row marks))
    (sym (ap (λ cs. changed cs rows) (units_push units unit) ∙ changed_append (flat_map unit_rows units) (unit_rows unit) rows)))

-- the changes that record a unit
abbrev pub unit_batch : Ledger → UnitOfWork → List Change
unit_batch ledger unit = unit_rows unit ++ mark_row (next_mark ledger unit.key Rec) ∷ meta_row ledger.start (length ledger.marks + 1) ∷ []

pub unit_written : (ledger : Ledger) (unit : UnitOfWork) → 1 ≤ ledger.start → NoneOf unit.key ledger.marks
    → changed (unit_batch ledger unit) (rows_of ledger) ≡ rows_of (with_unit ledger unit)
unit_written ledger unit h none =
    let base = map_rows ledger.levels (tables_of ledger.units ledger.marks) in
    let n = length ledger.marks in
    let new = next_mark ledger unit.key Rec in
    let close = mark_row new ∷ meta_row ledger.start (n + 1) ∷ [] in
    ap (changed (unit_batch ledger unit)) (parts_of ledger.units ledger.marks ledger.start n base)
    ∙ changed_append (unit_rows unit) close (stack ledger.units ledger.marks ledger.start n base)
    ∙ ap (changed close) (stack_unit ledger.units ledger.marks ledger.start n unit base)
    ∙ stack_mark (ledger.units ++ unit ∷ []) ledger.marks ledger.start new base h
    ∙ sym (
    ap (λ t. changed (book_rows (with_unit ledger unit)) (map_rows ledger.levels t))
    (tables_push (ledger.units ++ unit ∷ []) empty ledger.marks new ∙ tables_grow ledger.units unit empty ledger.marks none)
    ∙ parts_of (ledger.units ++ unit ∷ []) (ledger.marks ++ new ∷ []) ledger.start (length (ledger.marks ++ new ∷ [])) base)

-- changes of business rows, and a mark of whatever kind that makes them
pub mark_written : (ledger : Ledger) (key : UnitKey) (kind : MarkKind) (posts : List Change) → 1 ≤ ledger.start → InTables is_business_table posts
    → changed posts (map_rows ledger.levels (tables_of ledger.units ledger.marks)) ≡ map_rows ledger.levels
    (posted (part_of ledger.units (next_mark ledger key kind)) (tables_of ledger.units ledger.marks))
    → changed (posts ++ mark_row (next_mark ledger key kind) ∷ meta_row ledger.start (length ledger.marks + 1) ∷ []) (rows_of ledger) ≡ rows_of
    (with_mark ledger key kind)
mark_written ledger key kind posts h in_six made =
    let m = next_mark ledger key kind in
    let base = map_rows ledger.levels (tables_of ledger.units ledger.marks) in
    let after = map_rows ledger.levels (posted (part_of ledger.units m) (tables_of ledger.units ledger.marks)) in
    let n = length ledger.marks in
    let close = mark_row m ∷ meta_row ledger.start (n + 1) ∷ [] in
    changed_append posts close (rows_of ledger)
    ∙ ap (changed close) (
    changed_swapped is_book_table is_business_table books_and_business (book_rows ledger) posts
    (books_in is_book_table refl refl refl refl refl refl ledger) in_six base
    ∙ ap (changed (book_rows ledger)) made
    ∙ parts_of ledger.units ledger.marks ledger.start n after)
    ∙ stack_mark ledger.units ledger.marks ledger.start m after h
    ∙ sym (
    ap (λ t. changed (book_rows (with_mark ledger key kind)) (map_rows ledger.levels t)) (tables_push ledger.units empty ledger.marks m)
    ∙ parts_of ledger.units (ledger.marks ++ m ∷ []) ledger.start (length (ledger.marks ++ m ∷ [])) after)
