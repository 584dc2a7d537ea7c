-- A place that a rule names is a row of tables 0 to 7, counted from 1.
use Rattle.std.proofs.Common.{◌≡◌, ℕ, zero, suc, ◌+◌, ◌&&◌, nat_eq, take, drop, ◌<◌, ◌≤◌, Bool, true, false, cond, List, [], ◌∷◌, ◌++◌, length, Option, Some}
use Rattle.std.proofs.Common.{None, IfSome, IfOk, Result, Ok, Err, refl, subst, sym, ap, ◌∙◌, arith}
use Rattle.std.specs.List.{list_all}
use Rattle.std.proofs.lemmas.Bool.{eqb-true}
use Rattle.std.specs.Option.{option_or}
use Rattle.keeper_api.specs.declared.rows.Row.{Row}
use Rattle.update_records.specs.Business.{interval_of}
use Rattle.update_records.specs.declared.stored.Record.{Record}
use Rattle.store_reading.specs.First.{first_wrong}
use Rattle.store_reading.specs.Intervals.{committed, has_level, is_right_level, level_fault}
use Rattle.store_reading.specs.Posts.{difference_from, is_business, is_right_post, post_fault, rows_for, tables_by}
use Rattle.store_reading.specs.Rules.{has_meta, has_number, is_right_mark, meta_fault}
use Rattle.store_reading.specs.Stores.{has_none, is_bare, rule_fault, start_in}
use Rattle.store_reading.specs.Told.{records_in}
use Rattle.store_reading.specs.Units.{is_counted, is_recorded_header, is_right_unit, unit_fault}
use Rattle.store_reading.specs.declared.rules.Place.{Place}
use Rattle.store_reading.proofs.lemmas.Members.{no_true}

abbrev pub IsInTables : Option Place → Type 0
IsInTables place = IfSome place (λ p. (p.table < 8) × (1 ≤ p.row))

first_in : (is_right : List Record → Record → Bool) (table : ℕ) (before records : List Record) → table < 8
    → IsInTables (first_wrong is_right table before records)
first_in is_right table before [] low = tt
first_in is_right table before (r ∷ records) low =
    elim (is_right before r)
    as (λ b. IsInTables (cond b (first_wrong is_right table (before ++ r ∷ []) records) (Some (record { table = table; row = length before + 1 })))) [
      | true ↦ first_in is_right table (before ++ r ∷ []) records low
      | false ↦ (low, omega arith)
    ]

or_in : (a b : Option Place) → IsInTables a → IsInTables b → IsInTables (option_or a b)
or_in None b h k = k
or_in (Some place) b h k = h

or_none : (b : Bool) (p : Place) → p.table < 8 → 1 ≤ p.row → IsInTables (cond b None (Some p))
or_none true p low first = tt
or_none false p low first = (low, first)

difference_in : (n : ℕ) (rows : List Row) (records : List Record) → 1 ≤ n → IsInTables (difference_from n rows records)
difference_in n [] [] h = tt
difference_in n [] (r ∷ records) h = (omega arith, h)
difference_in n (row ∷ rows) [] h = (omega arith, h)
difference_in n (row ∷ rows) (r ∷ records) h =
    elim (is_business row r) as (λ b. IsInTables (cond b (difference_from (n + 1) rows records) (Some (record { table = 6; row = n })))) [
      | true ↦ difference_in (n + 1) rows records (omega arith)
      | false ↦ (omega arith, h)
    ]

meta_in : (meta : List Record) (n : ℕ) → IsInTables (meta_fault meta n)
meta_in meta n = or_none (has_meta meta n) (record { table = 0; row = 1 }) (omega arith) (omega arith)

unit_in : (headers modules steps marks locks : List Record) → IsInTables (unit_fault headers modules steps marks locks)
unit_in headers modules steps marks locks =
    or_in _ _
    (or_in _ _
    (or_in _ _
    (or_in _ _ (first_in (λ before. is_right_unit headers modules steps locks) 4 [] marks (omega arith))
    (first_in (λ before. is_recorded_header marks) 1 [] headers (omega arith)))
    (first_in (λ before. is_counted headers) 2 [] modules (omega arith)))
    (first_in (λ before. is_counted headers) 3 [] steps (omega arith)))
    (first_in (λ before. is_counted headers) 7 [] locks (omega arith))

post_in : (steps marks business : List Record) → IsInTables (post_fault steps marks business)
post_in steps marks business =
    or_in _ _ (first_in (is_right_post steps) 4 [] marks (omega arith)) (difference_in 1 (rows_for (tables_by steps marks)) business (omega arith))

level_in : (headers marks levels : List Record) → IsInTables (level_fault headers marks levels)
level_in headers marks levels =
    or_in _ _ (first_in (λ before. is_right_level (committed headers marks)) 5 [] levels (omega arith))
    (or_none (list_all (λ num. has_level levels (interval_of num)) (committed headers marks)) (record { table = 5; row = length levels + 1 }) (omega arith)
    (omega arith))

pub rule_in : (records : List (List Record)) → IsInTables (rule_fault records)
rule_in records =
    let t = records_in records in
    or_in _ _
    (or_in _ _
    (or_in _ _
    (or_in _ _
    (or_in _ _ (meta_in (t 0) (length (t 4))) (first_in (λ before. has_number (length before + 1)) 4 [] (t 4) (omega arith)))
    (first_in (is_right_mark (start_in (t 0)) (t 1)) 4 [] (t 4) (omega arith)))
    (unit_in (t 1) (t 2) (t 3) (t 4) (t 7)))
    (post_in (t 3) (t 4) (t 6)))
    (level_in (t 1) (t 4) (t 5))

-- what is answered, where it is the place of the rules
pub told_in : {E : Type 0} (records : List (List Record)) (result : Result (Option Place) E) → IfOk result (λ place. place ≡ rule_fault records)
    → IfOk result IsInTables
told_in records (Ok place) is = subst IsInTables (sym is) (rule_in records)
told_in records (Err e) is = tt

-- ---- tables without records

has_none-length : (records : List Record) → has_none records ≡ nat_eq (length records) 0
has_none-length [] = refl
has_none-length (r ∷ records) = sym (no_true (nat_eq (length (r ∷ records)) 0) (λ h. let odd = eqb-true (length (r ∷ records)) 0 h in absurd (omega arith)))

bare_from : (xs : List (List Record)) (n i : ℕ) → i < n → list_all has_none
    (drop i (take n xs)) ≡ (has_none (records_in xs i) && list_all has_none (drop (suc i) (take n xs)))
bare_from xs zero i h = absurd (omega arith)
bare_from [] (suc n) zero h = refl
bare_from [] (suc n) (suc i) h = refl
bare_from (x ∷ xs) (suc n) zero h = refl
bare_from (x ∷ xs) (suc n) (suc i) h = bare_from xs n i (omega arith)

bare_behind : (xs : List (List Record)) (n : ℕ) → list_all has_none (drop n (take n xs)) ≡ true
bare_behind [] zero = refl
bare_behind [] (suc n) = refl
bare_behind (x ∷ xs) zero = refl
bare_behind (x ∷ xs) (suc n) = bare_behind xs n

bare_at : (xs : List (List Record)) (i : ℕ) (records : List Record) (b : Bool) → i < 8 → records ≡ records_in xs i → b ≡ nat_eq (length records) 0
    → list_all has_none (drop i (take 8 xs)) ≡ (b && list_all has_none (drop (i + 1) (take 8 xs)))
bare_at xs i records b h is test =
    let next : suc i ≡ i + 1 = omega arith in
    bare_from xs 8 i h
    ∙ ap (λ rs. has_none rs && list_all has_none (drop (suc i) (take 8 xs))) (sym is)
    ∙ ap (λ t. t && list_all has_none (drop (suc i) (take 8 xs))) (has_none-length records ∙ sym test)
    ∙ ap (λ k. b && list_all has_none (drop k (take 8 xs))) next

pub bare_more : (xs : List (List Record)) (i : ℕ) (records : List Record) (b : Bool) → i < 8 → records ≡ records_in xs i → b ≡ nat_eq (length records) 0
    → b ≡ true
    → list_all has_none (drop i (take 8 xs)) ≡ is_bare xs → list_all has_none (drop (i + 1) (take 8 xs)) ≡ is_bare xs
bare_more xs i records b h is test passes whole =
    sym (bare_at xs i records b h is test ∙ ap (λ t. t && list_all has_none (drop (i + 1) (take 8 xs))) passes) ∙ whole

pub bare_not : (xs : List (List Record)) (i : ℕ) (records : List Record) (b : Bool) → i < 8 → records ≡ records_in xs i → b ≡ nat_eq (length records) 0
    → b ≡ false
    → list_all has_none (drop i (take 8 xs)) ≡ is_bare xs → false ≡ is_bare xs
bare_not xs i records b h is test fails whole =
    sym (bare_at xs i records b h is test ∙ ap (λ t. t && list_all has_none (drop (i + 1) (take 8 xs))) fails) ∙ whole

pub bare_end : (xs : List (List Record)) (i : ℕ) → i ≡ 8 → list_all has_none (drop i (take 8 xs)) ≡ is_bare xs → true ≡ is_bare xs
bare_end xs i h whole = sym (ap (λ k. list_all has_none (drop k (take 8 xs))) h ∙ bare_behind xs 8) ∙ whole
