-- Records that are read table by table, and why the answer is one.
use Rattle.std.proofs.Common.{◌≡◌, ℕ, ◌+◌, ◌<◌, ◌≤◌, ◌⊎◌, inl, inr, List, [], ◌∷◌, ◌++◌, length, get_or, Option, Some, None, IfSome, refl, sym, ap, subst, ◌∙◌, arith}
use Rattle.std.proofs.lemmas.Bool.{cases_lt}
use Rattle.std.proofs.lemmas.List.{get_or_append_left}
use Rattle.std.specs.List.{AllByRecursion}
use Rattle.keeper_api.specs.declared.rows.Row.{Row}
use Rattle.keeper_api.specs.Rows.{Rows}
use Rattle.update_records.specs.Spelling.{Spells}
use Rattle.update_records.specs.declared.stored.Record.{Record}
use Rattle.store_reading.specs.Faults.{OnBad, IsReadingFault}
use Rattle.table_reading.specs.Tables.{rows_in}
use Rattle.store_reading.specs.Told.{AreRead, AreReadBelow, IsSpelled, IsFirstBad, IsFirstBadRow, IsTableRead, SpellAll, SpellBelow, SpellEach}
use Rattle.store_reading.specs.declared.fault.ReadingFault.{ReadingFault}
use Rattle.store_reading.specs.declared.fault.ReadingFault.TheVariants.{Failed, Bad, NoMemory}
use Rattle.store_reading.proofs.Spelled.{all_spelled}

abbrev Lists : Type 0
Lists = List (List Record)

get_last : (lists : Lists) (n : ℕ) (records : List Record) → length lists ≡ n → get_or (lists ++ records ∷ []) n [] ≡ records
get_last [] n records h = subst (λ k. get_or (records ∷ []) k [] ≡ records) h refl
get_last (x ∷ lists) n records h =
    subst (λ k. get_or (x ∷ (lists ++ records ∷ [])) k [] ≡ records) h (get_last lists (length lists) records refl)

get_before : (lists : Lists) (t : ℕ) (records : List Record) → t < length lists → get_or (lists ++ records ∷ []) t [] ≡ get_or lists t []
get_before lists t records h = get_or_append_left lists (records ∷ []) [] t h

below_more : (rows : Rows) (n : ℕ) (lists new : Lists) (records : List Record) → length lists ≡ n → new ≡ lists ++ records ∷ []
    → SpellBelow n rows lists → SpellEach n (rows_in rows n) records → SpellBelow (n + 1) rows new
below_more rows n lists new records long pushed below here = λ table low.
    elim (cases_lt table n) as (λ _. SpellEach table (rows_in rows table) (get_or new table [])) [
      | inl h ↦
          let kept : get_or new table [] ≡ get_or lists table [] = ap (λ l. get_or l table []) pushed ∙ get_before lists table records (omega arith) in
          subst (SpellEach table (rows_in rows table)) (sym kept) (below table h)
      | inr h ↦
          let same : n ≡ table = omega arith in
          let last : get_or new n [] ≡ records = ap (λ l. get_or l n []) pushed ∙ get_last lists n records long in
          subst (λ k. SpellEach k (rows_in rows k) (get_or new k [])) same (subst (SpellEach n (rows_in rows n)) (sym last) here)
    ]

-- the same of records of any rows
pub read_more : (n : ℕ) (lists new : Lists) (records : List Record) → length lists ≡ n → new ≡ lists ++ records ∷ []
    → AreReadBelow n lists → IsTableRead n records → AreReadBelow (n + 1) new
read_more n lists new records long pushed below here = λ table low. elim (cases_lt table n) as (λ _. IsTableRead table (get_or new table [])) [
  | inl h ↦
      let kept : get_or new table [] ≡ get_or lists table [] = ap (λ l. get_or l table []) pushed ∙ get_before lists table records (omega arith) in
      subst (IsTableRead table) (sym kept) (below table h)
  | inr h ↦
      let same : n ≡ table = omega arith in
      let last : get_or new n [] ≡ records = ap (λ l. get_or l n []) pushed ∙ get_last lists n records long in
      subst (λ k. IsTableRead k (get_or new k [])) same (subst (IsTableRead n) (sym last) here)
]

pub all_read : (n : ℕ) (lists : Lists) → 8 ≤ n → AreReadBelow n lists → AreRead lists
all_read n lists h below = λ table low. below table (omega arith)

pub tables_more : (held now : Option Rows) (n : ℕ) (lists new : Lists) (records : List Record) → now ≡ held → length lists ≡ n → new ≡ lists ++ records ∷ []
    → IfSome held (λ rows. SpellBelow n rows lists) → IfSome now (λ rows. SpellEach n (rows_in rows n) records)
    → IfSome held (λ rows. SpellBelow (n + 1) rows new)
tables_more None now n lists new records same long pushed below here = tt
tables_more (Some rows) now n lists new records same long pushed below here =
    below_more rows n lists new records long pushed below (subst (λ held. IfSome held (λ rows. SpellEach n (rows_in rows n) records)) same here)

pub all_tables : (held : Option Rows) (n : ℕ) (lists : Lists) → 8 ≤ n → IfSome held (λ rows. SpellBelow n rows lists)
    → IfSome held (λ rows. SpellAll rows lists)
all_tables None n lists h below = tt
all_tables (Some rows) n lists h below = λ table low. below table (omega arith)

bad_in : (rows : Rows) (n : ℕ) (lists : Lists) (fault : ReadingFault) → n < 8 → SpellBelow n rows lists
    → OnBad fault (λ t row. (t ≡ n) × IsFirstBad n (rows_in rows n) row) → IsReadingFault rows fault
bad_in rows n lists Failed own below bad = tt
bad_in rows n lists NoMemory own below bad = tt
bad_in rows n lists (Bad t row) own below bad = record {
  own = subst (λ k. k < 8) (sym bad.0) own;
  before = λ other h. all_spelled other (rows_in rows other) (get_or lists other []) (below other (subst (λ k. other < k) bad.0 h));
  here = subst (λ k. IsFirstBad k (rows_in rows k) row) (sym bad.0) bad.1;
}

pub bad_row : (held now : Option Rows) (n : ℕ) (lists : Lists) (fault : ReadingFault) → now ≡ held → n < 8 → IfSome held (λ rows. SpellBelow n rows lists)
    → IfSome now (λ rows. OnBad fault (λ t row. (t ≡ n) × IsFirstBad n (rows_in rows n) row)) → IfSome held (λ rows. IsReadingFault rows fault)
bad_row None now n lists fault same own below bad = tt
bad_row (Some rows) now n lists fault same own below bad =
    bad_in rows n lists fault own below (subst (λ held. IfSome held (λ rows. OnBad fault (λ t row. (t ≡ n) × IsFirstBad n (rows_in rows n) row))) same bad)

-- ---- the answer is one

abbrev IsOne : Type 0
IsOne = (table : ℕ) (key value : List ℕ) (r s : Record) → Spells table key value r → Spells table key value s → r ≡ s

pub each_one : IsOne → (table : ℕ) (rows : List Row) (a b : List Record) → SpellEach table rows a → SpellEach table rows b → a ≡ b
each_one one table [] [] [] h k = refl
each_one one table [] [] (s ∷ b) h k = absurd k
each_one one table [] (r ∷ a) b h k = absurd h
each_one one table (row ∷ rows) [] b h k = absurd h
each_one one table (row ∷ rows) (r ∷ a) [] h k = absurd k
each_one one table (row ∷ rows) (r ∷ a) (s ∷ b) h k =
    let first : r ≡ s = one table row.key row.value r s h.0 k.0 in
    let others : a ≡ b = each_one one table rows a b h.1 k.1 in
    cc

-- a row with others before it is one of all
is_among : (P : Row → Type 0) (front rest : List Row) (row : Row) → AllByRecursion P (front ++ row ∷ rest) → P row
is_among P [] rest row all = all.0
is_among P (x ∷ front) rest row all = is_among P front rest row all.1

none_outside : (table : ℕ) (rows : List Row) (i : ℕ) → IsFirstBad table rows i → AllByRecursion (IsSpelled table) rows → ⊥
none_outside table rows i bad all = bad.outside (is_among (IsSpelled table) bad.front bad.rest bad.bad (subst (AllByRecursion (IsSpelled table)) bad.whole all))

same_front : (P : Row → Type 0) (f g : List Row) (x y : Row) (xs ys : List Row) → f ++ x ∷ xs ≡ g ++ y ∷ ys → AllByRecursion P f → AllByRecursion P g
    → (P x → ⊥) → (P y → ⊥) → length f ≡ length g
same_front P [] [] x y xs ys same in_f in_g not_x not_y = refl
same_front P [] (b ∷ g) x y xs ys same in_f in_g not_x not_y = let e : b ≡ x = cc in absurd (not_x (subst P e in_g.0))
same_front P (a ∷ f) [] x y xs ys same in_f in_g not_x not_y = let e : a ≡ y = cc in absurd (not_y (subst P e in_f.0))
same_front P (a ∷ f) (b ∷ g) x y xs ys same in_f in_g not_x not_y =
    let tails : f ++ x ∷ xs ≡ g ++ y ∷ ys = cc in
    omega (arith, same_front P f g x y xs ys tails in_f.1 in_g.1 not_x not_y)

same_place : (table : ℕ) (rows : List Row) (i j : ℕ) → IsFirstBad table rows i → IsFirstBad table rows j → i ≡ j
same_place table rows i j a b =
    let fronts : length a.front ≡ length b.front = same_front (IsSpelled table) a.front b.front a.bad b.bad a.rest b.rest
    (sym a.whole ∙ b.whole) a.spelled b.spelled a.outside b.outside in
    a.counted ∙ ap (λ n. n + 1) fronts ∙ sym b.counted

split : (s t : ℕ) → (s < t) ⊎ ((t < s) ⊎ (s ≡ t))
split s t = elim (cases_lt s t) as (λ _. (s < t) ⊎ ((t < s) ⊎ (s ≡ t))) [
  | inl low ↦ inl low
  | inr high ↦ elim (cases_lt t s) as (λ _. (s < t) ⊎ ((t < s) ⊎ (s ≡ t))) [ inl h ↦ inr (inl h) | inr h ↦ inr (inr (omega arith)) ]
]

pub one_place : (rows : Rows) (s t i j : ℕ) → IsFirstBadRow rows s i → IsFirstBadRow rows t j → (s ≡ t) × (i ≡ j)
one_place rows s t i j a b = elim (split s t) as (λ _. (s ≡ t) × (i ≡ j)) [
  | inl low ↦ absurd (none_outside s (rows_in rows s) i a.here (b.before s low))
  | inr (inl high) ↦ absurd (none_outside t (rows_in rows t) j b.here (a.before t high))
  | inr (inr same) ↦ (same, same_place t (rows_in rows t) i j (subst (λ k. IsFirstBad k (rows_in rows k) i) same a.here) b.here)
]

pub not_both_answers : (rows : Rows) (t i : ℕ) (lists : Lists) → IsFirstBadRow rows t i → SpellAll rows lists → ⊥
not_both_answers rows t i lists bad all = none_outside t (rows_in rows t) i bad.here (all_spelled t (rows_in rows t) (get_or lists t []) (all t bad.own))
