-- Records that are read row by row.
use Rattle.std.proofs.Common.{◌≡◌, ℕ, suc, ◌+◌, ◌<◌, ◌≤◌, List, [], ◌∷◌, ◌++◌, length, take, drop, get_or, sym, ap, subst, ◌∙◌, arith}
use Rattle.std.proofs.lemmas.List.{take-append-drop, take_all, take_more, length-take}
use Rattle.std.proofs.Math.Seq.{drop-cons}
use Rattle.std.specs.List.{AllByRecursion}
use Rattle.keeper_api.specs.declared.rows.Row.{Row}
use Rattle.update_records.specs.Spelling.{Spells}
use Rattle.update_records.specs.declared.stored.Record.{Record}
use Rattle.store_reading.specs.Told.{IsSpelled, IsFirstBad, SpellEach}

spell_push : (table : ℕ) (rows : List Row) (records : List Record) (row : Row) (r : Record) → SpellEach table rows records → Spells table row.key row.value r
    → SpellEach table (rows ++ row ∷ []) (records ++ r ∷ [])
spell_push table [] [] row r each here = (here, tt)
spell_push table [] (s ∷ records) row r each here = absurd each
spell_push table (x ∷ rows) [] row r each here = absurd each
spell_push table (x ∷ rows) (s ∷ records) row r each here = (each.0, spell_push table rows records row r each.1 here)

pub spell_more : (table : ℕ) (rows : List Row) (i : ℕ) (row : Row) (records new : List Record) (r : Record) → i < length rows → row ≡ get_or rows i row
    → Spells table row.key row.value r → new ≡ records ++ r ∷ [] → SpellEach table (take i rows) records → SpellEach table (take (i + 1) rows) new
spell_more table rows i row records new r h is here pushed each =
    let front : take i rows ++ row ∷ [] ≡ take (i + 1) rows = ap (λ x. take i rows ++ x ∷ []) is ∙ sym (take_more rows i row h) in
    subst (λ xs. SpellEach table xs new) front
    (subst (SpellEach table (take i rows ++ row ∷ [])) (sym pushed) (spell_push table (take i rows) records row r each here))

pub spell_all : (table : ℕ) (rows : List Row) (i : ℕ) (records : List Record) → length rows ≤ i → SpellEach table (take i rows) records
    → SpellEach table rows records
spell_all table rows i records end each = subst (λ xs. SpellEach table xs records) (take_all i rows end) each

pub all_spelled : (table : ℕ) (rows : List Row) (records : List Record) → SpellEach table rows records → AllByRecursion (IsSpelled table) rows
all_spelled table [] records each = tt
all_spelled table (row ∷ rows) [] each = absurd each
all_spelled table (row ∷ rows) (r ∷ records) each = ((r, each.0), all_spelled table rows records each.1)

pub first_bad : (table : ℕ) (rows : List Row) (i place : ℕ) (row : Row) (records : List Record) → i < length rows → row ≡ get_or rows i row → place ≡ i + 1
    → ((r : Record) → Spells table row.key row.value r → ⊥) → SpellEach table (take i rows) records → IsFirstBad table rows place
first_bad table rows i place row records h is at none each = record {
  front = take i rows;
  bad = row;
  rest = drop (suc i) rows;
  whole = sym (take-append-drop i rows) ∙ ap (take i rows ++◌) (drop-cons rows i row h ∙ ap (λ x. x ∷ drop (suc i) rows) (sym is));
  spelled = all_spelled table (take i rows) records each;
  outside = λ s. none s.0 s.1;
  counted = omega (arith, length-take i rows);
}
