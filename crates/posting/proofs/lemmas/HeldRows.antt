-- What is read from the store is what the tables of the ledger have, and what a part makes of it.
use Rattle.std.proofs.Common.{◌≡◌, ◌⊎◌, inl, inr, ℕ, cond, List, [], ◌∷◌, Option, Some, None, IfSome, IfOk, Result, Ok, Err, if◌then◌else◌, refl, sym, ap, subst, ◌∙◌}
use Rattle.std.specs.FinMap.{get}
use Rattle.std.specs.List.{AllByRecursion}
use Rattle.std.proofs.lemmas.List.Elements.{recursion_from_All}
use Rattle.keeper_api.specs.declared.rows.Change.{Change}
use Rattle.keeper_api.specs.Rows.{Spot as Place, Rows, value_at}
use Rattle.keeper_api.specs.Batch.{changed, changed_once, spot_of}
use Rattle.keeper_api.specs.RowLaws.{get_once, value_in, InTables}
use Rattle.module_effects.specs.Rows.{RowName}
use Rattle.update_records.specs.Business.{tables_of}
use Rattle.update_records.specs.Grammar.{IsUnit}
use Rattle.update_records.specs.Ledger.{Ledger, no_ledger, IsLawful, StandFor, book_rows, map_rows}
use Rattle.update_records.specs.RecordRows.{row_name}
use Rattle.ledger_steps.specs.Posts.{HoldsTables, text_at, text_in}
use Rattle.update_records.proofs.lemmas.BusinessTexts.{IsRow, business_fits}
use Rattle.record_laws.proofs.Books.{is_book_table, is_business_table, books_and_business, books_in}
use Rattle.record_laws.proofs.Apart.{not_same}
use Rattle.record_laws.proofs.Keyed.{get_business}
use Rattle.record_laws.proofs.Own.{get_own}

-- ---- the row of a name

get_past : (cs : List Change) (rows : Rows) (k : List ℕ) → InTables is_book_table cs → get (changed cs rows) (6, k) ≡ get rows (6, k)
get_past [] rows k h = refl
get_past (c ∷ cs) rows k h =
    get_past cs (changed_once c rows) k h.1 ∙ get_once c rows (6, k)
    ∙ ap (λ b. cond b (value_in c) (get rows (6, k)))
    (not_same (6, k) (spot_of c) (λ e. books_and_business (spot_of c).0 h.0 (ap (λ (p : Place). is_business_table p.0) (sym e))))

value_here : (rows : Rows) (ledger : Ledger) (name : RowName) → StandFor rows ledger
    → value_at rows 6 (row_name name) ≡ get (tables_of ledger.units ledger.marks) name
value_here rows ledger name h =
    let q : Place = (6, row_name name) in
    sym (get_own rows q) ∙ ap (λ (r : Rows). get r q) h.exact
    ∙ get_past (book_rows ledger) (map_rows ledger.levels (tables_of ledger.units ledger.marks)) (row_name name)
    (books_in is_book_table refl refl refl refl refl refl ledger)
    ∙ get_business ledger.levels (tables_of ledger.units ledger.marks) name

-- ---- all texts of the tables are texts

units_fit : (ledger : Ledger) → (ledger ≡ no_ledger) ⊎ IsLawful ledger → AllByRecursion IsUnit ledger.units
units_fit ledger known = elim known [
  | inl none ↦ subst (λ (l : Ledger). AllByRecursion IsUnit l.units) (sym none) tt
  | inr law ↦ recursion_from_All IsUnit ledger.units law.units
]

still_text : (name : RowName) (o : Option (List ℕ)) → IfSome o (IsRow name) → text_in o ≡ o
still_text name None h = refl
still_text name (Some text) h = ap (λ b. if b then Some text else None) h.spelt

-- the store has the tables of its ledger
pub holds : (rows : Rows) (ledger : Ledger) → StandFor rows ledger → HoldsTables rows (tables_of ledger.units ledger.marks)
holds rows ledger h name =
    ap text_in (value_here rows ledger name h) ∙ still_text name _ (business_fits ledger.units ledger.marks (units_fit ledger h.lawful) name)

-- what is read is what the tables have
read_is : (held : Option Rows) (ledger : Ledger) (name : RowName) (text : Option (List ℕ)) → IfSome held (λ rows. StandFor rows ledger)
    → IfSome held (λ rows. text ≡ text_at rows name) → IfSome held (λ _. text ≡ get (tables_of ledger.units ledger.marks) name)
read_is None ledger name text h is = tt
read_is (Some rows) ledger name text h is = is ∙ holds rows ledger h name

pub all_read : {E : Type 0} (r : Result (Option (List ℕ)) E) (held : Option Rows) (ledger : Ledger) (name : RowName)
    → IfSome held (λ rows. StandFor rows ledger) → IfOk r (λ text. IfSome held (λ rows. text ≡ text_at rows name))
    → IfOk r (λ text. IfSome held (λ _. text ≡ get (tables_of ledger.units ledger.marks) name))
all_read (Ok text) held ledger name h is = read_is held ledger name text h is
all_read (Err e) held ledger name h is = tt
