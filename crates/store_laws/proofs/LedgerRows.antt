-- The rows of a lawful ledger are those of its records, and a store with these rows has no other record.
use Rattle.std.proofs.Common.{◌≡◌, ℕ, ◌<◌, ◌⊎◌, inl, inr, ⊎_elim, Bool, true, false, cond, List, [], ◌∷◌, Option, Some, None, Contains, refl, sym, ap, subst, ◌∙◌}
use Rattle.std.specs.Option.{option_map}
use Rattle.std.specs.Ordering.{eq_by_cmp}
use Rattle.std.specs.Str.{bytes_eq}
use Rattle.std.specs.FinMap.{FinMap, empty, get, get-empty}
use Rattle.std.proofs.lemmas.Bool.{and_from, false_from_ne_true, lt-ltb}
use Rattle.std.proofs.lemmas.List.Elements.{Contains-append_right}
use Rattle.std.proofs.lemmas.Map.Keys.{IsDistinct-head, IsDistinct-tail}
use Rattle.std.specs.Prelude.{nat_lt}
use Rattle.keeper_api.specs.declared.rows.Change.{Change}
use Rattle.keeper_api.specs.declared.rows.Change.TheVariants.{Put, Del}
use Rattle.keeper_api.specs.declared.rows.Row.{Row}
use Rattle.keeper_api.specs.Batch.{spot_of, changed, changed_once, is_same_spot}
use Rattle.keeper_api.specs.Rows.{Spot, spot_cmp, Rows, RiseFrom, is_below}
use Rattle.keeper_api.specs.RowLaws.{get_once, same_spot, value_in, InTables}
use Rattle.lock_entry.proofs.lemmas.Naming.{bytes_eq-refl, bytes_eq-same}
use Rattle.module_effects.specs.Rows.{RowName, row_cmp}
use Rattle.update_records.specs.Business.{tables_of}
use Rattle.update_records.specs.Ledger.{Ledger, IsGood, IsLawful, StandFor, no_ledger, book_rows, has_bytes, map_rows, own, rows_of, with_map}
use Rattle.update_records.specs.RecordRows.{level_value, row_name}
use Rattle.update_records.specs.Spelling.{IsRecord, Spells, record_row}
use Rattle.update_records.specs.declared.stored.Record.{Record}
use Rattle.update_records.specs.declared.stored.Record.TheVariants as rec
use Rattle.record_laws.proofs.Books.{books_in, is_book_table}
use Rattle.update_records.proofs.lemmas.Distinct.{AreDistinct, IsApart, not_same, spots}
use Rattle.record_laws.proofs.Keyed.{get_business, get_map, is_named, spot-Decides, unname, unname_name}
use Rattle.record_laws.proofs.Own.{get_own}
use Rattle.update_records.proofs.lemmas.TableLaws.{one_record}
use Rattle.table_reading.specs.Tables.{rows_in}
use Rattle.store_reading.specs.Told.{records_in, IsFirstBad, IsFirstBadRow, IsSpelled, SpellAll}
use Rattle.store_reading.proofs.lemmas.Elements.{contains_cases, contains_here, contains_map, contains_none, contains_there, of_map}
use Rattle.store_laws.proofs.LedgerRecords.{book_distinct, book_is, book_records, level_record, told_fits, IsToldBy}
use Rattle.store_reading.proofs.lemmas.Members.{get_in_table, grammar_of, record_stands, row_is_told, value_of}
use Rattle.table_reading.proofs.lemmas.Pages.{below_trans, not_below_itself, rows_rise}
use Rattle.store_reading.proofs.lemmas.Shelved.{named_here, named_spot, or_else}

-- ---- what stands after changes

-- a change of the batch left it, or it stood before
changed_cases : (batch : List Change) (base : Rows) (q : Spot) (v : List ℕ) → get (changed batch base) q ≡ Some v
    → ((c : Change) × Contains batch c × (spot_of c ≡ q) × (value_in c ≡ Some v)) ⊎ (get base q ≡ Some v)
changed_cases [] base q v h = inr h
changed_cases (c ∷ batch) base q v h = ⊎_elim
    (λ at. inl (at.0, contains_there c batch at.0 at.1, at.2, at.3))
    (λ before.
    elim (eq_by_cmp spot_cmp q (spot_of c)) as (λ b. eq_by_cmp spot_cmp q (spot_of c) ≡ b → cond b (value_in c) (get base q) ≡ Some v
    → ((d : Change) × Contains (c ∷ batch) d × (spot_of d ≡ q) × (value_in d ≡ Some v)) ⊎ (get base q ≡ Some v)) [
      | true ↦ λ is at. inl (c, contains_here c batch, sym (same_spot q (spot_of c) is), at)
      | false ↦ λ is at. inr at
    ] refl (sym (get_once c base q) ∙ before))
    (changed_cases batch (changed_once c base) q v h)

still : (batch : List Change) (base : Rows) (q : Spot) → IsApart q batch → get (changed batch base) q ≡ get base q
still [] base q apart = refl
still (c ∷ batch) base q apart = still batch (changed_once c base) q apart.1 ∙ get_once c base q ∙ ap (λ b. cond b (value_in c) (get base q)) apart.0

here_after : (c : Change) (base : Rows) → get (changed_once c base) (spot_of c) ≡ value_in c
here_after c base = get_once c base (spot_of c) ∙ ap (λ b. cond b (value_in c) (get base (spot_of c))) ((spot-Decides (spot_of c) (spot_of c)).1 refl)

-- where no row is changed twice each change leaves what it leaves
settled : (batch : List Change) (base : Rows) (c : Change) → AreDistinct batch → Contains batch c → get (changed batch base) (spot_of c) ≡ value_in c
settled [] base c distinct h = absurd (contains_none c h)
settled (d ∷ batch) base c distinct h = ⊎_elim
    (λ e. subst (λ x. get (changed (d ∷ batch) base) (spot_of x) ≡ value_in x) e
    (still batch (changed_once d base) (spot_of d) (IsDistinct-head is_same_spot (spot_of d) (spots batch) distinct) ∙ here_after d base))
    (λ there. settled batch (changed_once d base) c (IsDistinct-tail is_same_spot (spot_of d) (spots batch) distinct) there)
    (contains_cases d batch c h)

pub past : (p : ℕ → Bool) (batch : List Change) (base : Rows) (q : Spot) → InTables p batch → p q.0 ≡ false → get (changed batch base) q ≡ get base q
past p [] base q inside out = refl
past p (c ∷ batch) base q inside out =
    past p batch (changed_once c base) q inside.1 out
    ∙ get_once c base q
    ∙ ap (λ b. cond b (value_in c) (get base q))
    (not_same q (spot_of c) (λ same. let odd : true ≡ false = sym inside.0 ∙ ap (λ (s : Spot). p s.0) (sym same) ∙ out in cc))

-- ---- what stands in the rows of a map

laid_back : {X : Type 0} (b : Bool) (write : X → List ℕ) (o : Option X) (base : Option (List ℕ)) (v : List ℕ) (R : Type 0)
    → (b ≡ true → (x : X) → o ≡ Some x → write x ≡ v → R) → (base ≡ Some v → R) → cond b (or_else (option_map write o) base) base ≡ Some v → R
laid_back true write None base v R here there h = there h
laid_back true write (Some x) base v R here there h = let is : write x ≡ v = cc in here refl x refl is
laid_back false write o base v R here there h = there h

-- a row of the map, or one below
map_cases : {X : Type 0} (table : ℕ) (write : X → List ℕ) (xs : FinMap row_cmp X) (base : Rows) (q : Spot) (v : List ℕ)
    → get (with_map table write xs base) q ≡ Some v
    → ((name : RowName) × (x : X) × (get xs name ≡ Some x) × ((table, row_name name) ≡ q) × (write x ≡ v)) ⊎ (get base q ≡ Some v)
map_cases {X} table write xs base q v h =
    laid_back (is_named table q) write (get xs (unname q.1)) (get base q) v
    (((name : RowName) × (x : X) × (get xs name ≡ Some x) × ((table, row_name name) ≡ q) × (write x ≡ v)) ⊎ (get base q ≡ Some v))
    (λ named x has is. inl (unname q.1, x, has, named_spot table q named, is))
    (λ below. inr below)
    (sym (get_map table write xs base q) ∙ h)

map_has : {X : Type 0} (table : ℕ) (write : X → List ℕ) (xs : FinMap row_cmp X) (base : Rows) (name : RowName) (x : X) → get xs name ≡ Some x
    → get (with_map table write xs base) (table, row_name name) ≡ Some (write x)
map_has table write xs base name x has =
    let q : Spot = (table, row_name name) in
    get_map table write xs base q
    ∙ ap (λ b. cond b (or_else (option_map write (get xs (unname (row_name name)))) (get base q)) (get base q)) (named_here table name)
    ∙ ap (λ n. or_else (option_map write (get xs n)) (get base q)) (unname_name name)
    ∙ ap (λ o. or_else (option_map write o) (get base q)) has

-- ---- the rows of a ledger

-- a record of the ledger whose row is this
pub record IsRowOf (ledger : Ledger) (q : Spot) (v : List ℕ) : Type 0 where
  pub one : Record
  pub told : IsToldBy ledger one
  pub spot : spot_of (record_row one) ≡ q
  pub value : value_in (record_row one) ≡ Some v

pub row_told : (ledger : Ledger) → IsLawful ledger → (q : Spot) (v : List ℕ) → get (rows_of ledger) q ≡ Some v → IsRowOf ledger q v
row_told ledger law q v h =
    let tables = tables_of ledger.units ledger.marks in
    ⊎_elim
    (λ at.
    let r = of_map record_row (book_records ledger) at.0 (subst (λ (rows : List Change). Contains rows at.0) (sym (book_is ledger law.started)) at.1) in
    record { one = r.0; told = inl r.1; spot = ap spot_of r.2 ∙ at.2; value = ap value_in r.2 ∙ at.3 })
    (λ below. ⊎_elim
    (λ at. record {
      one = level_record at.0 at.1;
      told = inr (inl (record { name = at.0; level = at.1; stored = at.2; is = refl }));
      spot = at.3;
      value = ap (λ (x : List ℕ). Some x) at.4;
    })
    (λ lower. ⊎_elim
    (λ at. record {
      one = rec.Business at.0.0 at.0.1 at.1;
      told = inr (inr (record { name = at.0; text = at.1; stored = at.2; is = refl }));
      spot = at.3;
      value = ap (λ (x : List ℕ). Some x) at.4;
    })
    (λ none. let odd : None ≡ Some v = sym (get-empty spot_cmp q) ∙ none in cc)
    (map_cases 6 (λ (text : List ℕ). text) tables empty q v lower))
    (map_cases 5 level_value ledger.levels (with_map 6 (λ (text : List ℕ). text) tables empty) q v below))
    (changed_cases (book_rows ledger) (map_rows ledger.levels tables) q v h)

pub told_row : (ledger : Ledger) → IsLawful ledger → (r : Record) → IsToldBy ledger r → get (rows_of ledger) (spot_of (record_row r)) ≡ value_in (record_row r)
told_row ledger law r told =
    let tables = tables_of ledger.units ledger.marks in
    let base = map_rows ledger.levels tables in
    let inside = books_in is_book_table refl refl refl refl refl refl ledger in
    ⊎_elim
    (λ at. settled (book_rows ledger) base (record_row r) (book_distinct ledger law)
    (subst (λ (rows : List Change). Contains rows (record_row r)) (book_is ledger law.started) (contains_map record_row (book_records ledger) r at)))
    (λ maps. ⊎_elim
    (λ at. subst (λ (x : Record). get (rows_of ledger) (spot_of (record_row x)) ≡ value_in (record_row x)) at.is
    (past is_book_table (book_rows ledger) base (5, row_name at.name) inside refl
    ∙ map_has 5 level_value ledger.levels (with_map 6 (λ (text : List ℕ). text) tables empty) at.name at.level at.stored))
    (λ at. subst (λ (x : Record). get (rows_of ledger) (spot_of (record_row x)) ≡ value_in (record_row x)) at.is
    (past is_book_table (book_rows ledger) base (6, row_name at.name) inside refl ∙ get_business ledger.levels tables at.name ∙ at.stored))
    maps)
    told

-- ---- a store with these rows

-- the value of a record's row
pub value_there : (r : Record) → (v : List ℕ) × (value_in (record_row r) ≡ Some v)
value_there (rec.Meta s n) = (_, refl)
value_there (rec.Header u user v1 v2 locks numbers) = (_, refl)
value_there (rec.Module u part count) = (_, refl)
value_there (rec.Step u part index effect) = (_, refl)
value_there (rec.Mark m) = (_, refl)
value_there (rec.Level object nr from to level buffered) = (_, refl)
value_there (rec.Business table key text) = (_, refl)
value_there (rec.Lock u index table mode count pattern) = (_, refl)

is_put : (c : Change) (q : Spot) (v : List ℕ) → spot_of c ≡ q → value_in c ≡ Some v → c ≡ Put q.0 q.1 v
is_put (Put table key value) q v spot is = let same : value ≡ v = cc in λ i. Put (spot i).0 (spot i).1 (same i)
is_put (Del table key) q v spot is = cc

spells_row : (r : Record) (q : Spot) (v : List ℕ) → IsRecord r → spot_of (record_row r) ≡ q → value_in (record_row r) ≡ Some v → Spells q.0 q.1 v r
spells_row r q v grammar spot value = record { grammar = grammar; spelled = is_put (record_row r) q v spot value }

module _ (rows : Rows) (ledger : Ledger) (law : IsLawful ledger) (exact : own rows ≡ rows_of ledger) where
  pub row_of_ledger : (q : Spot) (v : List ℕ) → get (own rows) q ≡ Some v → (r : Record) × IsToldBy ledger r × Spells q.0 q.1 v r
  row_of_ledger q v h =
      let at = row_told ledger law q v (subst (λ (rs : Rows). get rs q ≡ Some v) exact h) in
      (at.one, at.told, spells_row at.one q v (told_fits ledger law at.one at.told) at.spot at.value)

  -- each record of the store is one of the ledger
  pub contained_told : (records : List (List Record)) → SpellAll rows records → (table : ℕ) → table < 8 → (r : Record) → Contains (records_in records table) r
      → IsToldBy ledger r
  contained_told records all table low r h =
      let q = spot_of (record_row r) in
      let v = value_there r in
      let at = row_of_ledger q v.0 (record_stands rows records all table low r h ∙ v.1) in
      subst (IsToldBy ledger) (one_record q.0 q.1 v.0 at.0 r at.2 (spells_row r q v.0 (grammar_of rows records all table low r h) refl v.1)) at.1

  -- each record of the ledger is one of the store
  pub told_contained : (records : List (List Record)) → SpellAll rows records → (r : Record) → IsToldBy ledger r
      → Contains (records_in records (spot_of (record_row r)).0) r
  told_contained records all r told =
      let q = spot_of (record_row r) in
      let v = value_there r in
      let at = row_is_told rows records all q v.0 (subst (λ (rs : Rows). get rs q ≡ Some v.0) (sym exact) (told_row ledger law r told ∙ v.1)) in
      subst (Contains (records_in records q.0)) (one_record q.0 q.1 v.0 at.one r at.spells (spells_row r q v.0 (told_fits ledger law r told) refl v.1)) at.there

-- ---- no row is outside the grammar

not_same_key : (a b : List ℕ) → is_below b a ≡ true → bytes_eq a b ≡ false
not_same_key a b below = false_from_ne_true (bytes_eq a b) (λ same.
    let itself : is_below b b ≡ true = subst (λ k. is_below b k ≡ true) (bytes_eq-same a b same) below in
    let odd : true ≡ false = sym itself ∙ not_below_itself b in cc)

-- of rows whose keys rise each is the one with its key
pub value_here : (low : List ℕ) (rows : List Row) (row : Row) → RiseFrom low rows → Contains rows row → (value_of row.key rows ≡ Some row.value)
    × (is_below low row.key ≡ true)
value_here low [] row rise h = absurd (contains_none row h)
value_here low (x ∷ rows) row rise h = ⊎_elim
    (λ e. subst (λ (z : Row). (value_of z.key (x ∷ rows) ≡ Some z.value) × (is_below low z.key ≡ true)) e
    (ap (λ b. cond b (Some x.value) (value_of x.key rows)) (bytes_eq-refl x.key), rise.0))
    (λ there.
    let rest = value_here x.key rows row rise.1 there in
    (ap (λ b. cond b (Some x.value) (value_of row.key rows)) (not_same_key row.key x.key rest.1) ∙ rest.0, below_trans low x.key row.key rise.0 rest.1))
    (contains_cases x rows row h)

pub some_bytes : (key : List ℕ) → is_below [] key ≡ true → has_bytes key ≡ true
some_bytes [] h = cc
some_bytes (b ∷ bs) h = refl

pub row_stands : (rows : Rows) (table : ℕ) (row : Row) → table < 8 → Contains (rows_in rows table) row → get (own rows) (table, row.key) ≡ Some row.value
row_stands rows table row low h =
    let at = value_here [] (rows_in rows table) row (rows_rise rows table) h in
    let bytes = some_bytes row.key at.1 in
    get_own rows (table, row.key)
    ∙ ap (λ b. cond b (get rows (table, row.key)) None) (and_from (nat_lt table 8) (has_bytes row.key) (lt-ltb table 8 low) bytes)
    ∙ get_in_table rows table row.key bytes
    ∙ at.0

bad_there : (table : ℕ) (rows : List Row) (place : ℕ) (bad : IsFirstBad table rows place) → Contains rows bad.bad
bad_there table rows place bad = subst (λ (xs : List Row). Contains xs bad.bad) (sym bad.whole)
    (Contains-append_right bad.front (bad.bad ∷ bad.rest) bad.bad (contains_here bad.bad bad.rest))

nothing : {X : Type 0} (name : RowName) (x : X) → get {R = row_cmp} empty name ≡ Some x → ⊥
nothing name x has = let odd : None ≡ Some x = sym (get-empty row_cmp name) ∙ has in cc

pub none_held : (q : Spot) (v : List ℕ) → get (rows_of no_ledger) q ≡ Some v → ⊥
none_held q v h =
    ⊎_elim
    (λ at. nothing at.0 at.1 at.2)
    (λ lower. ⊎_elim
    (λ at. nothing at.0 at.1 at.2)
    (λ none. let odd : None ≡ Some v = sym (get-empty spot_cmp q) ∙ none in cc)
    (map_cases 6 (λ (text : List ℕ). text) empty empty q v lower))
    (map_cases 5 level_value empty (with_map 6 (λ (text : List ℕ). text) empty empty) q v h)

all_spelled : (rows : Rows) (ledger : Ledger) → StandFor rows ledger → (table : ℕ) (row : Row) → table < 8 → Contains (rows_in rows table) row
    → IsSpelled table row
all_spelled rows ledger stand table row low h =
    let held = row_stands rows table row low h in
    ⊎_elim
    (λ none. absurd (none_held (table, row.key) row.value
    (subst (λ (l : Ledger). get (rows_of l) (table, row.key) ≡ Some row.value) none
    (subst (λ (rs : Rows). get rs (table, row.key) ≡ Some row.value) stand.exact held))))
    (λ law. let at = row_of_ledger rows ledger law stand.exact (table, row.key) row.value held in (at.0, at.2))
    stand.lawful

-- each row of a good store is in the grammar
pub good_rows_spelled : (rows : Rows) → IsGood rows → (table row : ℕ) → IsFirstBadRow rows table row → ⊥
good_rows_spelled rows good table row bad =
    bad.here.outside (all_spelled rows good.0 good.1 table bad.here.bad bad.own (bad_there table (rows_in rows table) row bad.here))
