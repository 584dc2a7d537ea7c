-- A bare store is one that nobody has opened.
use Rattle.std.proofs.Common.{◌≡◌, ℕ, zero, suc, ◌<◌, true, List, [], ◌∷◌, take, get_or, Some, None, Contains, refl, sym, subst, ◌∙◌, arith}
use Rattle.std.specs.List.{list_all}
use Rattle.std.specs.FinMap.{get-empty}
use Rattle.keeper_api.specs.Rows.{Rows}
use Rattle.module_effects.specs.Rows.{row_cmp}
use Rattle.update_records.specs.Ledger.{no_ledger, own, rows_of}
use Rattle.update_records.specs.declared.stored.Record.{Record}
use Rattle.store_reading.specs.Stores.{has_none, is_bare}
use Rattle.store_reading.specs.Told.{records_in, SpellAll}
use Rattle.store_reading.proofs.lemmas.Elements.{contains_none}
use Rattle.store_reading.proofs.lemmas.Legal.{first_true, second_true}
use Rattle.store_reading.proofs.lemmas.Members.{row_is_told}
use Rattle.store_reading.proofs.lemmas.Shelved.{shelved_rows}

none_has : (records : List Record) → has_none records ≡ true → records ≡ []
none_has [] h = refl
none_has (r ∷ records) h = cc

none_at : (lists : List (List Record)) (n table : ℕ) → list_all has_none (take n lists) ≡ true → table < n → get_or lists table [] ≡ []
none_at [] n table h low = refl
none_at (x ∷ lists) zero table h low = absurd (omega arith)
none_at (x ∷ lists) (suc n) zero h low = none_has x (first_true (has_none x) _ h)
none_at (x ∷ lists) (suc n) (suc table) h low = none_at lists n table (second_true (has_none x) _ h) (omega arith)

-- each of its tables
pub bare_table : (lists : List (List Record)) (table : ℕ) → table < 8 → is_bare lists ≡ true → records_in lists table ≡ []
bare_table lists table low none = none_at lists 8 table none low

-- a store without records has the rows of one that nobody has opened
pub bare : (rows : Rows) (records : List (List Record)) → SpellAll rows records → is_bare records ≡ true → own rows ≡ rows_of no_ledger
bare rows records all none = shelved_rows (own rows) no_ledger (record {
  books = tt;
  levels = λ name x has. let odd : None ≡ Some x = sym (get-empty row_cmp name) ∙ has in cc;
  tables = λ name x has. let odd : None ≡ Some x = sym (get-empty row_cmp name) ∙ has in cc;
  only = λ q value h.
      let told = row_is_told rows records all q value h in
      let nothing : records_in records q.0 ≡ [] = none_at records 8 q.0 none told.low in
      absurd (contains_none told.one (subst (λ rs. Contains rs told.one) nothing told.there));
})
