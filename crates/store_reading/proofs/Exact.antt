-- Rows that spell records without a wrong place are those of the ledger that the records spell.
use Rattle.std.proofs.Common.{◌≡◌, ◌+◌, ◌⊎◌, inl, inr, Bool, true, false, List, [], length, Option, Some, None, Contains, if◌then◌else◌, refl, sym, ap, subst, ◌∙◌}
use Rattle.std.specs.List.{AllByRecursion}
use Rattle.std.specs.Option.{option_or}
use Rattle.keeper_api.specs.declared.rows.Change.{Change}
use Rattle.keeper_api.specs.Batch.{spot_of}
use Rattle.keeper_api.specs.Rows.{Spot, Rows}
use Rattle.module_effects.specs.Rows.{Tables}
use Rattle.update_records.specs.Business.{tables_of}
use Rattle.update_records.specs.Ledger.{IsLawful, StandFor, no_ledger, own, rows_of}
use Rattle.update_records.specs.Spelling.{record_row}
use Rattle.update_records.specs.declared.stored.Record.{Record}
use Rattle.update_records.specs.declared.stored.Record.TheVariants as rec
use Rattle.store_reading.specs.First.{AreRight}
use Rattle.store_reading.specs.Posts.{difference_from, rows_for, tables_by}
use Rattle.store_reading.specs.Rules.{has_meta, has_number, marks_in}
use Rattle.store_reading.specs.Stores.{is_bare, ledger_in, levels_in, rule_fault, store_fault, units_in}
use Rattle.store_reading.specs.Told.{records_in, SpellAll}
use Rattle.store_reading.specs.declared.rules.Place.{Place}
use Rattle.store_reading.proofs.Bare.{bare}
use Rattle.store_reading.proofs.lemmas.BooksStand.{told_ledger, told_rows, AreUnits, books_agree, books_told, mark_booked, meta_booked, unit_booked}
use Rattle.store_reading.proofs.lemmas.Followings.{tables_follow}
use Rattle.store_reading.proofs.lemmas.Legal.{all_right, first_none}
use Rattle.store_reading.proofs.LevelsStand.{level_mapped, levels_agree}
use Rattle.store_reading.proofs.lemmas.Members.{row_is_told}
use Rattle.store_reading.proofs.lemmas.Shelved.{Agrees, AreShelved, IsBooked, IsMapped, shelved_rows}
use Rattle.store_reading.proofs.TablesStand.{business_mapped, tables_agree}

-- ---- what it says that no rule is broken

pub second_none : (a b : Option Place) → option_or a b ≡ None → b ≡ None
second_none None b h = h
second_none (Some place) b h = cc

holds_of : (b : Bool) (place : Place) → (if b then None else Some place) ≡ None → b ≡ true
holds_of true place h = refl
holds_of false place h = cc

-- the rules that the rows of a ledger rest on
pub record AreKept (records : List (List Record)) : Type 0 where
  pub meta : has_meta (records_in records 0) (length (records_in records 4)) ≡ true
  pub numbered : AreRight (λ before. has_number (length before + 1)) [] (records_in records 4)
  pub business : difference_from 1 (rows_for (tables_by (records_in records 3) (records_in records 4))) (records_in records 6) ≡ None

pub kept_rules : (records : List (List Record)) → rule_fault records ≡ None → AreKept records
kept_rules records h =
    let posts = first_none _ _ h in
    let units = first_none _ _ posts in
    let marks = first_none _ _ units in
    let numbers = first_none _ _ marks in
    record {
      meta = holds_of (has_meta (records_in records 0) (length (records_in records 4))) _ (first_none _ _ numbers);
      numbered = all_right (λ before. has_number (length before + 1)) 4 [] (records_in records 4) (second_none _ _ numbers);
      business = second_none _ _ (second_none _ _ posts);
    }

-- ---- each row of the store is one of the ledger

-- the row at the spot is one of the ledger
abbrev IsLedgerRow : List (List Record) → Tables → Spot → Type 0
IsLedgerRow records tables q = IsBooked (told_rows records) q ⊎ (IsMapped 5 (levels_in (records_in records 5)) q ⊎ IsMapped 6 tables q)

in_table : (records : List (List Record)) (r : Record) (q : Spot) → spot_of (record_row r) ≡ q → Contains (records_in records q.0) r
    → Contains (records_in records (spot_of (record_row r)).0) r
in_table records r q spot h = subst (λ s. Contains (records_in records s.0) r) (sym spot) h

one_told : (rows : Rows) (records : List (List Record)) (tables : Tables) → SpellAll rows records → AreUnits records
    → difference_from 1 (rows_for tables) (records_in records 6) ≡ None
    → (r : Record) (q : Spot) → spot_of (record_row r) ≡ q → Contains (records_in records (spot_of (record_row r)).0) r → IsLedgerRow records tables q
one_told rows records tables all units none (rec.Meta s n) q spot h = inl (record_row (rec.Meta s n), meta_booked records _ h, spot)
one_told rows records tables all units none (rec.Header u user v1 v2 locks numbers) q spot h =
    inl (record_row (rec.Header u user v1 v2 locks numbers), unit_booked records _ (units.headers _ h), spot)
one_told rows records tables all units none (rec.Module u part count) q spot h =
    inl (record_row (rec.Module u part count), unit_booked records _ (units.modules _ h), spot)
one_told rows records tables all units none (rec.Step u part index effect) q spot h =
    inl (record_row (rec.Step u part index effect), unit_booked records _ (units.steps _ h), spot)
one_told rows records tables all units none (rec.Mark m) q spot h = inl (record_row (rec.Mark m), mark_booked records _ h, spot)
one_told rows records tables all units none (rec.Level object nr from to level buffered) q spot h =
    inr (inl (subst (IsMapped 5 (levels_in (records_in records 5))) spot (level_mapped (records_in records 5) object nr from to level buffered h)))
one_told rows records tables all units none (rec.Business table key text) q spot h =
    inr (inr (subst (IsMapped 6 tables) spot (business_mapped rows records tables all none table key text h)))
one_told rows records tables all units none (rec.Lock u index table mode count pattern) q spot h =
    inl (record_row (rec.Lock u index table mode count pattern), unit_booked records _ (units.locks _ h), spot)

-- ---- the ledger

pub ledger_told : (records : List (List Record)) → is_bare records ≡ false → ledger_in records ≡ told_ledger records
ledger_told records some = ap (λ b. if b then no_ledger else told_ledger records) some

shelved : (rows : Rows) (records : List (List Record)) → SpellAll rows records → AreUnits records → AreKept records
    → AreShelved (own rows) (told_ledger records)
shelved rows records all units kept =
    let tables = tables_of (units_in records) (marks_in (records_in records 4)) in
    let same : tables_by (records_in records 3) (records_in records 4) ≡ tables =
    tables_follow (records_in records 3) (units_in records) units.effects (records_in records 4) in
    let none : difference_from 1 (rows_for tables) (records_in records 6) ≡ None =
    subst (λ (t : Tables). difference_from 1 (rows_for t) (records_in records 6) ≡ None) same kept.business in
    let books = books_told records kept.meta kept.numbered in
    record {
      books = subst (AllByRecursion (Agrees (own rows))) (sym books) (books_agree rows records all units);
      levels = levels_agree rows records all;
      tables = tables_agree rows records tables all none;
      only = λ q value h.
          let told = row_is_told rows records all q value h in
          let spot : spot_of (record_row told.one) ≡ q = ap spot_of told.spells.spelled in
          subst (λ (batch : List Change). IsBooked batch q ⊎ (IsMapped 5 (levels_in (records_in records 5)) q ⊎ IsMapped 6 tables q)) (sym books)
          (one_told rows records tables all units none told.one q spot (in_table records told.one q spot told.there));
    }

-- rows that break no rule are those of the ledger that their records spell
pub exact : (rows : Rows) (records : List (List Record)) → SpellAll rows records → is_bare records ≡ false → AreUnits records → rule_fault records ≡ None
    → own rows ≡ rows_of (ledger_in records)
exact rows records all some units none =
    shelved_rows (own rows) (told_ledger records) (shelved rows records all units (kept_rules records none)) ∙ ap rows_of (sym (ledger_told records some))

-- ---- a store that breaks no rule

pub ledger_bare : (records : List (List Record)) → is_bare records ≡ true → ledger_in records ≡ no_ledger
ledger_bare records none = ap (λ b. if b then no_ledger else told_ledger records) none

-- what is still asked of records that break no rule
pub record AreLawful (records : List (List Record)) : Type 0 where
  pub units : AreUnits records
  pub lawful : IsLawful (ledger_in records)

-- the rows of a store that breaks no rule stand for the ledger that its records spell
pub stand_for : (rows : Rows) (records : List (List Record)) → SpellAll rows records → store_fault records ≡ None
    → (is_bare records ≡ false → rule_fault records ≡ None → AreLawful records)
    → StandFor rows (ledger_in records)
stand_for rows records all none right =
    elim (is_bare records) as (λ b. is_bare records ≡ b → (if b then None else rule_fault records) ≡ None → StandFor rows (ledger_in records)) [
      | true ↦ λ is kept. record { exact = bare rows records all is ∙ ap rows_of (sym (ledger_bare records is)); lawful = inl (ledger_bare records is) }
      | false ↦ λ is kept.
          let laws = right is kept in
          record { exact = exact rows records all is laws.units kept; lawful = inr laws.lawful }
    ] refl none
