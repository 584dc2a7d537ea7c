-- The stored intervals of a ledger are those that the records of table 5 tell.
use Rattle.std.proofs.Common.{◌≡◌, ℕ, ⊎_elim, Bool, true, false, cond, List, [], ◌∷◌, Some, Contains, flat_map, refl, sym, ap, subst, ◌∙◌, arith}
use Rattle.std.specs.FinMap.{find, get, get-from_entries}
use Rattle.keeper_api.specs.Batch.{spot_of}
use Rattle.keeper_api.specs.Rows.{Rows}
use Rattle.keeper_api.specs.RowLaws.{value_in}
use Rattle.module_effects.specs.Rows.{RowName, row_cmp}
use Rattle.module_effects.proofs.lemmas.Tables.{rows_total, same_row, same_row-Decides}
use Rattle.update_records.specs.Ledger.{own}
use Rattle.update_records.specs.RecordRows.{Level, level_row, level_value, row_name}
use Rattle.update_records.specs.Spelling.{record_row}
use Rattle.update_records.specs.declared.stored.Record.{Record}
use Rattle.update_records.specs.declared.stored.Record.TheVariants as rec
use Rattle.store_reading.specs.Lawful.{level_in}
use Rattle.store_reading.specs.Stores.{level_entry, levels_in}
use Rattle.store_reading.specs.Told.{records_in, SpellAll}
use Rattle.store_reading.proofs.lemmas.Elements.{contains_cases, contains_here, contains_none, contains_there}
use Rattle.store_reading.proofs.lemmas.Members.{record_stands}
use Rattle.store_reading.proofs.lemmas.Shelved.{AgreesMap, IsMapped}

-- the row of a level record
record IsLevelRow (records : List Record) (name : RowName) (level : Level) : Type 0 where
  one : Record
  there : Contains records one
  row : record_row one ≡ level_row name level

later_level : (records : List Record) (name : RowName) (level : Level) (r : Record) → IsLevelRow records name level → IsLevelRow (r ∷ records) name level
later_level records name level r at = record { one = at.one; there = contains_there r records at.one at.there; row = at.row }

level_found : (records : List Record) (name : RowName) (level : Level) → find row_cmp name (flat_map level_entry records) ≡ Some level
    → IsLevelRow records name level
level_found [] name level h = cc
level_found (rec.Level object nr from to high buffered ∷ records) name level h =
    elim (same_row name (object, nr))
    as (λ b. same_row name (object, nr) ≡ b → cond b (Some (level_in from to high buffered)) (find row_cmp name (flat_map level_entry records)) ≡ Some level
    → IsLevelRow (rec.Level object nr from to high buffered ∷ records) name level) [
      | true ↦ λ is at.
          let same : name ≡ (object, nr) = (same_row-Decides name (object, nr)).0 is in
          let told : level_in from to high buffered ≡ level = cc in
          record {
            one = rec.Level object nr from to high buffered;
            there = contains_here _ records;
            row = ap (level_row (object, nr)) told ∙ ap (λ n. level_row n level) (sym same);
          }
      | false ↦ λ is at. later_level records name level _ (level_found records name level at)
    ] refl h
level_found (rec.Meta s n ∷ records) name level h = later_level records name level _ (level_found records name level h)
level_found (rec.Header u user v1 v2 locks numbers ∷ records) name level h = later_level records name level _ (level_found records name level h)
level_found (rec.Module u part count ∷ records) name level h = later_level records name level _ (level_found records name level h)
level_found (rec.Step u part index effect ∷ records) name level h = later_level records name level _ (level_found records name level h)
level_found (rec.Mark m ∷ records) name level h = later_level records name level _ (level_found records name level h)
level_found (rec.Business table key text ∷ records) name level h = later_level records name level _ (level_found records name level h)
level_found (rec.Lock u index table mode count pattern ∷ records) name level h = later_level records name level _ (level_found records name level h)

-- the rows have each interval of the records
pub levels_agree : (rows : Rows) (records : List (List Record)) → SpellAll rows records → AgreesMap (own rows) 5 level_value (levels_in (records_in records 5))
levels_agree rows records all name level has =
    let at = level_found (records_in records 5) name level (sym (get-from_entries rows_total (flat_map level_entry (records_in records 5)) name) ∙ has) in
    ap (λ c. get (own rows) (spot_of c)) (sym at.row) ∙ record_stands rows records all 5 (omega arith) at.one at.there ∙ ap value_in at.row

-- an interval of this name is found
record IsFound (records : List Record) (name : RowName) : Type 0 where
  level : Level
  found : find row_cmp name (flat_map level_entry records) ≡ Some level

found_behind : (object nr : List ℕ) (r : Record) (records : List Record) → IsFound records (object, nr) → IsFound (r ∷ records) (object, nr)
found_behind object nr (rec.Level o n from to high buffered) records at =
    elim (same_row (object, nr) (o, n)) as (λ b. same_row (object, nr) (o, n) ≡ b → IsFound (rec.Level o n from to high buffered ∷ records) (object, nr)) [
      | true ↦ λ is. record {
        level = level_in from to high buffered;
        found = ap (λ b. cond b (Some (level_in from to high buffered)) (find row_cmp (object, nr) (flat_map level_entry records))) is;
      }
      | false ↦ λ is. record {
        level = at.level;
        found = ap (λ b. cond b (Some (level_in from to high buffered)) (find row_cmp (object, nr) (flat_map level_entry records))) is ∙ at.found;
      }
    ] refl
found_behind object nr (rec.Meta s n) records at = record { level = at.level; found = at.found }
found_behind object nr (rec.Header u user v1 v2 locks numbers) records at = record { level = at.level; found = at.found }
found_behind object nr (rec.Module u part count) records at = record { level = at.level; found = at.found }
found_behind object nr (rec.Step u part index effect) records at = record { level = at.level; found = at.found }
found_behind object nr (rec.Mark m) records at = record { level = at.level; found = at.found }
found_behind object nr (rec.Business table key text) records at = record { level = at.level; found = at.found }
found_behind object nr (rec.Lock u index table mode count pattern) records at = record { level = at.level; found = at.found }

level_there : (object nr : List ℕ) (from to high : ℕ) (buffered : Bool) (records : List Record) → Contains records (rec.Level object nr from to high buffered)
    → IsFound records (object, nr)
level_there object nr from to high buffered [] h = absurd (contains_none _ h)
level_there object nr from to high buffered (r ∷ records) h = ⊎_elim
    (λ same. subst (λ x. IsFound (x ∷ records) (object, nr)) (sym same) (record {
      level = level_in from to high buffered;
      found = ap (λ b. cond b (Some (level_in from to high buffered)) (find row_cmp (object, nr) (flat_map level_entry records)))
          ((same_row-Decides (object, nr) (object, nr)).1 refl);
    }))
    (λ there. found_behind object nr r records (level_there object nr from to high buffered records there))
    (contains_cases r records (rec.Level object nr from to high buffered) h)

-- each row of an interval is that of one of the records
pub level_mapped : (records : List Record) (object nr : List ℕ) (from to high : ℕ) (buffered : Bool)
    → Contains records (rec.Level object nr from to high buffered)
    → IsMapped 5 (levels_in records) (5, row_name (object, nr))
level_mapped records object nr from to high buffered h =
    let at = level_there object nr from to high buffered records h in
    ((object, nr), at.level, get-from_entries rows_total (flat_map level_entry records) (object, nr) ∙ at.found, refl)
