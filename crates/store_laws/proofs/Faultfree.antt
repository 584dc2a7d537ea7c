-- A good store breaks no rule.
use Rattle.std.proofs.Common.{◌≡◌, ℕ, zero, suc, ◌<◌, ⊎_elim, Bool, true, false, ◌&&◌, List, [], ◌∷◌, take, get_or, Option, Some, None, if◌then◌else◌, Contains, refl, sym, ap, subst, ◌∙◌, arith}
use Rattle.std.specs.FinMap.{get}
use Rattle.std.specs.List.{list_all}
use Rattle.keeper_api.specs.Batch.{spot_of}
use Rattle.keeper_api.specs.Rows.{Rows}
use Rattle.module_effects.specs.Rows.{Tables}
use Rattle.update_records.specs.Business.{tables_of}
use Rattle.update_records.specs.Ledger.{Ledger, IsGood, IsLawful, no_ledger, own, rows_of}
use Rattle.update_records.specs.Spelling.{record_row}
use Rattle.update_records.specs.declared.stored.Record.{Record}
use Rattle.store_reading.specs.Posts.{difference_from, rows_for, tables_by}
use Rattle.store_reading.specs.Rules.{marks_in}
use Rattle.store_reading.specs.Stores.{has_none, is_bare, rule_fault, store_fault}
use Rattle.store_reading.specs.Told.{records_in, SpellAll, SpellEach}
use Rattle.store_reading.specs.declared.rules.Place.{Place}
use Rattle.store_reading.proofs.lemmas.Elements.{contains_here}
use Rattle.store_reading.proofs.lemmas.Followings.{tables_follow}
use Rattle.store_laws.proofs.GoodBusiness.{business_rows_are, no_difference}
use Rattle.store_laws.proofs.GoodLevels.{levels_right}
use Rattle.store_laws.proofs.GoodMarks.{marks_right, numbers_right, posts_right, start_right}
use Rattle.store_laws.proofs.GoodRecords.{have_effects, mark_table}
use Rattle.store_laws.proofs.GoodTables.{are_records, AreRecordsOf}
use Rattle.store_laws.proofs.GoodUnits.{marks_back, no_place, units_right}
use Rattle.store_laws.proofs.LedgerRows.{none_held, value_there}
use Rattle.store_reading.proofs.lemmas.Members.{record_stands}

-- ---- a store that nobody has opened

no_records : (records : List Record) → ((r : Record) → Contains records r → ⊥) → records ≡ []
no_records [] none = refl
no_records (r ∷ records) none = absurd (none r (contains_here r records))

bare_front : (n : ℕ) (lists : List (List Record)) → ((table : ℕ) → table < n → get_or lists table [] ≡ []) → list_all has_none (take n lists) ≡ true
bare_front zero lists none = refl
bare_front (suc n) [] none = refl
bare_front (suc n) (records ∷ lists) none =
    ap (λ (rs : List Record). has_none rs && list_all has_none (take n lists)) (none 0 (omega arith))
    ∙ bare_front n lists (λ table low. none (suc table) (omega arith))

bare_records : (rows : Rows) (records : List (List Record)) → own rows ≡ rows_of no_ledger → SpellAll rows records → is_bare records ≡ true
bare_records rows records exact all = bare_front 8 records (λ table low. no_records (records_in records table) (λ r h.
    let v = value_there r in
    none_held (spot_of (record_row r)) v.0
    (subst (λ (rs : Rows). get rs (spot_of (record_row r)) ≡ Some v.0) exact (record_stands rows records all table low r h ∙ v.1))))

-- ---- a store that stands for a lawful ledger

business_right : (rows : Rows) (records : List (List Record)) (ledger : Ledger) → IsLawful ledger → own rows ≡ rows_of ledger → SpellAll rows records
    → AreRecordsOf records ledger
    → difference_from 1 (rows_for (tables_by (records_in records 3) (records_in records 4))) (records_in records 6) ≡ None
business_right rows records ledger law exact all are =
    let steps = records_in records 3 in
    let marks : marks_in (records_in records 4) ≡ ledger.marks = ap marks_in (mark_table records ledger law are) ∙ marks_back ledger.marks in
    let tables : tables_by steps (records_in records 4) ≡ tables_of ledger.units ledger.marks =
    tables_follow steps ledger.units (have_effects records ledger law are) (records_in records 4) ∙ ap (tables_of ledger.units) marks in
    ap (λ (t : Tables). difference_from 1 (rows_for t) (records_in records 6)) tables
    ∙ no_difference 1 (rows_for (tables_of ledger.units ledger.marks)) (records_in records 6)
    (subst (λ rs. SpellEach 6 rs (records_in records 6)) (sym (business_rows_are rows ledger exact)) (all 6 (omega arith)))

rules_kept : (rows : Rows) (records : List (List Record)) (ledger : Ledger) → IsLawful ledger → own rows ≡ rows_of ledger → SpellAll rows records
    → rule_fault records ≡ None
rules_kept rows records ledger law exact all =
    let are = are_records rows records ledger law exact all in
    no_place _ _
    (no_place _ _
    (no_place _ _
    (no_place _ _
    (no_place _ _ (start_right records ledger law are) (numbers_right records ledger law are))
    (marks_right records ledger law are))
    (units_right records ledger law are))
    (no_place _ _ (posts_right records ledger law are) (business_right rows records ledger law exact all are)))
    (levels_right records ledger law are)

unless_bare : (b : Bool) (fault : Option Place) → fault ≡ None → (if b then None else fault) ≡ None
unless_bare true fault none = refl
unless_bare false fault none = none

-- the records of a good store break no rule
pub good_rules_kept : (rows : Rows) (records : List (List Record)) → IsGood rows → SpellAll rows records → store_fault records ≡ None
good_rules_kept rows records good all =
    let ledger = good.0 in
    ⊎_elim
    (λ none. ap (λ b. if b then None else rule_fault records) (bare_records rows records (good.1.exact ∙ ap rows_of none) all))
    (λ law. unless_bare (is_bare records) (rule_fault records) (rules_kept rows records ledger law good.1.exact all))
    good.1.lawful

pub not_both : (o : Option Place) (place : Place) → o ≡ None → o ≡ Some place → ⊥
not_both None place none some = cc
not_both (Some other) place none some = cc
