-- The rows of a unit: its header, its parts and its locks.
use Rattle.std.proofs.Common.{◌≡◌, ℕ, ◌^◌, ◌<◌, ◌≤◌, false, ◌&&◌, leb, List, [], ◌∷◌, ◌++◌, length, Some, None, refl, sym, ap, subst, ◌∙◌, append_assoc, arith}
use Rattle.std.specs.Prelude.{IsTrue}
use Rattle.std.specs.List.{flat_map, AllByRecursion}
use Rattle.std.specs.Int.{w16}
use Rattle.std.proofs.lemmas.Bool.{leb-true, le-leb}
use Rattle.std.proofs.lemmas.List.Elements.{recursion_from_All, All-from_recursion}
use Rattle.byteorder.specs.Endian.{big_bytes}
use Rattle.keeper_api.specs.declared.rows.Change.TheVariants.{Put as PutRow}
use Rattle.enq_base.specs.Grammar.{is_pattern}
use Rattle.enq_base.specs.declared.owner.UnitKey.{UnitKey}
use Rattle.enq_base.specs.declared.unit.Num.{Num as Number}
use Rattle.mode_rules.specs.Modes.{mode_number, mode_of}
use Rattle.mode_rules.specs.declared.Mode.{Mode}
use Rattle.mode_rules.specs.declared.Mode.TheVariants.{S, E, X, O}
use Rattle.update_records.specs.declared.stored.Record.{Record}
use Rattle.update_records.specs.declared.stored.Record.TheVariants as rec
use Rattle.update_records.specs.Grammar.{IsUnitKey, IsNumber, is_optimistic}
use Rattle.update_records.specs.RecordRows.{short, unit_bytes, number_bytes, numbers_bytes, header_value, lock_value}
use Rattle.update_records.specs.Spelling.{IsRecord, record_row, IsPart, IsPlace, AreNumbers}
use Rattle.byte_fields.specs.Fields.{Field, ◌if_it◌, number_at, many}
use Rattle.update_records.specs.Reading.{num_at, nums_at, unit_key, header_tail, header_at, module_key, module_tail, module_at, lock_key, count_at, lock_tail, lock_at}
use Rattle.byte_fields.proofs.lemmas.FieldLaws.{IsBytes, IsField, IsWhole, is_then, is_both, is_giving, is_tested, is_whole, is_many, IsCode, is_code, code_first}
use Rattle.update_records.proofs.RowLaws.{IsName, both_true, is_name_field, is_pattern_field, is_16, is_32, is_64, is_unit, is_nr, is_part, row_takes, row_again}

-- ---- numbers

is_num : IsField IsNumber number_bytes num_at
unfolding num_at
is_num = is_giving IsNumber number_bytes (λ (x : (List ℕ × List ℕ) × ℕ). record { object = x.0.0; nr = x.0.1; number = x.1 })
    (is_both (is_both is_name_field is_nr) is_64)
    (λ x is. (refl, record { object = is.0.0; nr = is.0.1; number = is.1 }))
    (λ n is. (((n.object, n.nr), n.number), refl, ((is.object, is.nr), is.number)))

pub is_nums : IsField AreNumbers numbers_bytes nums_at
unfolding nums_at
is_nums = is_giving AreNumbers numbers_bytes (λ (x : ℕ × List Number). x.1)
    (is_then (λ (n : ℕ). n < 2 ^ 16) (λ (n : ℕ) (xs : List Number). (length xs ≡ n) × AllByRecursion IsNumber xs) (big_bytes 2)
    (λ (xs : List Number). flat_map number_bytes xs) (number_at w16) (many num_at) is_16 (is_many is_num))
    (λ x is. (
      ap (λ (n : ℕ). big_bytes 2 n ++ flat_map number_bytes x.1)
          (sym is.1.0),
      record { few = subst (λ (n : ℕ). n < 2 ^ 16) (sym is.1.0) is.0; each = All-from_recursion IsNumber x.1 is.1.1 },
    ))
    (λ xs is. ((length xs, xs), refl, (is.few, (refl, recursion_from_All IsNumber xs is.each))))

-- ---- table 1

pub is_unit_key : IsWhole IsUnitKey unit_bytes unit_key
unfolding unit_key
is_unit_key = is_whole is_unit

abbrev HeaderTail : Type 0
HeaderTail = (((List ℕ × ℕ) × ℕ) × ℕ) × List Number

abbrev tail_bytes : HeaderTail → List ℕ
tail_bytes v = header_value v.0.0.0.0 v.0.0.0.1 v.0.0.1 v.0.1 v.1

abbrev IsHeaderTail : HeaderTail → Type 0
IsHeaderTail v = (((IsName v.0.0.0.0 × (v.0.0.0.1 < 2 ^ 16)) × (v.0.0.1 < 2 ^ 16)) × (v.0.1 < 2 ^ 32)) × AreNumbers v.1

is_header_tail : IsWhole IsHeaderTail tail_bytes header_tail
unfolding header_tail
is_header_tail = is_whole (is_both (is_both (is_both (is_both is_name_field is_16) is_16) is_32) is_nums)

abbrev header_made : UnitKey → HeaderTail → Record
header_made unit v = rec.Header unit v.0.0.0.0 v.0.0.0.1 v.0.0.1 v.0.1 v.1

pub header_takes : (key value : List ℕ) (r : Record) → IsBytes key → IsBytes value → header_at key value ≡ Some r → IsRecord r
    × (record_row r ≡ PutRow 1 key value)
unfolding header_at
header_takes = row_takes is_unit_key is_header_tail header_made 1 (λ k v is_k is_v. ((is_k, is_v.0.0.0.0, is_v.0.0.0.1, is_v.0.0.1, is_v.0.1, is_v.1), refl))

pub header_again : (unit : UnitKey) (user : List ℕ) (v1 v2 locks : ℕ) (numbers : List Number) → IsRecord (rec.Header unit user v1 v2 locks numbers)
    → header_at (unit_bytes unit) (header_value user v1 v2 locks numbers) ≡ Some (rec.Header unit user v1 v2 locks numbers)
unfolding header_at
header_again unit user v1 v2 locks numbers is =
    row_again is_unit_key is_header_tail header_made unit ((((user, v1), v2), locks), numbers) is.0 ((((is.1, is.2), is.3), is.4), is.5)

-- ---- table 2

pub is_module_key : IsWhole (λ (k : UnitKey × ℕ). IsUnitKey k.0 × IsPart k.1) (λ (k : UnitKey × ℕ). unit_bytes k.0 ++ k.1 ∷ []) module_key
unfolding module_key
is_module_key = is_whole (is_both is_unit is_part)

is_module_tail : IsWhole (λ (n : ℕ). n < 2 ^ 16) (λ (n : ℕ). big_bytes 2 n) module_tail
unfolding module_tail
is_module_tail = is_whole is_16

abbrev module_made : UnitKey × ℕ → ℕ → Record
module_made k count = rec.Module k.0 k.1 count

pub module_takes : (key value : List ℕ) (r : Record) → IsBytes key → IsBytes value → module_at key value ≡ Some r → IsRecord r
    × (record_row r ≡ PutRow 2 key value)
unfolding module_at
module_takes = row_takes is_module_key is_module_tail module_made 2 (λ k v is_k is_v. ((is_k.0, is_k.1, is_v), refl))

pub module_again : (unit : UnitKey) (part count : ℕ) → IsRecord (rec.Module unit part count)
    → module_at (unit_bytes unit ++ part ∷ []) (big_bytes 2 count) ≡ Some (rec.Module unit part count)
unfolding module_at
module_again unit part count is = row_again is_module_key is_module_tail module_made (unit, part) count (is.0, is.1) is.2

-- ---- table 7

pub is_place : {field : Field ℕ} {spell : ℕ → List ℕ} (limit : ℕ) → IsField (λ (n : ℕ). n < limit) spell field
    → IsField (IsPlace limit) spell (field if_it leb 1)
is_place limit p = is_tested (IsPlace limit) (leb 1) p (λ a is e. (leb-true 1 a e, is)) (λ a is. (is.1, le-leb 1 a is.0))

pub is_lock_key : IsWhole (λ (k : UnitKey × ℕ). IsUnitKey k.0 × IsPlace (2 ^ 32) k.1) (λ (k : UnitKey × ℕ). unit_bytes k.0 ++ big_bytes 4 k.1) lock_key
unfolding lock_key
is_lock_key = is_whole (is_both is_unit (is_place (2 ^ 32) is_32))

abbrev IsMode : Mode → Type 0
IsMode mode = is_optimistic mode ≡ false

is_mode : IsCode IsMode mode_number mode_of
is_mode = record {
  takes = λ b a lt e.
      let P : Mode → Type 0 = λ m. (b ≡ mode_number m) × IsMode m in
      code_first P b 1 S a _ (λ is. (is, refl)) (code_first P b 2 E a _ (λ is. (is, refl)) (code_first P b 3 X a None (λ is. (is, refl)) (λ e. absurd cc))) e;
  again = λ a. elim a as (λ (m : Mode). IsMode m → mode_of (mode_number m) ≡ Some m) [ S ↦ λ is. refl | E ↦ λ is. refl | X ↦ λ is. refl | O ↦ λ is. absurd cc ];
}

is_count : IsField (IsPlace 10000) (big_bytes 2) count_at
unfolding count_at
is_count = is_tested (IsPlace 10000) (λ (n : ℕ). leb 1 n && leb n 9999) is_16
    (λ a is e. let h = both_true (leb 1 a) (leb a 9999) e in let low : 1 ≤ a = leb-true 1 a h.0 in let high : a ≤ 9999 = leb-true a 9999 h.1 in
    (low, omega arith))
    (λ a is. let low : 1 ≤ a = is.0 in let high : a < 10000 = is.1 in (omega arith, rw (le-leb 1 a low, le-leb a 9999 (omega arith)) refl))

abbrev LockTail : Type 0
LockTail = ((List ℕ × Mode) × ℕ) × List ℕ

abbrev IsLockTail : LockTail → Type 0
IsLockTail v = ((IsName v.0.0.0 × IsMode v.0.0.1) × IsPlace 10000 v.0.1) × IsTrue (is_pattern v.1)

abbrev lock_bytes : LockTail → List ℕ
lock_bytes v = ((short v.0.0.0 ++ (mode_number v.0.0.1 ∷ [])) ++ big_bytes 2 v.0.1) ++ short v.1

is_lock_tail : IsWhole IsLockTail lock_bytes lock_tail
unfolding lock_tail
is_lock_tail = is_whole (is_both (is_both (is_both is_name_field (is_code is_mode)) is_count) is_pattern_field)

abbrev lock_made : UnitKey × ℕ → LockTail → Record
lock_made k v = rec.Lock k.0 k.1 v.0.0.0 v.0.0.1 v.0.1 v.1

lock_bytes-value : (v : LockTail) → lock_value v.0.0.0 v.0.0.1 v.0.1 v.1 ≡ lock_bytes v
lock_bytes-value v = ap (λ (t : List ℕ). t ++ short v.1) (sym (append_assoc (short v.0.0.0) (mode_number v.0.0.1 ∷ []) (big_bytes 2 v.0.1)))

pub lock_takes : (key value : List ℕ) (r : Record) → IsBytes key → IsBytes value → lock_at key value ≡ Some r → IsRecord r × (record_row r ≡ PutRow 7 key value)
unfolding lock_at
lock_takes = row_takes is_lock_key is_lock_tail lock_made 7
    (λ k v is_k is_v. ((is_k.0, is_k.1, is_v.0.0.0, is_v.0.0.1, is_v.0.1, is_v.1), ap (PutRow 7 (unit_bytes k.0 ++ big_bytes 4 k.1)) (lock_bytes-value v)))

pub lock_again : (unit : UnitKey) (index : ℕ) (table : List ℕ) (mode : Mode) (count : ℕ) (pattern : List ℕ)
    → IsRecord (rec.Lock unit index table mode count pattern)
    → lock_at (unit_bytes unit ++ big_bytes 4 index) (lock_value table mode count pattern) ≡ Some (rec.Lock unit index table mode count pattern)
unfolding lock_at
lock_again unit index table mode count pattern is =
    let v : LockTail = (((table, mode), count), pattern) in
    ap (lock_at (unit_bytes unit ++ big_bytes 4 index)) (lock_bytes-value v)
    ∙ row_again is_lock_key is_lock_tail lock_made (unit, index) v (is.0, is.1) (((is.2, is.3), is.4), is.5)
