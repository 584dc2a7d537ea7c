-- A row that is read is the row of its record, and the row of a record is read again.
use Rattle.std.proofs.Common.{◌≡◌, ℕ, ◌^◌, ◌<◌, ◌≤◌, Bool, true, false, ◌&&◌, eqb, leb, List, [], ◌∷◌, ◌++◌, length, Option, Some, None, refl, sym, ap, subst, ◌∙◌, arith}
use Rattle.std.specs.Prelude.{IsTrue}
use Rattle.std.specs.List.{list_all}
use Rattle.std.specs.Int.{w16, w32, w64}
use Rattle.std.proofs.lemmas.Bool.{leb-true, le-leb, eqb-true}
use Rattle.byteorder.specs.Endian.{big_bytes}
use Rattle.keeper_api.specs.declared.rows.Change.TheVariants.{Put as PutRow}
use Rattle.enq_base.specs.Grammar.{is_name, is_key, is_text, is_pattern, is_digit, is_letter, is_name_byte, is_key_byte, is_text_byte}
use Rattle.update_records.specs.declared.stored.Record.{Record}
use Rattle.update_records.specs.declared.stored.Record.TheVariants as rec
use Rattle.update_records.specs.Grammar.{IsUnitKey, IsNr}
use Rattle.update_records.specs.RecordRows.{short, row_name, unit_bytes, level_value, flag}
use Rattle.update_records.specs.Spelling.{IsRecord, record_row, IsPart}
use Rattle.byte_fields.specs.Fields.{◌>>=◌, all_if, bytes_at, number_at}
use Rattle.update_records.specs.Reading.{byte_at, short_at, name_at, key_at, pattern_at, unit_at, nr_at, part_at, meta_key, meta_value, meta_at, flag_of, level_key, level_tail, level_at, business_key, business_at}
use Rattle.byte_fields.proofs.lemmas.FieldLaws.{IsBytes, some_is, bind_some, IsField, IsWhole, is_then, is_both, is_giving, is_tested, is_whole, is_all, is_bytes, wide16, wide32, wide64, is_number, IsCode, is_code, code_first}

-- ---- fields of every table

abbrev pub IsName : List ℕ → Type 0
IsName text = IsTrue (is_name text)

pub is_byte : IsField (λ (b : ℕ). b < 256) (λ (b : ℕ). b ∷ []) byte_at
unfolding byte_at
is_byte = is_code (record { takes = λ b a lt e. (some_is b a e, subst (λ (k : ℕ). k < 256) (some_is b a e) lt); again = λ a is. refl })

is_short : IsField (λ (t : List ℕ). length t < 256) short short_at
unfolding short_at
is_short = is_giving (λ (t : List ℕ). length t < 256) short (λ (x : ℕ × List ℕ). x.1)
    (is_then (λ (b : ℕ). b < 256) (λ (b : ℕ) (t : List ℕ). length t ≡ b) (λ (b : ℕ). b ∷ []) (λ (t : List ℕ). t) byte_at bytes_at is_byte is_bytes)
    (λ x is. (ap (λ (n : ℕ). n ∷ x.1) (sym is.1), subst (λ (n : ℕ). n < 256) (sym is.1) is.0))
    (λ t is. ((length t, t), refl, (is, refl)))

pub both_true : (a b : Bool) → (a && b) ≡ true → (a ≡ true) × (b ≡ true)
both_true true b e = (refl, e)
both_true false b e = absurd cc

short_enough : (t : List ℕ) (limit : ℕ) (b : Bool) → limit < 256 → (b && leb (length t) limit) ≡ true → length t < 256
short_enough t limit b small is =
    let few : length t ≤ limit = leb-true (length t) limit (both_true b (leb (length t) limit) is).1 in
    omega arith

name_fits : (t : List ℕ) → IsName t → length t < 256
name_fits [] is = absurd cc
name_fits (b ∷ bs) is = short_enough (b ∷ bs) 30 (is_letter b && list_all is_name_byte (b ∷ bs)) (omega arith) is

pub is_name_field : IsField IsName short name_at
unfolding name_at
is_name_field = is_tested IsName is_name is_short (λ a is e. e) (λ a is. (name_fits a is, is))

key_fits : (t : List ℕ) → IsTrue (is_key t) → length t < 256
key_fits t is = short_enough t 60 (list_all is_key_byte t && leb 1 (length t)) (omega arith) is

pub is_key_field : IsField (λ (t : List ℕ). IsTrue (is_key t)) short key_at
unfolding key_at
is_key_field = is_tested (λ (t : List ℕ). IsTrue (is_key t)) is_key is_short (λ a is e. e) (λ a is. (key_fits a is, is))

pattern_fits : (t : List ℕ) → IsTrue (is_pattern t) → length t < 256
pattern_fits t is = short_enough t 255 (list_all is_text_byte t && leb 1 (length t)) (omega arith) is

pub is_pattern_field : IsField (λ (t : List ℕ). IsTrue (is_pattern t)) short pattern_at
unfolding pattern_at
is_pattern_field = is_tested (λ (t : List ℕ). IsTrue (is_pattern t)) is_pattern is_short (λ a is e. e) (λ a is. (pattern_fits a is, is))

pub is_16 : IsField (λ (n : ℕ). n < 2 ^ 16) (big_bytes 2) (number_at w16)
is_16 = is_number w16 (2 ^ 16) wide16

pub is_32 : IsField (λ (n : ℕ). n < 2 ^ 32) (big_bytes 4) (number_at w32)
is_32 = is_number w32 (2 ^ 32) wide32

pub is_64 : IsField (λ (n : ℕ). n < 2 ^ 64) (big_bytes 8) (number_at w64)
is_64 = is_number w64 (2 ^ 64) wide64

pub is_unit : IsField IsUnitKey unit_bytes unit_at
unfolding unit_at
is_unit = is_giving IsUnitKey unit_bytes (λ (x : (ℕ × ℕ) × ℕ). record { start = x.0.0; session = x.0.1; luw = x.1 }) (is_both (is_both is_32 is_32) is_32)
    (λ x is. (refl, record { start = is.0.0; session = is.0.1; luw = is.1 }))
    (λ u is. (((u.start, u.session), u.luw), refl, ((is.start, is.session), is.luw)))

pub is_nr : IsField IsNr (λ (nr : List ℕ). nr) nr_at
unfolding nr_at
is_nr = is_tested IsNr (list_all is_digit) (is_bytes 2) (λ a is e. record { two = is; digits = e }) (λ a is. (is.two, is.digits))

pub is_part : IsField IsPart (λ (part : ℕ). part ∷ []) part_at
unfolding part_at
is_part = is_tested IsPart (λ (b : ℕ). leb 1 b && leb b 2) is_byte
    (λ a is e. let h = both_true (leb 1 a) (leb a 2) e in (leb-true 1 a h.0, leb-true a 2 h.1))
    (λ a is. (omega (arith, is.1), rw (le-leb 1 a is.0, le-leb a 2 is.1) refl))

-- ---- rows

pub row_takes : {A B : Type 0} {IsA : A → Type 0} {IsB : B → Type 0} {sa : A → List ℕ} {sb : B → List ℕ} {pa : List ℕ → Option A} {pb : List ℕ → Option B}
    → IsWhole IsA sa pa → IsWhole IsB sb pb → (make : A → B → Record) (table : ℕ)
    → ((a : A) (b : B) → IsA a → IsB b → IsRecord (make a b) × (record_row (make a b) ≡ PutRow table (sa a) (sb b)))
    → (key value : List ℕ) (r : Record) → IsBytes key → IsBytes value → (pa key >>= λ a. pb value >>= λ b. Some (make a b)) ≡ Some r → IsRecord r
    × (record_row r ≡ PutRow table key value)
row_takes {sb = sb} {pa = pa} {pb = pb} p q make table forth key value r key_fits value_fits e =
    let a = bind_some (pa key) (λ a. pb value >>= λ b. Some (make a b)) r e in
    let b = bind_some (pb value) (λ b. Some (make a.0 b)) r a.2 in
    let t = p.takes key a.0 key_fits a.1 in
    let u = q.takes value b.0 value_fits b.1 in
    let f = forth a.0 b.0 t.1 u.1 in
    subst (λ (s : Record). IsRecord s × (record_row s ≡ PutRow table key value)) (some_is (make a.0 b.0) r b.2)
    (f.0, f.1 ∙ ap (λ (k : List ℕ). PutRow table k (sb b.0)) (sym t.0) ∙ ap (λ (v : List ℕ). PutRow table key v) (sym u.0))

pub row_again : {A B : Type 0} {IsA : A → Type 0} {IsB : B → Type 0} {sa : A → List ℕ} {sb : B → List ℕ} {pa : List ℕ → Option A} {pb : List ℕ → Option B}
    → IsWhole IsA sa pa → IsWhole IsB sb pb → (make : A → B → Record) (a : A) (b : B) → IsA a → IsB b
    → (pa (sa a) >>= λ a. pb (sb b) >>= λ b. Some (make a b)) ≡ Some (make a b)
row_again p q make a b is_a is_b = rw (p.again a is_a, q.again b is_b) refl

-- ---- table 0

is_meta_key : IsWhole (λ (k : ℕ). k ≡ 83) (λ (k : ℕ). k ∷ []) meta_key
unfolding meta_key
is_meta_key = is_whole (is_tested (λ (k : ℕ). k ≡ 83) (λ (b : ℕ). eqb b 83) is_byte (λ a is e. eqb-true a 83 e) (λ a is. (omega arith, rw is refl)))

is_meta_value : IsWhole (λ (v : ℕ × ℕ). (v.0 < 2 ^ 32) × (v.1 < 2 ^ 64)) (λ (v : ℕ × ℕ). big_bytes 4 v.0 ++ big_bytes 8 v.1) meta_value
unfolding meta_value
is_meta_value = is_whole (is_both is_32 is_64)

pub meta_takes : (key value : List ℕ) (r : Record) → IsBytes key → IsBytes value → meta_at key value ≡ Some r → IsRecord r × (record_row r ≡ PutRow 0 key value)
unfolding meta_at
meta_takes = row_takes is_meta_key is_meta_value (λ k v. rec.Meta v.0 v.1) 0
    (λ k v is_k is_v. (is_v, ap (λ (k : ℕ). PutRow 0 (k ∷ []) (big_bytes 4 v.0 ++ big_bytes 8 v.1)) (sym is_k)))

pub meta_again : (start marks : ℕ) → IsRecord (rec.Meta start marks) → meta_at (83 ∷ []) (big_bytes 4 start ++ big_bytes 8 marks) ≡ Some (rec.Meta start marks)
unfolding meta_at
meta_again start marks is = row_again is_meta_key is_meta_value (λ (k : ℕ) (v : ℕ × ℕ). rec.Meta v.0 v.1) 83 (start, marks) refl is

-- ---- table 5

is_flag : IsCode (λ (b : Bool). Unit {0}) flag flag_of
is_flag = record {
  takes = λ b a lt e. code_first (λ (x : Bool). (b ≡ flag x) × Unit {0}) b 0 false a _ (λ is. (is, tt))
      (code_first (λ (x : Bool). (b ≡ flag x) × Unit {0}) b 1 true a None (λ is. (is, tt)) (λ e. absurd cc)) e;
  again = λ a is. elim a as (λ (x : Bool). flag_of (flag x) ≡ Some x) [ true ↦ refl | false ↦ refl ];
}

pub is_level_key : IsWhole (λ (k : List ℕ × List ℕ). IsName k.0 × IsNr k.1) row_name level_key
unfolding level_key
is_level_key = is_whole (is_both is_name_field is_nr)

is_level_tail : IsWhole (λ (v : ((ℕ × ℕ) × ℕ) × Bool). (((v.0.0.0 < 2 ^ 64) × (v.0.0.1 < 2 ^ 64)) × (v.0.1 < 2 ^ 64)) × Unit {0})
    (λ (v : ((ℕ × ℕ) × ℕ) × Bool). big_bytes 8 v.0.0.0 ++ big_bytes 8 v.0.0.1 ++ big_bytes 8 v.0.1 ++ flag v.1 ∷ []) level_tail
unfolding level_tail
is_level_tail = is_whole (is_both (is_both (is_both is_64 is_64) is_64) (is_code is_flag))

pub level_takes : (key value : List ℕ) (r : Record) → IsBytes key → IsBytes value → level_at key value ≡ Some r → IsRecord r
    × (record_row r ≡ PutRow 5 key value)
unfolding level_at
level_takes = row_takes is_level_key is_level_tail (λ k v. rec.Level k.0 k.1 v.0.0.0 v.0.0.1 v.0.1 v.1) 5
    (λ k v is_k is_v. ((is_k.0, is_k.1, is_v.0.0.0, is_v.0.0.1, is_v.0.1), refl))

pub level_again : (object nr : List ℕ) (from to level : ℕ) (buffered : Bool) → IsRecord (rec.Level object nr from to level buffered)
    → level_at (row_name (object, nr)) (level_value (record { from = from; to = to; level = level; buffered = buffered })) ≡ Some
    (rec.Level object nr from to level buffered)
unfolding level_at
level_again object nr from to level buffered is =
    row_again is_level_key is_level_tail (λ (k : List ℕ × List ℕ) (v : ((ℕ × ℕ) × ℕ) × Bool). rec.Level k.0 k.1 v.0.0.0 v.0.0.1 v.0.1 v.1) (object, nr)
    (((from, to), level), buffered)
    (is.0, is.1) (((is.2, is.3), is.4), tt)

-- ---- table 6

pub is_business_key : IsWhole (λ (k : List ℕ × List ℕ). IsName k.0 × IsTrue (is_key k.1)) row_name business_key
unfolding business_key
is_business_key = record {
  takes = λ bytes k fits e.
      let t = bind_some (name_at bytes) (λ t. all_if is_key t.1 >>= λ k. Some (t.0, k)) k e in
      let u = bind_some (all_if is_key t.0.1) (λ k. Some (t.0.0, k)) k t.2 in
      let first = is_name_field.takes bytes t.0 fits t.1 in
      let second = (is_all is_key).takes t.0.1 u.0 first.0.rest_fits u.1 in
      subst (λ (y : List ℕ × List ℕ). (bytes ≡ row_name y) × (IsName y.0 × IsTrue (is_key y.1))) (some_is (t.0.0, u.0) k u.2)
      (first.0.parts ∙ ap (λ (r : List ℕ). short t.0.0 ++ r) second.0, (first.1, second.1));
  again = λ k is. rw (is_name_field.again k.0 k.1 is.0, is.1) refl;
}

pub business_takes : (key value : List ℕ) (r : Record) → IsBytes key → IsBytes value → business_at key value ≡ Some r → IsRecord r
    × (record_row r ≡ PutRow 6 key value)
unfolding business_at
business_takes = row_takes is_business_key (is_all is_text) (λ k text. rec.Business k.0 k.1 text) 6 (λ k text is_k is_text. ((is_k.0, is_k.1, is_text), refl))

pub business_again : (table key text : List ℕ) → IsRecord (rec.Business table key text)
    → business_at (row_name (table, key)) text ≡ Some (rec.Business table key text)
unfolding business_at
business_again table key text is = row_again is_business_key (is_all is_text) (λ (k : List ℕ × List ℕ) (text : List ℕ). rec.Business k.0 k.1 text)
    (table, key) text (is.0, is.1) is.2
