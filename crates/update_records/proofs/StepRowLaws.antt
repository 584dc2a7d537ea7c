-- The row of an effect.
use Rattle.std.proofs.Common.{◌≡◌, ℕ, suc, ◌-◌, inl, inr, ◌^◌, ◌<◌, ◌≤◌, Bool, true, false, ◌&&◌, cond, eqb, leb, List, [], ◌∷◌, ◌++◌, length, Option, Some, None, refl, sym, ap, subst, ◌∙◌, append_assoc, arith}
use Rattle.std.specs.Prelude.{IsTrue, ℤ, pos, negsuc}
use Rattle.std.specs.Int.{w16, w64, cast_signed, cast_unsigned}
use Rattle.std.specs.List.{list_all}
use Rattle.std.proofs.lemmas.Bool.{cases_lt, leb-true, ltb-true, lt-ltb, le-ltb, eqb-true, eqb-false}
use Rattle.std.proofs.lemmas.Int.{to_z-of_z, of_z-to_z, to_z_pos}
use mir.Val.{SFits}
use Rattle.byteorder.specs.Endian.{big_bytes}
use Rattle.keeper_api.specs.declared.rows.Change.TheVariants.{Put as PutRow}
use Rattle.enq_base.specs.Grammar.{is_key, is_text, is_text_byte}
use Rattle.enq_base.specs.declared.owner.UnitKey.{UnitKey}
use Rattle.enq_base.specs.declared.unit.Deed.{Deed}
use Rattle.enq_base.specs.declared.unit.Deed.TheVariants.{Put, Ins, Del, Add}
use Rattle.enq_base.specs.declared.unit.Effect.{Effect}
use Rattle.module_effects.specs.Integers.{is_i64}
use Rattle.update_records.specs.declared.stored.Record.{Record}
use Rattle.update_records.specs.declared.stored.Record.TheVariants as rec
use Rattle.update_records.specs.Grammar.{IsUnitKey, IsEffect, IsDeed}
use Rattle.update_records.specs.RecordRows.{short, unit_bytes, verb, text_bytes, operand}
use Rattle.update_records.specs.Spelling.{IsRecord, record_row, IsPart, IsPlace}
use Rattle.byte_fields.specs.Fields.{Field, ◌then◌, ◌&◌, ◌giving◌, bytes_at, number_at}
use Rattle.update_records.specs.Reading.{byte_at, name_at, key_at, text_at, signed_at, deed_at, step_key, step_tail, step_at}
use Rattle.byte_fields.proofs.lemmas.FieldLaws.{IsBytes, some_is, Takes, IsField, IsWhole, is_then, is_both, is_giving, is_tested, is_whole, is_bytes}
use Rattle.update_records.proofs.RowLaws.{IsName, both_true, is_byte, is_name_field, is_key_field, is_16, is_64, is_unit, is_part, row_takes, row_again}
use Rattle.update_records.proofs.UnitRowLaws.{is_place}

-- ---- operands

abbrev IsText : List ℕ → Type 0
IsText t = IsTrue (is_text t)

text_fits : (t : List ℕ) → IsText t → length t < 2 ^ 16
text_fits t is =
    let few : length t ≤ 512 = leb-true (length t) 512 (both_true (list_all is_text_byte t && leb 1 (length t)) (leb (length t) 512) is).1 in
    omega arith

is_long : IsField (λ (t : List ℕ). length t < 2 ^ 16) text_bytes (number_at w16 then bytes_at giving λ x. x.1)
is_long = is_giving (λ (t : List ℕ). length t < 2 ^ 16) text_bytes (λ (x : ℕ × List ℕ). x.1)
    (is_then (λ (n : ℕ). n < 2 ^ 16) (λ (n : ℕ) (t : List ℕ). length t ≡ n) (big_bytes 2) (λ (t : List ℕ). t) (number_at w16) bytes_at is_16 is_bytes)
    (λ x is. (ap (λ (n : ℕ). big_bytes 2 n ++ x.1) (sym is.1), subst (λ (n : ℕ). n < 2 ^ 16) (sym is.1) is.0))
    (λ t is. ((length t, t), refl, (is, refl)))

is_text_field : IsField IsText text_bytes text_at
unfolding text_at
is_text_field = is_tested IsText is_text is_long (λ a is e. e) (λ a is. (text_fits a is, is))

i64_fits : (z : ℤ) → IsTrue (is_i64 z) → cast_unsigned w64 z < 2 ^ 64
i64_fits (pos n) is = let lt : n < 2 ^ 63 = ltb-true n (2 ^ 63) is in omega arith
i64_fits (negsuc n) is = let lt : n < 2 ^ 63 = ltb-true n (2 ^ 63) is in omega arith

i64_small : (z : ℤ) → IsTrue (is_i64 z) → SFits w64 z
i64_small (pos n) is = record { sfits = ltb-true n (2 ^ 63) is }
i64_small (negsuc n) is = record { sfits = ltb-true n (2 ^ 63) is }

i64_again : (z : ℤ) → IsTrue (is_i64 z) → cast_signed w64 (cast_unsigned w64 z) ≡ z
i64_again z is = to_z-of_z w64 z (i64_small z is)

signed_is : (n : ℕ) → n < 2 ^ 64 → IsTrue (is_i64 (cast_signed w64 n))
signed_is n lt = elim (cases_lt n (2 ^ 63)) [
  | inl low ↦ rw (to_z_pos w64 n low) (lt-ltb n (2 ^ 63) low)
  | inr high ↦ rw (le-ltb n (2 ^ 63) high) (lt-ltb (2 ^ 64 - suc n) (2 ^ 63) (omega arith))
]

is_signed : IsField (λ (z : ℤ). IsTrue (is_i64 z)) (λ (z : ℤ). big_bytes 8 (cast_unsigned w64 z)) signed_at
unfolding signed_at
is_signed = is_giving (λ (z : ℤ). IsTrue (is_i64 z)) (λ (z : ℤ). big_bytes 8 (cast_unsigned w64 z)) (cast_signed w64) is_64
    (λ n is. (ap (big_bytes 8) (sym (of_z-to_z w64 n is)), signed_is n is))
    (λ z is. (cast_unsigned w64 z, i64_again z is, i64_fits z is))

-- ---- deeds

abbrev IsDeedOf : ℕ → Deed → Type 0
IsDeedOf v deed = IsDeed deed × (verb deed ≡ v)

-- a choice by a number
pub is_choice : {A : Type 0} {P : A → Type 0} {spell : A → List ℕ} {f g : Field A} (v n : ℕ) → (v ≡ n → IsField P spell f) → ((v ≡ n → ⊥) → IsField P spell g)
    → IsField P spell (λ bytes. cond (eqb v n) (f bytes) (g bytes))
is_choice {A = A} {P = P} {spell = spell} {f = f} {g = g} v n here there =
    elim (eqb v n) as (λ (b : Bool). eqb v n ≡ b → IsField P spell (λ bytes. cond b (f bytes) (g bytes))) [
      | true ↦ λ is. let h = here (eqb-true v n is) in record { takes = h.takes; again = h.again }
      | false ↦ λ is. let h = there (eqb-false v n is) in record { takes = h.takes; again = h.again }
    ] refl

is_put : (v : ℕ) → v ≡ 1 → IsField (IsDeedOf v) operand (text_at giving Put)
is_put v is-v = is_giving (IsDeedOf v) operand Put is_text_field (λ t is. (refl, (is, sym is-v)))
    (λ deed. elim deed as (λ (d : Deed). IsDeedOf v d → (t : List ℕ) × (Put t ≡ d) × IsText t) [
      | Put t ↦ λ is. (t, refl, is.0)
      | Ins t ↦ λ is. absurd (omega (arith, is.1))
      | Del ↦ λ is. absurd (omega (arith, is.1))
      | Add n ↦ λ is. absurd (omega (arith, is.1))
    ])

is_ins : (v : ℕ) → v ≡ 2 → IsField (IsDeedOf v) operand (text_at giving Ins)
is_ins v is-v = is_giving (IsDeedOf v) operand Ins is_text_field (λ t is. (refl, (is, sym is-v)))
    (λ deed. elim deed as (λ (d : Deed). IsDeedOf v d → (t : List ℕ) × (Ins t ≡ d) × IsText t) [
      | Put t ↦ λ is. absurd (omega (arith, is.1))
      | Ins t ↦ λ is. (t, refl, is.0)
      | Del ↦ λ is. absurd (omega (arith, is.1))
      | Add n ↦ λ is. absurd (omega (arith, is.1))
    ])

is_add : (v : ℕ) → v ≡ 4 → IsField (IsDeedOf v) operand (signed_at giving Add)
is_add v is-v = is_giving (IsDeedOf v) operand Add is_signed (λ z is. (refl, (is, sym is-v)))
    (λ deed. elim deed as (λ (d : Deed). IsDeedOf v d → (z : ℤ) × (Add z ≡ d) × IsTrue (is_i64 z)) [
      | Put t ↦ λ is. absurd (omega (arith, is.1))
      | Ins t ↦ λ is. absurd (omega (arith, is.1))
      | Del ↦ λ is. absurd (omega (arith, is.1))
      | Add z ↦ λ is. (z, refl, is.0)
    ])

is_del : (v : ℕ) → v ≡ 3 → IsField (IsDeedOf v) operand (λ bytes. Some (Del, bytes))
is_del v is-v = record {
  takes = λ bytes x fits e.
      subst (λ (y : Deed × List ℕ). Takes bytes (operand y.0) y.1 × IsDeedOf v y.0) (some_is (Del, bytes) x e)
      (record { parts = refl; rest_fits = fits }, (tt, sym is-v));
  again = λ deed rest. elim deed as (λ (d : Deed). IsDeedOf v d → ◌≡◌ {A = Option (Deed × List ℕ)} (Some (Del, operand d ++ rest)) (Some (d, rest))) [
    | Put t ↦ λ is. absurd (omega (arith, is.1))
    | Ins t ↦ λ is. absurd (omega (arith, is.1))
    | Del ↦ λ is. refl
    | Add z ↦ λ is. absurd (omega (arith, is.1))
  ];
}

is_no_deed : (v : ℕ) → (v ≡ 1 → ⊥) → (v ≡ 2 → ⊥) → (v ≡ 3 → ⊥) → (v ≡ 4 → ⊥) → IsField (IsDeedOf v) operand (λ bytes. None)
is_no_deed v not1 not2 not3 not4 = record {
  takes = λ bytes x fits e. absurd cc;
  again = λ deed rest. elim deed as (λ (d : Deed). IsDeedOf v d → ◌≡◌ {A = Option (Deed × List ℕ)} None (Some (d, rest))) [
    | Put t ↦ λ is. absurd (not1 (sym is.1))
    | Ins t ↦ λ is. absurd (not2 (sym is.1))
    | Del ↦ λ is. absurd (not3 (sym is.1))
    | Add z ↦ λ is. absurd (not4 (sym is.1))
  ];
}

is_deed : (v : ℕ) → IsField (IsDeedOf v) operand (deed_at v)
unfolding deed_at
is_deed v = is_choice v 1 (is_put v)
    (λ not1. is_choice v 2 (is_ins v) (λ not2. is_choice v 3 (is_del v) (λ not3. is_choice v 4 (is_add v) (λ not4. is_no_deed v not1 not2 not3 not4))))

-- ---- table 3

pub is_step_key : IsWhole (λ (k : (UnitKey × ℕ) × ℕ). (IsUnitKey k.0.0 × IsPart k.0.1) × IsPlace (2 ^ 16) k.1)
    (λ (k : (UnitKey × ℕ) × ℕ). (unit_bytes k.0.0 ++ k.0.1 ∷ []) ++ big_bytes 2 k.1) step_key
unfolding step_key
is_step_key = is_whole (is_both (is_both is_unit is_part) (is_place (2 ^ 16) is_16))

abbrev StepTail : Type 0
StepTail = ((ℕ × List ℕ) × List ℕ) × Deed

abbrev effect_bytes : Effect → List ℕ
effect_bytes effect = verb effect.deed ∷ short effect.table ++ short effect.key ++ operand effect.deed

verb_fits : (deed : Deed) → verb deed < 256
verb_fits (Put t) = omega arith
verb_fits (Ins t) = omega arith
verb_fits Del = omega arith
verb_fits (Add n) = omega arith

is_step_tail : IsWhole IsEffect effect_bytes step_tail
unfolding step_tail
is_step_tail = is_whole (is_giving IsEffect effect_bytes (λ (x : StepTail). record { table = x.0.0.1; key = x.0.1; deed = x.1 })
    (is_then (λ (x : (ℕ × List ℕ) × List ℕ). ((x.0.0 < 256) × IsName x.0.1) × IsTrue (is_key x.1)) (λ (x : (ℕ × List ℕ) × List ℕ). IsDeedOf x.0.0)
    (λ (x : (ℕ × List ℕ) × List ℕ). (x.0.0 ∷ [] ++ short x.0.1) ++ short x.1) operand (byte_at & name_at & key_at) (λ x. deed_at x.0.0)
    (is_both (is_both is_byte is_name_field) is_key_field) (λ x. is_deed x.0.0))
    (λ x is. (ap (λ (v : ℕ). ((v ∷ [] ++ short x.0.0.1) ++ short x.0.1) ++ operand x.1) (sym is.1.1), record { table = is.0.0.1; key = is.0.1; deed = is.1.0 }))
    (λ effect is. ((((verb effect.deed, effect.table), effect.key), effect.deed), refl, (((verb_fits effect.deed, is.table), is.key), (is.deed, refl)))))

abbrev step_made : (UnitKey × ℕ) × ℕ → Effect → Record
step_made k effect = rec.Step k.0.0 k.0.1 k.1 effect

pub step_key-value : (unit : UnitKey) (part index : ℕ) → unit_bytes unit ++ part ∷ big_bytes 2 index ≡ (unit_bytes unit ++ part ∷ []) ++ big_bytes 2 index
step_key-value unit part index = sym (append_assoc (unit_bytes unit) (part ∷ []) (big_bytes 2 index))

pub step_takes : (key value : List ℕ) (r : Record) → IsBytes key → IsBytes value → step_at key value ≡ Some r → IsRecord r × (record_row r ≡ PutRow 3 key value)
unfolding step_at
step_takes = row_takes is_step_key is_step_tail step_made 3
    (λ k e is_k is_e. ((is_k.0.0, is_k.0.1, is_k.1, is_e), ap (λ (key : List ℕ). PutRow 3 key (effect_bytes e)) (step_key-value k.0.0 k.0.1 k.1)))

pub step_again : (unit : UnitKey) (part index : ℕ) (effect : Effect) → IsRecord (rec.Step unit part index effect)
    → step_at (unit_bytes unit ++ part ∷ big_bytes 2 index) (effect_bytes effect) ≡ Some (rec.Step unit part index effect)
unfolding step_at
step_again unit part index effect is =
    ap (λ (key : List ℕ). step_at key (effect_bytes effect)) (step_key-value unit part index)
    ∙ row_again is_step_key is_step_tail step_made ((unit, part), index) effect ((is.0, is.1), is.2) is.3
