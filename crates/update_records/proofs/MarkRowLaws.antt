-- The row of a mark.
use Rattle.std.proofs.Common.{◌≡◌, ℕ, ◌^◌, ◌<◌, List, [], ◌∷◌, ◌++◌, Option, Some, None, refl, sym, ap, subst, arith}
use Rattle.byteorder.specs.Endian.{big_bytes}
use Rattle.keeper_api.specs.declared.rows.Change.TheVariants.{Put as PutRow}
use Rattle.enq_base.specs.declared.owner.UnitKey.{UnitKey}
use Rattle.enq_base.specs.declared.unit.Num.{Num as Number}
use Rattle.enq_base.specs.declared.unit.Reason.{Reason}
use Rattle.enq_base.specs.declared.unit.Reason.TheVariants.{Duplicate, Missing, NotNumber, Overflow}
use Rattle.update_records.specs.declared.records.Mark.{Mark}
use Rattle.update_records.specs.declared.records.MarkKind.{MarkKind}
use Rattle.update_records.specs.declared.records.MarkKind.TheVariants.{Num, Rec, V1, Bad1, Again1, V2, Bad2, Again2, Gone}
use Rattle.update_records.specs.declared.stored.Record.{Record}
use Rattle.update_records.specs.declared.stored.Record.TheVariants as rec
use Rattle.update_records.specs.Grammar.{IsWord, IsUnitKey}
use Rattle.update_records.specs.RecordRows.{unit_bytes, kind_number, reason_number, mark_tail}
use Rattle.update_records.specs.Spelling.{IsRecord, record_row, AreNumbers, HasFields}
use Rattle.byte_fields.specs.Fields.{◌>>=◌, ◌&◌, ◌giving◌}
use Rattle.update_records.specs.Reading.{byte_at, unit_at, nums_at, reason_of, refusal_at, bare_kind, kind_at, mark_key, mark_value, mark_at}
use Rattle.byte_fields.proofs.lemmas.FieldLaws.{IsBytes, some_is, bind_some, Takes, IsField, IsWhole, is_then, is_both, is_giving, is_whole, IsCode, is_code, code_first}
use Rattle.update_records.proofs.RowLaws.{is_byte, is_32, is_64, is_unit, row_takes, row_again}
use Rattle.update_records.proofs.UnitRowLaws.{is_nums}
use Rattle.update_records.proofs.StepRowLaws.{is_choice}

-- ---- refusals

is_reason : IsCode (λ (r : Reason). Unit {0}) reason_number reason_of
is_reason = record {
  takes = λ b a lt e.
      let P : Reason → Type 0 = λ r. (b ≡ reason_number r) × Unit {0} in
      code_first P b 1 Duplicate a _ (λ is. (is, tt))
      (code_first P b 2 Missing a _ (λ is. (is, tt))
      (code_first P b 3 NotNumber a _ (λ is. (is, tt)) (code_first P b 4 Overflow a None (λ is. (is, tt)) (λ e. absurd cc)))) e;
  again = λ a is. elim a as (λ (r : Reason). reason_of (reason_number r) ≡ Some r) [ Duplicate ↦ refl | Missing ↦ refl | NotNumber ↦ refl | Overflow ↦ refl ];
}

abbrev IsRefusal : ℕ × Reason → Type 0
IsRefusal x = IsWord x.0 × Unit {0}

abbrev refusal_bytes : ℕ × Reason → List ℕ
refusal_bytes x = big_bytes 4 x.0 ++ reason_number x.1 ∷ []

is_refusal : IsField IsRefusal refusal_bytes refusal_at
unfolding refusal_at
is_refusal = is_both is_32 (is_code is_reason)

-- ---- kinds

abbrev IsKindOf : ℕ → MarkKind → Type 0
IsKindOf b kind = HasFields kind × (kind_number kind ≡ b)

is_num_kind : (b : ℕ) → b ≡ 1 → IsField (IsKindOf b) mark_tail (nums_at giving Num)
is_num_kind b is-b = is_giving (IsKindOf b) mark_tail Num is_nums (λ xs is. (refl, (is, sym is-b)))
    (λ kind. elim kind as (λ (k : MarkKind). IsKindOf b k → (xs : List Number) × (Num xs ≡ k) × AreNumbers xs) [
      | Num numbers ↦ λ is. (numbers, refl, is.0)
      | Rec ↦ λ is. absurd (omega (arith, is.1))
      | V1 ↦ λ is. absurd (omega (arith, is.1))
      | Bad1 index reason ↦ λ is. absurd (omega (arith, is.1))
      | Again1 ↦ λ is. absurd (omega (arith, is.1))
      | V2 ↦ λ is. absurd (omega (arith, is.1))
      | Bad2 index reason ↦ λ is. absurd (omega (arith, is.1))
      | Again2 ↦ λ is. absurd (omega (arith, is.1))
      | Gone ↦ λ is. absurd (omega (arith, is.1))
    ])

is_bad1 : (b : ℕ) → b ≡ 4 → IsField (IsKindOf b) mark_tail (refusal_at giving λ x. Bad1 x.0 x.1)
is_bad1 b is-b = is_giving (IsKindOf b) mark_tail (λ (x : ℕ × Reason). Bad1 x.0 x.1) is_refusal (λ x is. (refl, (is.0, sym is-b)))
    (λ kind. elim kind as (λ (k : MarkKind). IsKindOf b k → (x : ℕ × Reason) × (Bad1 x.0 x.1 ≡ k) × IsRefusal x) [
      | Num numbers ↦ λ is. absurd (omega (arith, is.1))
      | Rec ↦ λ is. absurd (omega (arith, is.1))
      | V1 ↦ λ is. absurd (omega (arith, is.1))
      | Bad1 index reason ↦ λ is. ((index, reason), refl, (is.0, tt))
      | Again1 ↦ λ is. absurd (omega (arith, is.1))
      | V2 ↦ λ is. absurd (omega (arith, is.1))
      | Bad2 index reason ↦ λ is. absurd (omega (arith, is.1))
      | Again2 ↦ λ is. absurd (omega (arith, is.1))
      | Gone ↦ λ is. absurd (omega (arith, is.1))
    ])

is_bad2 : (b : ℕ) → b ≡ 7 → IsField (IsKindOf b) mark_tail (refusal_at giving λ x. Bad2 x.0 x.1)
is_bad2 b is-b = is_giving (IsKindOf b) mark_tail (λ (x : ℕ × Reason). Bad2 x.0 x.1) is_refusal (λ x is. (refl, (is.0, sym is-b)))
    (λ kind. elim kind as (λ (k : MarkKind). IsKindOf b k → (x : ℕ × Reason) × (Bad2 x.0 x.1 ≡ k) × IsRefusal x) [
      | Num numbers ↦ λ is. absurd (omega (arith, is.1))
      | Rec ↦ λ is. absurd (omega (arith, is.1))
      | V1 ↦ λ is. absurd (omega (arith, is.1))
      | Bad1 index reason ↦ λ is. absurd (omega (arith, is.1))
      | Again1 ↦ λ is. absurd (omega (arith, is.1))
      | V2 ↦ λ is. absurd (omega (arith, is.1))
      | Bad2 index reason ↦ λ is. ((index, reason), refl, (is.0, tt))
      | Again2 ↦ λ is. absurd (omega (arith, is.1))
      | Gone ↦ λ is. absurd (omega (arith, is.1))
    ])

-- a kind that is its number and no more
abbrev IsBare : ℕ → MarkKind → Type 0
IsBare b kind = HasFields kind × (kind_number kind ≡ b) × (mark_tail kind ≡ [])

bare_takes : (b : ℕ) (kind : MarkKind) → bare_kind b ≡ Some kind → IsBare b kind
bare_takes b kind e =
    code_first (IsBare b) b 2 Rec kind _ (λ is. (tt, sym is, refl)) (code_first (IsBare b) b 3 V1 kind _ (λ is. (tt, sym is, refl))
    (code_first (IsBare b) b 5 Again1 kind _ (λ is. (tt, sym is, refl)) (code_first (IsBare b) b 6 V2 kind _ (λ is. (tt, sym is, refl))
    (code_first (IsBare b) b 8 Again2 kind _ (λ is. (tt, sym is, refl))
    (code_first (IsBare b) b 9 Gone kind None (λ is. (tt, sym is, refl)) (λ e. absurd cc)))))) e

is_bare : (b : ℕ) → (b ≡ 1 → ⊥) → (b ≡ 4 → ⊥) → (b ≡ 7 → ⊥) → IsField (IsKindOf b) mark_tail (λ bytes. bare_kind b >>= λ kind. Some (kind, bytes))
is_bare b not1 not4 not7 = record {
  takes = λ bytes x fits e.
      let k = bind_some (bare_kind b) (λ kind. Some (kind, bytes)) x e in
      let t = bare_takes b k.0 k.1 in
      subst (λ (y : MarkKind × List ℕ). Takes bytes (mark_tail y.0) y.1 × IsKindOf b y.0) (some_is (k.0, bytes) x k.2)
      (record { parts = ap (λ (l : List ℕ). l ++ bytes) (sym t.2); rest_fits = fits }, (t.0, t.1));
  again = λ kind rest.
      elim kind as (λ (k : MarkKind). IsKindOf b k → ◌≡◌ {A = Option (MarkKind × List ℕ)} (bare_kind b >>= λ kind. Some (kind, mark_tail k ++ rest))
      (Some (k, rest))) [
        | Num numbers ↦ λ is. absurd (not1 (sym is.1))
        | Rec ↦ λ is. rw (← is.1) refl
        | V1 ↦ λ is. rw (← is.1) refl
        | Bad1 index reason ↦ λ is. absurd (not4 (sym is.1))
        | Again1 ↦ λ is. rw (← is.1) refl
        | V2 ↦ λ is. rw (← is.1) refl
        | Bad2 index reason ↦ λ is. absurd (not7 (sym is.1))
        | Again2 ↦ λ is. rw (← is.1) refl
        | Gone ↦ λ is. rw (← is.1) refl
      ];
}

is_kind : (b : ℕ) → IsField (IsKindOf b) mark_tail (kind_at b)
unfolding kind_at
is_kind b = is_choice b 1 (is_num_kind b) (λ not1. is_choice b 4 (is_bad1 b) (λ not4. is_choice b 7 (is_bad2 b) (λ not7. is_bare b not1 not4 not7)))

-- ---- table 4

pub is_mark_key : IsWhole (λ (n : ℕ). n < 2 ^ 64) (λ (n : ℕ). big_bytes 8 n) mark_key
unfolding mark_key
is_mark_key = is_whole is_64

abbrev IsMarkValue : UnitKey × MarkKind → Type 0
IsMarkValue v = IsUnitKey v.0 × HasFields v.1

abbrev mark_bytes : UnitKey × MarkKind → List ℕ
mark_bytes v = kind_number v.1 ∷ unit_bytes v.0 ++ mark_tail v.1

number_fits : (kind : MarkKind) → kind_number kind < 256
number_fits (Num numbers) = omega arith
number_fits Rec = omega arith
number_fits V1 = omega arith
number_fits (Bad1 index reason) = omega arith
number_fits Again1 = omega arith
number_fits V2 = omega arith
number_fits (Bad2 index reason) = omega arith
number_fits Again2 = omega arith
number_fits Gone = omega arith

is_mark_value : IsWhole IsMarkValue mark_bytes mark_value
unfolding mark_value
is_mark_value = is_whole (is_giving IsMarkValue mark_bytes (λ (x : (ℕ × UnitKey) × MarkKind). (x.0.1, x.1))
    (is_then (λ (x : ℕ × UnitKey). (x.0 < 256) × IsUnitKey x.1) (λ (x : ℕ × UnitKey). IsKindOf x.0) (λ (x : ℕ × UnitKey). x.0 ∷ [] ++ unit_bytes x.1) mark_tail
    (byte_at & unit_at) (λ x. kind_at x.0) (is_both is_byte is_unit) (λ x. is_kind x.0))
    (λ x is. (ap (λ (b : ℕ). (b ∷ [] ++ unit_bytes x.0.1) ++ mark_tail x.1) (sym is.1.1), (is.0.1, is.1.0)))
    (λ v is. (((kind_number v.1, v.0), v.1), refl, ((number_fits v.1, is.0), (is.1, refl)))))

abbrev mark_made : ℕ → UnitKey × MarkKind → Record
mark_made seq v = rec.Mark (record { seq = seq; unit = v.0; kind = v.1 })

pub mark_takes : (key value : List ℕ) (r : Record) → IsBytes key → IsBytes value → mark_at key value ≡ Some r → IsRecord r × (record_row r ≡ PutRow 4 key value)
unfolding mark_at
mark_takes = row_takes is_mark_key is_mark_value mark_made 4 (λ seq v is_seq is_v. ((is_seq, is_v.0, is_v.1), refl))

pub mark_again : (m : Mark) → IsRecord (rec.Mark m) → mark_at (big_bytes 8 m.seq) (mark_bytes (m.unit, m.kind)) ≡ Some (rec.Mark m)
unfolding mark_at
mark_again m is = row_again is_mark_key is_mark_value mark_made m.seq (m.unit, m.kind) is.0 (is.1, is.2)
