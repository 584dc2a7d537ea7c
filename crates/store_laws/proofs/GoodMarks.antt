-- A good store breaks no rule on the start number, on marks, and on what their posts say.
use Rattle.std.proofs.Common.{◌≡◌, ℕ, zero, suc, ◌+◌, true, not, ◌&&◌, nat_eq, nat_le, List, [], ◌∷◌, ◌++◌, length, Some, None, if◌then◌else◌, Result, Ok, Err}
use Rattle.std.proofs.Common.{IsOk, refl, sym, ap, subst, ◌∙◌, length-append}
use Rattle.std.specs.List.{AllByRecursion, range_with_len}
use Rattle.std.specs.FinMap.{empty}
use Rattle.std.proofs.lemmas.Bool.{and_from, eq-eqb, le-leb}
use Rattle.std.proofs.lemmas.List.Elements.{recursion_from_All}
use Rattle.std.proofs.lemmas.List.Sums.{fold-append}
use Rattle.enq_base.specs.declared.owner.UnitKey.{UnitKey}
use Rattle.enq_base.specs.declared.unit.Effect.{Effect}
use Rattle.enq_base.specs.declared.unit.Reason.{Reason}
use Rattle.module_effects.specs.Effects.{applied}
use Rattle.module_effects.specs.Rows.{Tables}
use Rattle.module_effects.specs.declared.fault.EffectFault.{EffectFault}
use Rattle.module_effects.specs.declared.fault.EffectFault.TheVariants.{Refused}
use Rattle.update_records.specs.Business.{part_of, posted, AreRight as ArePostsRight, IsRightMark}
use Rattle.update_records.specs.Ledger.{Ledger, IsLawful, IsMarkUnder}
use Rattle.update_records.specs.Marks.{has_no_v2, may_follow, status_after, v1_of, v2_of, IsLegalAfter}
use Rattle.update_records.specs.RecordRows.{reason_number}
use Rattle.update_records.specs.declared.records.Mark.{Mark}
use Rattle.update_records.specs.declared.records.MarkKind.{MarkKind}
use Rattle.update_records.specs.declared.records.MarkKind.TheVariants.{Num, Rec, V1, Bad1, Again1, V2, Bad2, Again2, Gone}
use Rattle.update_records.specs.declared.records.Unit.{Unit as UnitOfWork}
use Rattle.update_records.specs.declared.stored.Record.{Record}
use Rattle.update_records.specs.declared.stored.Record.TheVariants as rec
use Rattle.store_reading.specs.First.{first_wrong, AreRight}
use Rattle.store_reading.specs.Posts.{effects_of, is_done, is_refused, is_right_post, tables_by, tables_with}
use Rattle.store_reading.specs.Rules.{has_meta, has_number, has_second, is_right_mark, mark_fault, marks_in, meta_fault, number_fault}
use Rattle.store_reading.specs.Stores.{start_in}
use Rattle.store_reading.specs.Told.{records_in}
use Rattle.store_reading.proofs.lemmas.Followings.{HaveEffects, one_follows}
use Rattle.store_laws.proofs.GoodHeaders.{second_told}
use Rattle.store_laws.proofs.GoodRecords.{have_effects, mark_table, start_table}
use Rattle.store_laws.proofs.GoodTables.{AreRecordsOf}
use Rattle.store_laws.proofs.LedgerRecords.{mark_records, seqs, start_record}
use Rattle.store_reading.proofs.lemmas.Legal.{none_wrong}
use Rattle.store_reading.proofs.lemmas.Statuses.{marks_push}

-- ---- the start number and the numbers of the marks

length_marks : (marks : List Mark) → length (mark_records marks) ≡ length marks
length_marks [] = refl
length_marks (m ∷ marks) = ap suc (length_marks marks)

pub numbered_back : (before : List Record) (marks : List Mark) (n : ℕ) → seqs marks ≡ range_with_len (length before + 1) n
    → AreRight (λ before. has_number (length before + 1)) before (mark_records marks)
numbered_back before [] n is = tt
numbered_back before (m ∷ marks) zero is = cc
numbered_back before (m ∷ marks) (suc n) is =
    let first : m.seq ≡ length before + 1 = cc in
    let rest : seqs marks ≡ range_with_len (length before + 1 + 1) n = cc in
    let longer : length before + 1 ≡ length (before ++ rec.Mark m ∷ []) = sym (length-append before (rec.Mark m ∷ [])) in
    (eq-eqb m.seq (length before + 1) first, numbered_back (before ++ rec.Mark m ∷ []) marks n (rest ∙ ap (λ k. range_with_len (k + 1) n) longer))

-- ---- what the marks say of their units

legal_back : (start : ℕ) (headers : List Record) (units : List UnitOfWork) (before : List Record) (marks : List Mark)
    → ((key : UnitKey) → has_no_v2 units key ≡ not (has_second headers key))
    → AllByRecursion (IsMarkUnder start) marks → IsLegalAfter units (marks_in before) marks → AreRight (is_right_mark start headers) before (mark_records marks)
legal_back start headers units before [] second under legal = tt
legal_back start headers units before (m ∷ marks) second under legal =
    let follows : may_follow (status_after (not (has_second headers m.unit)) m.unit None (marks_in before)) m.kind ≡ true =
    ap (λ b. may_follow (status_after b m.unit None (marks_in before)) m.kind) (sym (second m.unit)) ∙ legal.0 in (
      and_from (nat_le 1 m.unit.start)
          (nat_le m.unit.start start && may_follow (status_after (not (has_second headers m.unit)) m.unit None (marks_in before)) m.kind)
          (le-leb 1 m.unit.start under.0.first)
          (and_from (nat_le m.unit.start start) (may_follow (status_after (not (has_second headers m.unit)) m.unit None (marks_in before)) m.kind)
          (le-leb m.unit.start start under.0.last) follows),
      legal_back start headers units (before ++ rec.Mark m ∷ []) marks second under.1
          (subst (λ ms. IsLegalAfter units ms marks) (sym (marks_push before m)) legal.1),
    )

-- ---- what their posts say

done_of : (r : Result Tables EffectFault) → IsOk r → is_done r ≡ true
done_of (Ok tables) h = refl
done_of (Err fault) h = h

refused_of : (index : ℕ) (reason : Reason) (r : Result Tables EffectFault) → r ≡ Err (Refused index reason) → is_refused index reason r ≡ true
refused_of index reason r h =
    ap (is_refused index reason) h ∙ and_from (nat_eq index index) (nat_eq (reason_number reason) (reason_number reason)) (eq-eqb index index refl)
    (eq-eqb (reason_number reason) (reason_number reason) refl)

one_result : (es fs : List Effect) (s t : Tables) → es ≡ fs → s ≡ t → applied es s ≡ applied fs t
one_result es fs s t effects tables = λ i. applied (effects i) (tables i)

post_back : (steps : List Record) (units : List UnitOfWork) → HaveEffects steps units → (before : List Record) (tables : Tables)
    → tables_by steps before ≡ tables → (seq : ℕ) (unit : UnitKey) (kind : MarkKind)
    → IsRightMark units tables (record { seq = seq; unit = unit; kind = kind })
    → is_right_post steps before (rec.Mark (record { seq = seq; unit = unit; kind = kind })) ≡ true
post_back steps units have before tables same seq unit (Num numbers) h = refl
post_back steps units have before tables same seq unit Rec h = refl
post_back steps units have before tables same seq unit V1 h =
    ap is_done (one_result (effects_of steps unit 1) (v1_of units unit) (tables_by steps before) tables (have.first unit) same)
    ∙ done_of (applied (v1_of units unit) tables) h
post_back steps units have before tables same seq unit (Bad1 index reason) h =
    ap (is_refused index reason) (one_result (effects_of steps unit 1) (v1_of units unit) (tables_by steps before) tables (have.first unit) same)
    ∙ refused_of index reason (applied (v1_of units unit) tables) h
post_back steps units have before tables same seq unit Again1 h = refl
post_back steps units have before tables same seq unit V2 h =
    ap is_done (one_result (effects_of steps unit 2) (v2_of units unit) (tables_by steps before) tables (have.second unit) same)
    ∙ done_of (applied (v2_of units unit) tables) h
post_back steps units have before tables same seq unit (Bad2 index reason) h =
    ap (is_refused index reason) (one_result (effects_of steps unit 2) (v2_of units unit) (tables_by steps before) tables (have.second unit) same)
    ∙ refused_of index reason (applied (v2_of units unit) tables) h
post_back steps units have before tables same seq unit Again2 h = refl
post_back steps units have before tables same seq unit Gone h = refl

posts_back : (steps : List Record) (units : List UnitOfWork) → HaveEffects steps units → (before : List Record) (tables : Tables) (marks : List Mark)
    → tables_by steps before ≡ tables → ArePostsRight units tables marks
    → AreRight (is_right_post steps) before (mark_records marks)
posts_back steps units have before tables [] same right = tt
posts_back steps units have before tables (m ∷ marks) same right =
    let next : tables_by steps (before ++ rec.Mark m ∷ []) ≡ posted (part_of units m) tables =
    fold-append (tables_with steps) empty before (rec.Mark m ∷ []) ∙ ap (λ t. tables_with steps t (rec.Mark m)) same
    ∙ one_follows steps units have tables m.seq m.unit m.kind in (
      post_back steps units have before tables same m.seq m.unit m.kind right.0,
      posts_back steps units have (before ++ rec.Mark m ∷ [])
          (posted (part_of units m) tables) marks next right.1,
    )

-- ---- the rules

module _ (records : List (List Record)) (ledger : Ledger) (law : IsLawful ledger) (are : AreRecordsOf records ledger) where
  pub marks_many : length (records_in records 4) ≡ length ledger.marks
  marks_many = ap (λ (rs : List Record). length rs) (mark_table records ledger law are) ∙ length_marks ledger.marks

  one_start : has_meta (start_record ledger ∷ []) (length ledger.marks) ≡ true
  one_start =
      let n = length ledger.marks in
      and_from (nat_le 1 ledger.start) (nat_eq n n && nat_le n 1048576) (le-leb 1 ledger.start law.started)
      (and_from (nat_eq n n) (nat_le n 1048576) (eq-eqb n n refl) (le-leb n 1048576 law.few))

  pub start_right : meta_fault (records_in records 0) (length (records_in records 4)) ≡ None
  start_right =
      ap (λ (rs : List Record). meta_fault rs (length (records_in records 4))) (start_table records ledger law are)
      ∙ ap (meta_fault (start_record ledger ∷ [])) marks_many
      ∙ ap (λ b. if b then None else Some (record { table = 0; row = 1 })) one_start

  pub numbers_right : number_fault (records_in records 4) ≡ None
  numbers_right =
      ap number_fault (mark_table records ledger law are)
      ∙ none_wrong (λ before. has_number (length before + 1)) 4 [] (mark_records ledger.marks)
      (numbered_back [] ledger.marks (length ledger.marks) law.numbered)

  pub marks_right : mark_fault (start_in (records_in records 0)) (records_in records 1) (records_in records 4) ≡ None
  marks_right =
      let headers = records_in records 1 in
      ap (λ (rs : List Record). mark_fault (start_in rs) headers (records_in records 4)) (start_table records ledger law are)
      ∙ ap (mark_fault ledger.start headers) (mark_table records ledger law are)
      ∙ none_wrong (is_right_mark ledger.start headers) 4 [] (mark_records ledger.marks)
      (legal_back ledger.start headers ledger.units [] ledger.marks (second_told records ledger law are)
      (recursion_from_All (IsMarkUnder ledger.start) ledger.marks law.marks) law.legal)

  pub posts_right : first_wrong (is_right_post (records_in records 3)) 4 [] (records_in records 4) ≡ None
  posts_right =
      let steps = records_in records 3 in
      ap (first_wrong (is_right_post steps) 4 []) (mark_table records ledger law are)
      ∙ none_wrong (is_right_post steps) 4 [] (mark_records ledger.marks)
      (posts_back steps ledger.units (have_effects records ledger law are) [] empty ledger.marks refl law.right)
