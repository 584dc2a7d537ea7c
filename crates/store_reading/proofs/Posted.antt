-- Marks of posts of which none is wrong are right among the units that the rows spell.
use Rattle.std.proofs.Common.{◌≡◌, ℕ, true, false, nat_eq, List, [], ◌∷◌, ◌++◌, Result, Ok, Err, refl, ap, subst, ◌∙◌}
use Rattle.std.specs.Prelude.{IsOk}
use Rattle.std.specs.FinMap.{empty}
use Rattle.std.proofs.lemmas.Bool.{and_parts, eqb-true}
use Rattle.std.proofs.lemmas.List.Sums.{fold-append}
use Rattle.enq_base.specs.declared.owner.UnitKey.{UnitKey}
use Rattle.enq_base.specs.declared.unit.Effect.{Effect}
use Rattle.enq_base.specs.declared.unit.Reason.{Reason}
use Rattle.enq_base.specs.declared.unit.Reason.TheVariants.{Duplicate, Missing, NotNumber, Overflow}
use Rattle.module_effects.specs.Effects.{applied}
use Rattle.module_effects.specs.Rows.{Tables}
use Rattle.module_effects.specs.declared.fault.EffectFault.{EffectFault}
use Rattle.module_effects.specs.declared.fault.EffectFault.TheVariants.{Refused, NoMemory}
use Rattle.update_records.specs.Business.{AreRight, IsRightMark, part_of, posted}
use Rattle.update_records.specs.Marks.{v1_of, v2_of}
use Rattle.update_records.specs.RecordRows.{reason_number}
use Rattle.update_records.specs.declared.records.Mark.{Mark}
use Rattle.update_records.specs.declared.records.MarkKind.{MarkKind}
use Rattle.update_records.specs.declared.records.MarkKind.TheVariants.{V1, Bad1, V2, Bad2}
use Rattle.update_records.specs.declared.records.Unit.{Unit as UnitOfWork}
use Rattle.update_records.specs.declared.stored.Record.{Record}
use Rattle.update_records.specs.declared.stored.Record.TheVariants as rec
use Rattle.store_reading.specs.First.{AreRight as EachRight}
use Rattle.store_reading.specs.Posts.{effects_of, is_done, is_refused, is_right_post, tables_by, tables_with}
use Rattle.store_reading.specs.Rules.{marks_in}

one_reason : (a b : Reason) → nat_eq (reason_number a) (reason_number b) ≡ true → a ≡ b
one_reason Duplicate Duplicate h = refl
one_reason Missing Missing h = refl
one_reason NotNumber NotNumber h = refl
one_reason Overflow Overflow h = refl
one_reason a b h = let odd : false ≡ true = h in cc

done_of : (r : Result Tables EffectFault) → is_done r ≡ true → IsOk r
done_of (Ok tables) h = refl
done_of (Err fault) h = cc

refused_of : (index : ℕ) (reason : Reason) (r : Result Tables EffectFault) → is_refused index reason r ≡ true → r ≡ Err (Refused index reason)
refused_of index reason (Ok tables) h = cc
refused_of index reason (Err (Refused at why)) h =
    let both = and_parts (nat_eq index at) (nat_eq (reason_number reason) (reason_number why)) h in
    let place : index ≡ at = eqb-true index at both.0 in
    let one : reason ≡ why = one_reason reason why both.1 in
    cc
refused_of index reason (Err NoMemory) h = cc

-- the rows give each part what its unit has
pub record GiveParts (steps : List Record) (units : List UnitOfWork) : Type 0 where
  pub first : (key : UnitKey) → effects_of steps key 1 ≡ v1_of units key
  pub second : (key : UnitKey) → effects_of steps key 2 ≡ v2_of units key

module _ (steps : List Record) (units : List UnitOfWork) (give : GiveParts steps units) where
  same_answer : (P : Result Tables EffectFault → Type 0) (xs ys : List Effect) (a b : Tables) → xs ≡ ys → a ≡ b → P (applied xs a) → P (applied ys b)
  same_answer P xs ys a b effects tables h = subst (λ t. P (applied ys t)) tables (subst (λ es. P (applied es a)) effects h)

  right_kind : (m : Mark) (kind : MarkKind) (before : List Record) (tables : Tables) → tables_by steps before ≡ tables
      → is_right_post steps before (rec.Mark (record m { kind = kind })) ≡ true
      → IsRightMark units tables (record m { kind = kind })
  right_kind m V1 before tables same h = same_answer IsOk (effects_of steps m.unit 1) (v1_of units m.unit) (tables_by steps before) tables
      (give.first m.unit) same (done_of _ h)
  right_kind m V2 before tables same h = same_answer IsOk (effects_of steps m.unit 2) (v2_of units m.unit) (tables_by steps before) tables
      (give.second m.unit) same (done_of _ h)
  right_kind m (Bad1 index reason) before tables same h =
      same_answer (λ r. r ≡ Err (Refused index reason)) (effects_of steps m.unit 1) (v1_of units m.unit) (tables_by steps before) tables
      (give.first m.unit) same
      (refused_of index reason (applied (effects_of steps m.unit 1) (tables_by steps before)) h)
  right_kind m (Bad2 index reason) before tables same h =
      same_answer (λ r. r ≡ Err (Refused index reason)) (effects_of steps m.unit 2) (v2_of units m.unit) (tables_by steps before) tables
      (give.second m.unit) same
      (refused_of index reason (applied (effects_of steps m.unit 2) (tables_by steps before)) h)
  right_kind m kind before tables same h = tt

  tables_kind : (m : Mark) (kind : MarkKind) (tables : Tables) → tables_with steps tables (rec.Mark (record m { kind = kind })) ≡ posted
      (part_of units (record m { kind = kind })) tables
  tables_kind m V1 tables = ap (λ es. posted es tables) (give.first m.unit)
  tables_kind m V2 tables = ap (λ es. posted es tables) (give.second m.unit)
  tables_kind m kind tables = refl

  tables_on : (before : List Record) (r : Record) → tables_by steps (before ++ r ∷ []) ≡ tables_with steps (tables_by steps before) r
  tables_on before r = fold-append (tables_with steps) empty before (r ∷ [])

  right_from : (before records : List Record) (tables : Tables) → tables_by steps before ≡ tables → EachRight (is_right_post steps) before records
      → AreRight units tables (marks_in records)
  right_from before [] tables same h = tt
  right_from before (rec.Mark m ∷ records) tables same h = (
    right_kind m m.kind before tables same h.0,
    right_from (before ++ rec.Mark m ∷ []) records (posted (part_of units m) tables)
        (tables_on before (rec.Mark m) ∙ ap (λ t. tables_with steps t (rec.Mark m)) same ∙ tables_kind m m.kind tables) h.1,
  )
  right_from before (r ∷ records) tables same h = right_from (before ++ r ∷ []) records tables (tables_on before r ∙ same) h.1

  pub posts_right : (marks : List Record) → EachRight (is_right_post steps) [] marks → AreRight units empty (marks_in marks)
  posts_right marks h = right_from [] marks empty refl h
