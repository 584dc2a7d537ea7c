-- Each business row of a lawful ledger is in the grammar: effects in the grammar leave rows in it.
use Rattle.std.proofs.Common.{◌≡◌, ℕ, ◌+◌, ◌<◌, ◌^◌, Bool, true, false, cond, ◌&&◌, List, [], ◌∷◌, length, Option, Some, None, IfSome, IsTrue, Result, Ok, Err, ℤ, pos, negsuc, if◌then◌else◌, refl, sym, subst}
use Rattle.std.specs.Fmt.{signed_decimal}
use Rattle.std.specs.FinMap.{empty, get, get-empty}
use Rattle.std.specs.List.{AllByRecursion, list_all}
use Rattle.std.specs.Option.{option_map_or}
use Rattle.std.specs.Prelude.{nat_le, ◌+ℤ◌}
use Rattle.std.proofs.lemmas.Bool.{ltb-true}
use Rattle.std.proofs.lemmas.List.Elements.{recursion_from_All}
use lib.Signed.{mag}
use Rattle.enq_base.specs.Grammar.{is_key, is_name, is_text, is_text_byte}
use Rattle.enq_base.specs.Owners.{same_unit}
use Rattle.enq_base.specs.declared.owner.UnitKey.{UnitKey}
use Rattle.enq_base.specs.declared.unit.Deed.{Deed}
use Rattle.enq_base.specs.declared.unit.Deed.TheVariants.{Put, Ins, Del, Add}
use Rattle.enq_base.specs.declared.unit.Effect.{Effect}
use Rattle.enq_base.specs.declared.unit.Reason.{Reason}
use Rattle.enq_base.specs.declared.unit.Reason.TheVariants.{Overflow}
use Rattle.module_effects.proofs.lemmas.Integers.{integer_bytes, integer_length}
use Rattle.module_effects.proofs.lemmas.Tables.{same_row, same_row-Decides, get-with_row}
use Rattle.module_effects.specs.Effects.{applied, applied_from, row_after, addend_in, added_row, sum_row}
use Rattle.module_effects.specs.Integers.{is_i64}
use Rattle.module_effects.specs.Rows.{RowName, Tables, row_cmp, row_of, with_row}
use Rattle.module_effects.specs.declared.fault.EffectFault.{EffectFault}
use Rattle.module_effects.specs.declared.fault.EffectFault.TheVariants as fault
use Rattle.update_records.specs.Business.{part_of, posted, tables_after, tables_of, tables_or}
use Rattle.update_records.specs.Grammar.{IsDeed, IsEffect, IsUnit}
use Rattle.update_records.specs.Marks.{unit_at, v1_of, v2_of}
use Rattle.update_records.specs.declared.records.Mark.{Mark}
use Rattle.update_records.specs.declared.records.MarkKind.{MarkKind}
use Rattle.update_records.specs.declared.records.MarkKind.TheVariants.{Num, Rec, V1, Bad1, Again1, V2, Bad2, Again2, Gone}
use Rattle.update_records.specs.declared.records.Unit.{Unit as UnitOfWork}

-- a business row in the grammar
pub record IsRow (name : RowName) (text : List ℕ) : Type 0 where
  pub table : IsTrue (is_name name.0)
  pub key : IsTrue (is_key name.1)
  pub spelt : IsTrue (is_text text)

abbrev pub AreRows : Tables → Type 0
AreRows tables = (name : RowName) → IfSome (get tables name) (IsRow name)

none_rows : AreRows empty
none_rows name = subst (λ o. IfSome o (IsRow name)) (sym (get-empty row_cmp name)) tt

-- ---- one effect

abbrev IsText : List ℕ → Type 0
IsText text = IsTrue (is_text text)

small : (z : ℤ) → IsTrue (is_i64 z) → mag z < 2 ^ 63
small (pos n) h = ltb-true n (2 ^ 63) h
small (negsuc n) h = ltb-true n (2 ^ 63) h

text_of : (a b c : Bool) → a ≡ true → (b && c) ≡ true → ((a && b) && c) ≡ true
text_of true b c h k = k
text_of false b c h k = cc

sum_text : (z : ℤ) → IsTrue (is_i64 z) → IsText (signed_decimal z)
sum_text z h =
    text_of (list_all is_text_byte (signed_decimal z)) (nat_le 1 (length (signed_decimal z))) (nat_le (length (signed_decimal z)) 512)
    (integer_bytes z (small z h)) (integer_length z (small z h))

abbrev OnOkText : Result (Option (List ℕ)) Reason → Type 0
OnOkText (Ok text) = IfSome text IsText
OnOkText (Err reason) = Unit {0}

summed : (z : ℤ) → OnOkText (sum_row z)
summed z = elim (is_i64 z) as (λ b. is_i64 z ≡ b → OnOkText (if b then Ok (Some (signed_decimal z)) else Err Overflow))
    [ true ↦ λ is. sum_text z is | false ↦ λ is. tt ] refl

added : (m : Option ℤ) (n : ℤ) → OnOkText (added_row m n)
added None n = tt
added (Some m) n = summed (m +ℤ n)

deed_text : (row : Option (List ℕ)) (deed : Deed) → IsDeed deed → OnOkText (row_after row deed)
deed_text row (Put text) is = is
deed_text None (Ins text) is = is
deed_text (Some old) (Ins text) is = tt
deed_text None Del is = tt
deed_text (Some old) Del is = tt
deed_text row (Add n) is = added (addend_in row) n

left_row : (name : RowName) (text : Option (List ℕ)) → IsTrue (is_name name.0) → IsTrue (is_key name.1) → IfSome text IsText → IfSome text (IsRow name)
left_row name None table key is = tt
left_row name (Some text) table key is = record { table = table; key = key; spelt = is }

one_row : (tables : Tables) (row : RowName) (text : Option (List ℕ)) → AreRows tables → IfSome text (IsRow row) → AreRows (with_row tables row text)
one_row tables row text all is name =
    subst (λ o. IfSome o (IsRow name)) (sym (get-with_row tables row text name))
    (elim (same_row name row) as (λ b. same_row name row ≡ b → IfSome (cond b text (get tables name)) (IsRow name)) [
      | true ↦ λ e. subst (λ n. IfSome text (IsRow n)) (sym ((same_row-Decides name row).0 e)) is
      | false ↦ λ e. all name
    ] refl)

-- ---- parts and marks

abbrev OnOkTables : Result Tables EffectFault → Type 0
OnOkTables (Ok tables) = AreRows tables
OnOkTables (Err fault) = Unit {0}

applied_rows : (index : ℕ) (effects : List Effect) (tables : Tables) → AllByRecursion IsEffect effects → AreRows tables
    → OnOkTables (applied_from index effects tables)
applied_rows index [] tables are all = all
applied_rows index (effect ∷ effects) tables are all =
    elim (row_after (get tables (row_of effect)) effect.deed) as (λ r. OnOkText r
    → OnOkTables (elim r [ Ok row ↦ applied_from (index + 1) effects (with_row tables (row_of effect) row) | Err reason ↦ Err (fault.Refused index reason) ])) [
      | Ok row ↦ λ is. applied_rows (index + 1) effects (with_row tables (row_of effect) row) are.1
          (one_row tables (row_of effect) row all (left_row (row_of effect) row are.0.table are.0.key is))
      | Err reason ↦ λ is. tt
    ] (deed_text (get tables (row_of effect)) effect.deed are.0.deed)

posted_rows : (effects : List Effect) (tables : Tables) → AllByRecursion IsEffect effects → AreRows tables → AreRows (posted effects tables)
posted_rows effects tables are all =
    elim (applied effects tables) as (λ r. OnOkTables r → AreRows (tables_or tables r)) [ Ok after ↦ λ h. h | Err e ↦ λ h. all ]
    (applied_rows 1 effects tables are all)

first_effects : (units : List UnitOfWork) (key : UnitKey) → AllByRecursion IsUnit units → AllByRecursion IsEffect (v1_of units key)
first_effects [] key all = tt
first_effects (u ∷ units) key all =
    elim (same_unit u.key key) as (λ b. AllByRecursion IsEffect (option_map_or (λ (x : UnitOfWork). x.parts.v1) (cond b (Some u) (unit_at units key)) [])) [
      | true ↦ recursion_from_All IsEffect u.parts.v1 all.0.first
      | false ↦ first_effects units key all.1
    ]

second_effects : (units : List UnitOfWork) (key : UnitKey) → AllByRecursion IsUnit units → AllByRecursion IsEffect (v2_of units key)
second_effects [] key all = tt
second_effects (u ∷ units) key all =
    elim (same_unit u.key key) as (λ b. AllByRecursion IsEffect (option_map_or (λ (x : UnitOfWork). x.parts.v2) (cond b (Some u) (unit_at units key)) [])) [
      | true ↦ recursion_from_All IsEffect u.parts.v2 all.0.second
      | false ↦ second_effects units key all.1
    ]

part_effects : (units : List UnitOfWork) (seq : ℕ) (key : UnitKey) (kind : MarkKind) → AllByRecursion IsUnit units
    → AllByRecursion IsEffect (part_of units (record { seq = seq; unit = key; kind = kind }))
part_effects units seq key V1 all = first_effects units key all
part_effects units seq key V2 all = second_effects units key all
part_effects units seq key (Num numbers) all = tt
part_effects units seq key Rec all = tt
part_effects units seq key (Bad1 index reason) all = tt
part_effects units seq key Again1 all = tt
part_effects units seq key (Bad2 index reason) all = tt
part_effects units seq key Again2 all = tt
part_effects units seq key Gone all = tt

rows_after : (units : List UnitOfWork) (tables : Tables) (marks : List Mark) → AllByRecursion IsUnit units → AreRows tables
    → AreRows (tables_after units tables marks)
rows_after units tables [] are all = all
rows_after units tables (m ∷ marks) are all =
    rows_after units (posted (part_of units m) tables) marks are (posted_rows (part_of units m) tables (part_effects units m.seq m.unit m.kind are) all)

-- what units in the grammar leave is in the grammar
pub business_fits : (units : List UnitOfWork) (marks : List Mark) → AllByRecursion IsUnit units → AreRows (tables_of units marks)
business_fits units marks are = rows_after units empty marks are none_rows
