-- The rows of a unit are those of its records, which are in the grammar.
use Rattle.std.proofs.Common.{◌≡◌, ℕ, ◌+◌, ◌^◌, ◌<◌, ◌≤◌, map, List, [], ◌∷◌, ◌++◌, length, refl, ap, ◌∙◌, arith}
use Rattle.std.specs.Prelude.{IsTrue}
use Rattle.std.specs.List.{All, AllByRecursion}
use Rattle.std.proofs.lemmas.List.Elements.{recursion_from_All, All-from_recursion}
use Rattle.keeper_api.specs.declared.rows.Change.{Change}
use Rattle.enq_base.specs.Grammar.{is_name}
use Rattle.enq_base.specs.declared.owner.UnitKey.{UnitKey}
use Rattle.enq_base.specs.declared.unit.Effect.{Effect}
use Rattle.lock_entry.specs.declared.entry.Entry.{Entry as Lock}
use Rattle.update_records.specs.declared.records.MarkKind.{MarkKind}
use Rattle.update_records.specs.declared.records.MarkKind.TheVariants.{Num, Rec, V1, Bad1, Again1, V2, Bad2, Again2, Gone}
use Rattle.update_records.specs.declared.records.Unit.{Unit as UnitOfWork}
use Rattle.update_records.specs.declared.stored.Record.{Record}
use Rattle.update_records.specs.Grammar.{IsKind, IsUnitKey, IsEffect, IsNumber, IsEntryOf, IsHeldBy, HasNames}
use Rattle.update_records.specs.RecordRows.{header_row, module_row, step_row, step_rows, part_rows, lock_row, lock_rows, unit_rows}
use Rattle.update_records.specs.Spelling.{HasFields, IsRecord, IsPart, record_row, header_of, steps_of, part_of, locks_of, records_of}

-- ---- rows

map_append : (xs ys : List Record) → map record_row (xs ++ ys) ≡ map record_row xs ++ map record_row ys
map_append [] ys = refl
map_append (x ∷ xs) ys = ap (λ (rows : List Change). record_row x ∷ rows) (map_append xs ys)

steps_rows : (key : UnitKey) (part index : ℕ) (effects : List Effect) → map record_row (steps_of key part index effects) ≡ step_rows key part index effects
steps_rows key part index [] = refl
steps_rows key part index (effect ∷ effects) = ap (λ (rows : List Change). step_row key part index effect ∷ rows) (steps_rows key part (index + 1) effects)

part_is : (key : UnitKey) (part : ℕ) (effects : List Effect) → map record_row (part_of key part effects) ≡ part_rows key part effects
part_is key part [] = refl
part_is key part (effect ∷ effects) = ap (λ (rows : List Change). module_row key part (effect ∷ effects) ∷ rows) (steps_rows key part 1 (effect ∷ effects))

locks_are : (key : UnitKey) (index : ℕ) (locks : List Lock) → map record_row (locks_of key index locks) ≡ lock_rows key index locks
locks_are key index [] = refl
locks_are key index (lock ∷ locks) = ap (λ (rows : List Change). lock_row key index lock ∷ rows) (locks_are key (index + 1) locks)

pub unit_is : (unit : UnitOfWork) → map record_row (records_of unit) ≡ unit_rows unit
unit_is unit =
    let v1 = part_of unit.key 1 unit.parts.v1 in
    let v2 = part_of unit.key 2 unit.parts.v2 in
    let locks = locks_of unit.key 1 unit.entries in
    ap (λ (rows : List Change). header_row unit ∷ rows)
    (map_append (v1 ++ v2) locks ∙ ap (λ (rows : List Change). rows ++ map record_row locks) (map_append v1 v2)
    ∙ ap (λ (rows : List Change). (rows ++ map record_row v2) ++ map record_row locks) (part_is unit.key 1 unit.parts.v1)
    ∙ ap (λ (rows : List Change). (part_rows unit.key 1 unit.parts.v1 ++ rows) ++ map record_row locks) (part_is unit.key 2 unit.parts.v2)
    ∙ ap (λ (rows : List Change). (part_rows unit.key 1 unit.parts.v1 ++ part_rows unit.key 2 unit.parts.v2) ++ rows) (locks_are unit.key 1 unit.entries))

-- ---- the grammar

all_append : (xs ys : List Record) → AllByRecursion IsRecord xs → AllByRecursion IsRecord ys → AllByRecursion IsRecord (xs ++ ys)
all_append [] ys a b = b
all_append (x ∷ xs) ys a b = (a.0, all_append xs ys a.1 b)

steps_fit : (key : UnitKey) (part index : ℕ) (effects : List Effect) → IsUnitKey key → IsPart part → 1 ≤ index → index + length effects ≤ 2 ^ 16
    → AllByRecursion IsEffect effects
    → AllByRecursion IsRecord (steps_of key part index effects)
steps_fit key part index [] is_key is_part low high all = tt
steps_fit key part index (effect ∷ effects) is_key is_part low high all =
    ((is_key, is_part, (low, omega arith), all.0), steps_fit key part (index + 1) effects is_key is_part (omega arith) (omega arith) all.1)

part_fits : (key : UnitKey) (part : ℕ) (effects : List Effect) → IsUnitKey key → IsPart part → length effects ≤ 200 → All IsEffect effects
    → AllByRecursion IsRecord (part_of key part effects)
part_fits key part [] is_key is_part few all = tt
part_fits key part (effect ∷ effects) is_key is_part few all = (
  (is_key, is_part, omega arith),
  steps_fit key part 1 (effect ∷ effects) is_key is_part (omega arith) (omega arith)
      (recursion_from_All IsEffect (effect ∷ effects) all),
)

locks_fit : (unit : UnitOfWork) (index : ℕ) (locks : List Lock) → IsUnitKey unit.key → 1 ≤ index → index + length locks ≤ 2 ^ 32
    → AllByRecursion (IsEntryOf unit) locks
    → AllByRecursion IsRecord (locks_of unit.key index locks)
locks_fit unit index [] is_key low high all = tt
locks_fit unit index (lock ∷ locks) is_key low high all =
    let first : IsEntryOf unit lock = all.0 in (
      (is_key, (low, omega arith), first.table, first.mode, (first.low, omega arith), first.pattern),
      locks_fit unit (index + 1) locks is_key (omega arith)
          (omega arith) all.1,
    )

pub unit_fits : (unit : UnitOfWork) → IsUnitKey unit.key → IsTrue (is_name unit.user) → length unit.parts.v1 + length unit.parts.v2 ≤ 200
    → All IsEffect unit.parts.v1 → All IsEffect unit.parts.v2
    → length unit.numbers ≤ 64 → All IsNumber unit.numbers → length unit.entries < 2 ^ 32 → All (IsEntryOf unit) unit.entries → All IsRecord (records_of unit)
unit_fits unit key user few first second few_numbers numbers few_entries entries =
    let v1 = part_of unit.key 1 unit.parts.v1 in
    let v2 = part_of unit.key 2 unit.parts.v2 in
    let locks = locks_of unit.key 1 unit.entries in
    let head : IsRecord (header_of unit) = (key, user, omega arith, omega arith, few_entries, record { few = omega arith; each = numbers }) in
    let one : IsPart 1 = (omega arith, omega arith) in
    let two : IsPart 2 = (omega arith, omega arith) in
    All-from_recursion IsRecord (records_of unit) (
      head,
      all_append (v1 ++ v2) locks
          (all_append v1 v2 (part_fits unit.key 1 unit.parts.v1 key one (omega arith) first) (part_fits unit.key 2 unit.parts.v2 key two (omega arith) second))
          (locks_fit unit 1 unit.entries key (omega arith) (omega arith) (recursion_from_All (IsEntryOf unit) unit.entries entries)),
    )

-- a lock that is held, and is named as its type says
pub held_are : (unit : UnitOfWork) (locks : List Lock) → All (IsHeldBy unit) locks → All HasNames locks → All (IsEntryOf unit) locks
held_are unit locks held named i d h =
    let a = held i d h in
    let b = named i d h in
    record { owner = a.owner; user = a.user; table = b.0; pattern = b.1; mode = a.mode; low = a.low; high = a.high; handed = a.handed }

-- a kind that a ledger may have is in the grammar
pub kind_fits : (kind : MarkKind) → IsKind kind → HasFields kind
kind_fits (Num numbers) is = record { few = omega (arith, is.1); each = is.2 }
kind_fits Rec is = tt
kind_fits V1 is = tt
kind_fits (Bad1 index reason) is = is
kind_fits Again1 is = tt
kind_fits V2 is = tt
kind_fits (Bad2 index reason) is = is
kind_fits Again2 is = tt
kind_fits Gone is = tt
