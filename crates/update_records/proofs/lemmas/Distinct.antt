-- No two rows of a unit stand in one place.
use Rattle.std.proofs.Common.{◌≡◌, ℕ, ◌+◌, ◌^◌, ◌<◌, ◌≤◌, true, false, map, cond, eqb, List, [], ◌∷◌, ◌++◌, length, drop, get_or, refl, sym, ap, subst, ◌∙◌, arith}
use Rattle.std.proofs.Common.{take, Some}
use Rattle.std.specs.List.{AllByRecursion, Contains, IsDistinct}
use Rattle.std.proofs.lemmas.List.Elements.{All-contains, All-from_recursion}
use Rattle.update_records.specs.Grammar.{IsUnitKey}
use Rattle.update_records.specs.Reading.{unit_at}
use Rattle.byte_fields.proofs.lemmas.FieldLaws.{some_is}
use Rattle.update_records.proofs.RowLaws.{is_unit}
use Rattle.std.proofs.lemmas.Map.Keys.{IsDistinct-head, IsDistinct-tail, IsDistinct-cons}
use Rattle.byteorder.specs.Endian.{big_bytes, big_from}
use Rattle.byteorder.specs.Numbers.{big_number-reads_back}
use Rattle.keeper_api.specs.declared.rows.Change.{Change}
use Rattle.keeper_api.specs.Rows.{Spot}
use Rattle.keeper_api.specs.Batch.{spot_of, is_same_spot, IsBatch}
use Rattle.keeper_api.specs.RowLaws.{same_spot}
use Rattle.enq_base.specs.declared.owner.UnitKey.{UnitKey}
use Rattle.enq_base.specs.declared.unit.Effect.{Effect}
use Rattle.lock_entry.specs.declared.entry.Entry.{Entry as Lock}
use Rattle.update_records.specs.declared.records.Unit.{Unit as UnitOfWork}
use Rattle.update_records.specs.RecordRows.{header_row, unit_rows, module_row, step_row, step_rows, part_rows, lock_row, lock_rows, unit_bytes}

abbrev pub spots : List Change → List Spot
spots cs = map spot_of cs

-- the spot is none of these rows'
abbrev pub IsApart : Spot → List Change → Type 0
IsApart s cs = AllByRecursion (λ y. is_same_spot s y ≡ false) (spots cs)

abbrev pub AllApart : List Change → List Change → Type 0
AllApart xs ys = AllByRecursion (λ x. IsApart (spot_of x) ys) xs

abbrev pub AreDistinct : List Change → Type 0
AreDistinct cs = IsDistinct is_same_spot (spots cs)

pub not_same : (a b : Spot) → (a ≡ b → ⊥) → is_same_spot a b ≡ false
not_same a b h = elim (is_same_spot a b) as (λ r. is_same_spot a b ≡ r → r ≡ false) [ true ↦ λ e. absurd (h (same_spot a b e)) | false ↦ λ e. refl ] refl

spots_append : (xs ys : List Change) → spots (xs ++ ys) ≡ spots xs ++ spots ys
spots_append [] ys = refl
spots_append (x ∷ xs) ys = ap (λ r. spot_of x ∷ r) (spots_append xs ys)

pub all_append : {X : Type 0} (P : X → Type 0) (xs ys : List X) → AllByRecursion P xs → AllByRecursion P ys → AllByRecursion P (xs ++ ys)
all_append P [] ys a b = b
all_append P (x ∷ xs) ys a b = (a.0, all_append P xs ys a.1 b)

pub none_distinct : AreDistinct []
unfolding IsDistinct
none_distinct = tt

-- two lists of rows, of which no row is in both
pub distinct_append : (xs ys : List Change) → AreDistinct xs → AreDistinct ys → AllApart xs ys → AreDistinct (xs ++ ys)
distinct_append [] ys dx dy apart = dy
distinct_append (x ∷ xs) ys dx dy apart =
    let head = IsDistinct-head is_same_spot (spot_of x) (spots xs) dx in
    IsDistinct-cons is_same_spot (spot_of x) (spots (xs ++ ys))
    (subst (λ ss. AllByRecursion (λ y. is_same_spot (spot_of x) y ≡ false) ss) (sym (spots_append xs ys))
    (all_append (λ y. is_same_spot (spot_of x) y ≡ false) (spots xs) (spots ys) head apart.0))
    (distinct_append xs ys (IsDistinct-tail is_same_spot (spot_of x) (spots xs) dx) dy apart.1)

-- ---- a number that a spot shows

abbrev HasTag : (Spot → ℕ) → ℕ → List Change → Type 0
HasTag tag n cs = AllByRecursion (λ c. tag (spot_of c) ≡ n) cs

tag_append : (tag : Spot → ℕ) (n : ℕ) (xs ys : List Change) → HasTag tag n xs → HasTag tag n ys → HasTag tag n (xs ++ ys)
tag_append tag n xs ys a b = all_append (λ c. tag (spot_of c) ≡ n) xs ys a b

tag_apart : (tag : Spot → ℕ) (m n : ℕ) → (m ≡ n → ⊥) → (x : Spot) → tag x ≡ m → (ys : List Change) → HasTag tag n ys → IsApart x ys
tag_apart tag m n differ x is [] h = tt
tag_apart tag m n differ x is (y ∷ ys) h = (not_same x (spot_of y) (λ e. differ (sym is ∙ ap tag e ∙ h.0)), tag_apart tag m n differ x is ys h.1)

tags_apart : (tag : Spot → ℕ) (m n : ℕ) → (m ≡ n → ⊥) → (xs ys : List Change) → HasTag tag m xs → HasTag tag n ys → AllApart xs ys
tags_apart tag m n differ [] ys a b = tt
tags_apart tag m n differ (x ∷ xs) ys a b = (tag_apart tag m n differ (spot_of x) a.0 ys b, tags_apart tag m n differ xs ys a.1 b)

abbrev table_tag : Spot → ℕ
table_tag s = s.0

-- 1 for a header, 7 for a lock, 2 for the rows of a part
abbrev kind_tag : Spot → ℕ
kind_tag s = cond (eqb s.0 1) 1 (cond (eqb s.0 7) 7 2)

-- the part that a module or step row is of
abbrev part_tag : Spot → ℕ
part_tag s = get_or s.1 12 0

-- ---- steps

steps_in : (key : UnitKey) (part index : ℕ) (effects : List Effect) → HasTag table_tag 3 (step_rows key part index effects)
steps_in key part index [] = tt
steps_in key part index (effect ∷ effects) = (refl, steps_in key part (index + 1) effects)

steps_kind : (key : UnitKey) (part index : ℕ) (effects : List Effect) → HasTag kind_tag 2 (step_rows key part index effects)
steps_kind key part index [] = tt
steps_kind key part index (effect ∷ effects) = (refl, steps_kind key part (index + 1) effects)

part_kind : (key : UnitKey) (part : ℕ) (effects : List Effect) → HasTag kind_tag 2 (part_rows key part effects)
part_kind key part [] = tt
part_kind key part (effect ∷ effects) = (refl, steps_kind key part 1 (effect ∷ effects))

part_at : (key : UnitKey) (part : ℕ) (rest : List ℕ) → get_or (unit_bytes key ++ part ∷ rest) 12 0 ≡ part
part_at key part rest = refl

steps_part : (key : UnitKey) (part index : ℕ) (effects : List Effect) → HasTag part_tag part (step_rows key part index effects)
steps_part key part index [] = tt
steps_part key part index (effect ∷ effects) = (part_at key part (big_bytes 2 index), steps_part key part (index + 1) effects)

part_part : (key : UnitKey) (part : ℕ) (effects : List Effect) → HasTag part_tag part (part_rows key part effects)
part_part key part [] = tt
part_part key part (effect ∷ effects) = (part_at key part [], steps_part key part 1 (effect ∷ effects))

-- the place of a step
abbrev step_tag : Spot → ℕ
step_tag s = big_from 0 2 (drop 13 s.1)

step_at : (key : UnitKey) (part index : ℕ) → index < 65536 → big_from 0 2 (drop 13 (unit_bytes key ++ part ∷ big_bytes 2 index)) ≡ index
step_at key part index h = big_number-reads_back 2 index [] h

step_place : (key : UnitKey) (part index : ℕ) (effect : Effect) → index < 65536 → step_tag (spot_of (step_row key part index effect)) ≡ index
step_place key part index effect h = step_at key part index h

-- all later steps have later places
later_steps : (key : UnitKey) (part low index : ℕ) (effects : List Effect) → low < index → index + length effects ≤ 65536 → (x : Spot) → step_tag x ≡ low
    → IsApart x (step_rows key part index effects)
later_steps key part low index [] h fits x is = tt
later_steps key part low index (effect ∷ effects) h fits x is = (
  not_same x (spot_of (step_row key part index effect))
      (λ e. let same : low ≡ index = sym is ∙ ap step_tag e ∙ step_place key part index effect (omega arith) in omega arith),
  later_steps key part low (index + 1) effects (omega arith) (omega arith) x is,
)

steps_distinct : (key : UnitKey) (part index : ℕ) (effects : List Effect) → index + length effects ≤ 65536 → AreDistinct (step_rows key part index effects)
steps_distinct key part index [] fits = none_distinct
steps_distinct key part index (effect ∷ effects) fits =
    let place : index < 65536 = omega arith in
    IsDistinct-cons is_same_spot (spot_of (step_row key part index effect)) (spots (step_rows key part (index + 1) effects))
    (later_steps key part index (index + 1) effects (omega arith) (omega arith) (spot_of (step_row key part index effect))
    (step_place key part index effect place))
    (steps_distinct key part (index + 1) effects (omega arith))

part_distinct : (key : UnitKey) (part : ℕ) (effects : List Effect) → length effects ≤ 200 → AreDistinct (part_rows key part effects)
part_distinct key part [] few = none_distinct
part_distinct key part (effect ∷ effects) few =
    IsDistinct-cons is_same_spot (spot_of (module_row key part (effect ∷ effects))) (spots (step_rows key part 1 (effect ∷ effects)))
    (tag_apart table_tag 2 3 (λ e. cc) (spot_of (module_row key part (effect ∷ effects))) refl (step_rows key part 1 (effect ∷ effects))
    (steps_in key part 1 (effect ∷ effects)))
    (steps_distinct key part 1 (effect ∷ effects) (omega arith))

-- ---- locks

locks_kind : (key : UnitKey) (index : ℕ) (locks : List Lock) → HasTag kind_tag 7 (lock_rows key index locks)
locks_kind key index [] = tt
locks_kind key index (lock ∷ locks) = (refl, locks_kind key (index + 1) locks)

-- the place of a lock
abbrev lock_tag : Spot → ℕ
lock_tag s = big_from 0 4 (drop 12 s.1)

lock_at : (key : UnitKey) (index : ℕ) → index < 4294967296 → big_from 0 4 (drop 12 (unit_bytes key ++ big_bytes 4 index)) ≡ index
lock_at key index h = big_number-reads_back 4 index [] h

lock_place : (key : UnitKey) (index : ℕ) (lock : Lock) → index < 4294967296 → lock_tag (spot_of (lock_row key index lock)) ≡ index
lock_place key index lock h = lock_at key index h

later_locks : (key : UnitKey) (low index : ℕ) (locks : List Lock) → low < index → index + length locks ≤ 4294967296 → (x : Spot) → lock_tag x ≡ low
    → IsApart x (lock_rows key index locks)
later_locks key low index [] h fits x is = tt
later_locks key low index (lock ∷ locks) h fits x is = (
  not_same x (spot_of (lock_row key index lock))
      (λ e. let same : low ≡ index = sym is ∙ ap lock_tag e ∙ lock_place key index lock (omega arith) in omega arith),
  later_locks key low (index + 1) locks (omega arith) (omega arith) x is,
)

locks_distinct : (key : UnitKey) (index : ℕ) (locks : List Lock) → index + length locks ≤ 4294967296 → AreDistinct (lock_rows key index locks)
locks_distinct key index [] fits = none_distinct
locks_distinct key index (lock ∷ locks) fits =
    let place : index < 4294967296 = omega arith in
    IsDistinct-cons is_same_spot (spot_of (lock_row key index lock)) (spots (lock_rows key (index + 1) locks))
    (later_locks key index (index + 1) locks (omega arith) (omega arith) (spot_of (lock_row key index lock)) (lock_place key index lock place))
    (locks_distinct key (index + 1) locks (omega arith))

-- ---- units

pub unit_distinct : (unit : UnitOfWork) → length unit.parts.v1 + length unit.parts.v2 ≤ 200 → length unit.entries < 2 ^ 32 → AreDistinct (unit_rows unit)
unit_distinct unit few few_locks =
    let v1 = part_rows unit.key 1 unit.parts.v1 in
    let v2 = part_rows unit.key 2 unit.parts.v2 in
    let locks = lock_rows unit.key 1 unit.entries in
    let parts = distinct_append v1 v2 (part_distinct unit.key 1 unit.parts.v1 (omega arith)) (part_distinct unit.key 2 unit.parts.v2 (omega arith))
    (tags_apart part_tag 1 2 (λ e. cc) v1 v2 (part_part unit.key 1 unit.parts.v1) (part_part unit.key 2 unit.parts.v2)) in
    let parts_kind : HasTag kind_tag 2 (v1 ++ v2) = tag_append kind_tag 2 v1 v2 (part_kind unit.key 1 unit.parts.v1) (part_kind unit.key 2 unit.parts.v2) in
    let front : AreDistinct (header_row unit ∷ v1 ++ v2) =
    IsDistinct-cons is_same_spot (spot_of (header_row unit)) (spots (v1 ++ v2))
    (tag_apart kind_tag 1 2 (λ e. cc) (spot_of (header_row unit)) refl (v1 ++ v2) parts_kind) parts in
    distinct_append (header_row unit ∷ v1 ++ v2) locks front (locks_distinct unit.key 1 unit.entries (omega arith)) (
      tag_apart kind_tag 1 7 (λ e. cc) (spot_of (header_row unit)) refl locks (locks_kind unit.key 1 unit.entries),
      tags_apart kind_tag 2 7 (λ e. cc)
          (v1 ++ v2) locks parts_kind (locks_kind unit.key 1 unit.entries),
    )

abbrev HasKey : Change → Type 0
HasKey c = 1 ≤ length (spot_of c).1

steps_keyed : (key : UnitKey) (part index : ℕ) (effects : List Effect) → AllByRecursion HasKey (step_rows key part index effects)
steps_keyed key part index [] = tt
steps_keyed key part index (effect ∷ effects) = (omega arith, steps_keyed key part (index + 1) effects)

part_keyed : (key : UnitKey) (part : ℕ) (effects : List Effect) → AllByRecursion HasKey (part_rows key part effects)
part_keyed key part [] = tt
part_keyed key part (effect ∷ effects) = (omega arith, steps_keyed key part 1 (effect ∷ effects))

locks_keyed : (key : UnitKey) (index : ℕ) (locks : List Lock) → AllByRecursion HasKey (lock_rows key index locks)
locks_keyed key index [] = tt
locks_keyed key index (lock ∷ locks) = (omega arith, locks_keyed key (index + 1) locks)

-- a keeper may take the rows of a unit in one batch
pub unit_batch : (unit : UnitOfWork) → length unit.parts.v1 + length unit.parts.v2 ≤ 200 → length unit.entries < 2 ^ 32 → IsBatch (unit_rows unit)
unit_batch unit few few_locks =
    let v1 = part_rows unit.key 1 unit.parts.v1 in
    let v2 = part_rows unit.key 2 unit.parts.v2 in
    let locks = lock_rows unit.key 1 unit.entries in
    record {
      keys = (
        omega arith,
        all_append HasKey (v1 ++ v2) locks
            (all_append HasKey v1 v2 (part_keyed unit.key 1 unit.parts.v1) (part_keyed unit.key 2 unit.parts.v2)) (locks_keyed unit.key 1 unit.entries),
      );
      distinct = unit_distinct unit few few_locks;
    }

-- ---- two units

-- the row's key begins with the unit
abbrev IsRowOf : UnitKey → Change → Type 0
IsRowOf key c = take 12 (spot_of c).1 ≡ unit_bytes key

begins : (key : UnitKey) (rest : List ℕ) → take 12 (unit_bytes key ++ rest) ≡ unit_bytes key
begins key rest = refl

whole_key : (key : UnitKey) → take 12 (unit_bytes key) ≡ unit_bytes key
whole_key key = refl

steps_begin : (key : UnitKey) (part index : ℕ) (effects : List Effect) → AllByRecursion (IsRowOf key) (step_rows key part index effects)
steps_begin key part index [] = tt
steps_begin key part index (effect ∷ effects) = (begins key (part ∷ big_bytes 2 index), steps_begin key part (index + 1) effects)

part_begins : (key : UnitKey) (part : ℕ) (effects : List Effect) → AllByRecursion (IsRowOf key) (part_rows key part effects)
part_begins key part [] = tt
part_begins key part (effect ∷ effects) = (begins key (part ∷ []), steps_begin key part 1 (effect ∷ effects))

locks_begin : (key : UnitKey) (index : ℕ) (locks : List Lock) → AllByRecursion (IsRowOf key) (lock_rows key index locks)
locks_begin key index [] = tt
locks_begin key index (lock ∷ locks) = (begins key (big_bytes 4 index), locks_begin key (index + 1) locks)

unit_begins : (unit : UnitOfWork) → AllByRecursion (IsRowOf unit.key) (unit_rows unit)
unit_begins unit =
    let v1 = part_rows unit.key 1 unit.parts.v1 in
    let v2 = part_rows unit.key 2 unit.parts.v2 in
    let locks = lock_rows unit.key 1 unit.entries in (
      whole_key unit.key,
      all_append (IsRowOf unit.key) (v1 ++ v2) locks
          (all_append (IsRowOf unit.key) v1 v2 (part_begins unit.key 1 unit.parts.v1) (part_begins unit.key 2 unit.parts.v2))
          (locks_begin unit.key 1 unit.entries),
    )

one_key : (a b : UnitKey) → IsUnitKey a → IsUnitKey b → unit_bytes a ≡ unit_bytes b → a ≡ b
one_key a b is_a is_b same =
    let both : Some (a, []) ≡ Some (b, []) = sym (is_unit.again a [] is_a) ∙ ap (λ (bytes : List ℕ). unit_at (bytes ++ [])) same ∙ is_unit.again b [] is_b in
    ap (λ (p : UnitKey × List ℕ). p.0) (some_is (a, []) (b, []) both)

-- rows of two units stand in two places
pub units_apart : (u v : UnitOfWork) → IsUnitKey u.key → IsUnitKey v.key → (u.key ≡ v.key → ⊥) → (c d : Change) → Contains (unit_rows u) c
    → Contains (unit_rows v) d → spot_of c ≡ spot_of d → ⊥
units_apart u v is_u is_v differ c d in_u in_v same =
    let a : IsRowOf u.key c = All-contains (IsRowOf u.key) (unit_rows u) c (All-from_recursion (IsRowOf u.key) (unit_rows u) (unit_begins u)) in_u in
    let b : IsRowOf v.key d = All-contains (IsRowOf v.key) (unit_rows v) d (All-from_recursion (IsRowOf v.key) (unit_rows v) (unit_begins v)) in_v in
    differ (one_key u.key v.key is_u is_v (sym a ∙ ap (λ (s : Spot). take 12 s.1) same ∙ b))
