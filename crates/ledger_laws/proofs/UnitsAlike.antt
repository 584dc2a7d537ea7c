-- Two units with one key are one, where each record of the one is a record of the other.
use Rattle.std.proofs.Common.{◌≡◌, ℕ, ◌+◌, List, [], ◌∷◌, map, length, Contains, refl, sym, ap, subst, ◌∙◌}
use Rattle.std.specs.List.{AllByRecursion, range_with_len}
use Rattle.std.proofs.lemmas.List.Elements.{recursion_from_All}
use Rattle.enq_base.specs.declared.owner.Owner.TheVariants.{Upd}
use Rattle.enq_base.specs.declared.owner.UnitKey.{UnitKey}
use Rattle.enq_base.specs.declared.unit.Effect.{Effect}
use Rattle.lock_entry.specs.declared.entry.Entry.{Entry}
use Rattle.update_records.specs.Grammar.{IsEntryOf, IsUnit}
use Rattle.update_records.specs.Spelling.{header_of, locks_of, records_of, steps_of}
use Rattle.update_records.specs.declared.records.Unit.{Unit as UnitOfWork}
use Rattle.update_records.specs.declared.stored.Record.{Record}
use Rattle.update_records.specs.declared.stored.Record.TheVariants as rec
use Rattle.store_laws.proofs.GoodTables.{first_in, header_in, lock_is, locks_in, second_in, side, step_is, step_part, table_in, unit_cases}
use Rattle.ledger_laws.proofs.Lists.{same_numbered}

-- ---- what names a record of a unit

abbrev no_unit : UnitKey
no_unit = record { start = 0; session = 0; luw = 0 }

abbrev pub unit_in : Record → UnitKey
unit_in (rec.Header unit user v1 v2 locks numbers) = unit
unit_in (rec.Module unit part count) = unit
unit_in (rec.Step unit part index effect) = unit
unit_in (rec.Lock unit index table mode count pattern) = unit
unit_in r = no_unit

abbrev part_in : Record → ℕ
part_in (rec.Step unit part index effect) = part
part_in r = 0

abbrev index_in : Record → ℕ
index_in (rec.Step unit part index effect) = index
index_in (rec.Lock unit index table mode count pattern) = index
index_in r = 0

-- each record of a unit has its key
pub of_key : (unit : UnitOfWork) (r : Record) → Contains (records_of unit) r → unit_in r ≡ unit.key
of_key unit r h =
    unit_cases unit r (unit_in r ≡ unit.key) h
    (λ is. ap unit_in (sym is))
    (λ part some is. ap unit_in (sym is))
    (λ part at. ap unit_in (sym (step_is unit.key part 1 (side part unit) r at).is))
    (λ at. ap unit_in (sym (lock_is unit.key 1 unit.entries r at).is))

no_table : (m n : ℕ) (r x : Record) → table_in r ≡ m → x ≡ r → table_in x ≡ n → m ≡ n
no_table m n r x table is at = sym table ∙ ap table_in (sym is) ∙ at

-- ---- which records of a unit stand in a table

header_there : (unit : UnitOfWork) (r : Record) → Contains (records_of unit) r → table_in r ≡ 1 → header_of unit ≡ r
header_there unit r h table =
    let R = header_of unit ≡ r in
    unit_cases unit r R h
    (λ is. is)
    (λ part some is. let odd : 1 ≡ 2 = no_table 1 2 r _ table is refl in cc)
    (λ part at. let odd : 1 ≡ 3 = no_table 1 3 r _ table (step_is unit.key part 1 (side part unit) r at).is refl in cc)
    (λ at. let odd : 1 ≡ 7 = no_table 1 7 r _ table (lock_is unit.key 1 unit.entries r at).is refl in cc)

steps_there : (unit : UnitOfWork) (part : ℕ) (r : Record) → Contains (records_of unit) r → table_in r ≡ 3 → part_in r ≡ part
    → Contains (steps_of unit.key part 1 (side part unit)) r
steps_there unit part r h table is_part =
    let R = Contains (steps_of unit.key part 1 (side part unit)) r in
    unit_cases unit r R h
    (λ is. let odd : 3 ≡ 1 = no_table 3 1 r _ table is refl in cc)
    (λ other some is. let odd : 3 ≡ 2 = no_table 3 2 r _ table is refl in cc)
    (λ other at.
    let same : other ≡ part = ap part_in (step_is unit.key other 1 (side other unit) r at).is ∙ is_part in
    subst (λ (p : ℕ). Contains (steps_of unit.key p 1 (side p unit)) r) same at)
    (λ at. let odd : 3 ≡ 7 = no_table 3 7 r _ table (lock_is unit.key 1 unit.entries r at).is refl in cc)

locks_there : (unit : UnitOfWork) (r : Record) → Contains (records_of unit) r → table_in r ≡ 7 → Contains (locks_of unit.key 1 unit.entries) r
locks_there unit r h table =
    let R = Contains (locks_of unit.key 1 unit.entries) r in
    unit_cases unit r R h
    (λ is. let odd : 7 ≡ 1 = no_table 7 1 r _ table is refl in cc)
    (λ part some is. let odd : 7 ≡ 2 = no_table 7 2 r _ table is refl in cc)
    (λ part at. let odd : 7 ≡ 3 = no_table 7 3 r _ table (step_is unit.key part 1 (side part unit) r at).is refl in cc)
    (λ at. at)

-- ---- what the records tell of effects and of locks

steps_numbered : (key : UnitKey) (part index : ℕ) (effects : List Effect)
    → map index_in (steps_of key part index effects) ≡ range_with_len index (length effects)
steps_numbered key part index [] = refl
steps_numbered key part index (e ∷ effects) = ap (λ (ns : List ℕ). index ∷ ns) (steps_numbered key part (index + 1) effects)

locks_numbered : (key : UnitKey) (index : ℕ) (entries : List Entry) → map index_in (locks_of key index entries) ≡ range_with_len index (length entries)
locks_numbered key index [] = refl
locks_numbered key index (e ∷ entries) = ap (λ (ns : List ℕ). index ∷ ns) (locks_numbered key (index + 1) entries)

same_effects : (k l : UnitKey) (part index : ℕ) (xs ys : List Effect) → steps_of k part index xs ≡ steps_of l part index ys → xs ≡ ys
same_effects k l part index [] [] is = refl
same_effects k l part index [] (y ∷ ys) is = cc
same_effects k l part index (x ∷ xs) [] is = cc
same_effects k l part index (x ∷ xs) (y ∷ ys) is =
    let head : x ≡ y = cc in
    let tail : steps_of k part (index + 1) xs ≡ steps_of l part (index + 1) ys = cc in
    let rest = same_effects k l part (index + 1) xs ys tail in
    λ i. head i ∷ rest i

-- a lock of a unit has the key and the user of the unit, and was handed to it
same_entries : (u v : UnitOfWork) → u.key ≡ v.key → u.user ≡ v.user → (index : ℕ) (xs ys : List Entry)
    → AllByRecursion (IsEntryOf u) xs → AllByRecursion (IsEntryOf v) ys → locks_of u.key index xs ≡ locks_of v.key index ys → xs ≡ ys
same_entries u v key user index [] [] of_u of_v is = refl
same_entries u v key user index [] (y ∷ ys) of_u of_v is = cc
same_entries u v key user index (x ∷ xs) [] of_u of_v is = cc
same_entries u v key user index (x ∷ xs) (y ∷ ys) of_u of_v is =
    let owners : x.owner ≡ y.owner = of_u.0.owner ∙ ap (λ (k : UnitKey). Upd k) key ∙ sym of_v.0.owner in
    let users : x.user ≡ y.user = of_u.0.user ∙ user ∙ sym of_v.0.user in
    let tables : x.table ≡ y.table = cc in
    let patterns : x.pattern ≡ y.pattern = cc in
    let modes : x.mode ≡ y.mode = cc in
    let counts : x.count ≡ y.count = cc in
    let handed : x.handed ≡ y.handed = of_u.0.handed ∙ sym of_v.0.handed in
    let head : x ≡ y = λ i. record {
      owner = owners i;
      user = users i;
      table = tables i;
      pattern = patterns i;
      mode = modes i;
      count = counts i;
      handed = handed i;
    } in
    let tail : locks_of u.key (index + 1) xs ≡ locks_of v.key (index + 1) ys = cc in
    let rest = same_entries u v key user (index + 1) xs ys of_u.1 of_v.1 tail in
    λ i. head i ∷ rest i

-- ---- the units

-- each record of the one is a record of the other
abbrev pub AreToldBy : UnitOfWork → UnitOfWork → Type 0
AreToldBy v u = (r : Record) → Contains (records_of u) r → Contains (records_of v) r

module _ (u v : UnitOfWork) (is_u : IsUnit u) (is_v : IsUnit v) (key : u.key ≡ v.key) (told : AreToldBy v u) where
  headers : header_of v ≡ header_of u
  headers = header_there v (header_of u) (told (header_of u) (header_in u)) refl

  -- the effects of a part, where both have as many
  part_alike : (part : ℕ) → ((r : Record) → Contains (steps_of u.key part 1 (side part u)) r → Contains (records_of u) r)
      → length (side part v) ≡ length (side part u) → side part u ≡ side part v
  part_alike part inside long =
      let xs = steps_of u.key part 1 (side part u) in
      let ys = steps_of v.key part 1 (side part v) in
      let there : (r : Record) → Contains xs r → Contains ys r = λ r at.
      let step = step_is u.key part 1 (side part u) r at in
      steps_there v part r (told r (inside r at)) (ap table_in (sym step.is)) (ap part_in (sym step.is)) in
      same_effects u.key v.key part 1 (side part u) (side part v)
      (same_numbered index_in xs ys 1 (length (side part u)) (steps_numbered u.key part 1 (side part u))
      (steps_numbered v.key part 1 (side part v) ∙ ap (range_with_len 1) long) there)

  users : u.user ≡ v.user
  users = let is = headers in cc

  numbers : u.numbers ≡ v.numbers
  numbers = let is = headers in cc

  first_alike : u.parts.v1 ≡ v.parts.v1
  first_alike = let is = headers in let long : length v.parts.v1 ≡ length u.parts.v1 = cc in
      part_alike 1 (λ r at. first_in u r (step_part u.key 1 u.parts.v1 r at)) long

  second_alike : u.parts.v2 ≡ v.parts.v2
  second_alike = let is = headers in let long : length v.parts.v2 ≡ length u.parts.v2 = cc in
      part_alike 2 (λ r at. second_in u r (step_part u.key 2 u.parts.v2 r at)) long

  entries_alike : u.entries ≡ v.entries
  entries_alike =
      let is = headers in
      let long : length v.entries ≡ length u.entries = cc in
      let xs = locks_of u.key 1 u.entries in
      let ys = locks_of v.key 1 v.entries in
      let there : (r : Record) → Contains xs r → Contains ys r = λ r at.
      locks_there v r (told r (locks_in u r at)) (ap table_in (sym (lock_is u.key 1 u.entries r at).is)) in
      same_entries u v key users 1 u.entries v.entries
      (recursion_from_All (IsEntryOf u) u.entries is_u.entries)
      (recursion_from_All (IsEntryOf v) v.entries is_v.entries)
      (same_numbered index_in xs ys 1 (length u.entries) (locks_numbered u.key 1 u.entries)
      (locks_numbered v.key 1 v.entries ∙ ap (range_with_len 1) long) there)

  pub unit_alike : u ≡ v
  unit_alike = λ i. record {
    key = key i;
    user = users i;
    numbers = numbers i;
    parts = record { v1 = first_alike i; v2 = second_alike i };
    entries = entries_alike i;
  }
