-- A good store breaks no rule on its intervals.
use Rattle.std.proofs.Common.{◌≡◌, ℕ, ◌+◌, ◌≤◌, inl, inr, Bool, true, false, not, ◌&&◌, nat_eq, nat_le, List, [], ◌∷◌, ◌++◌, length, Some, None, IfSome}
use Rattle.std.proofs.Common.{is_some, if◌then◌else◌, Contains, refl, ap, subst, ◌∙◌, arith}
use Rattle.std.specs.List.{AllByRecursion, IsDistinct, list_all}
use Rattle.std.specs.Option.{IsSome, option_map_or}
use Rattle.std.specs.FinMap.{get}
use Rattle.std.specs.Str.{bytes_eq}
use Rattle.std.proofs.lemmas.Bool.{and_from, le-leb}
use Rattle.std.proofs.lemmas.List.Elements.{recursion_from_All}
use Rattle.lock_entry.proofs.lemmas.Naming.{bytes_eq-refl}
use Rattle.enq_base.specs.declared.owner.UnitKey.{UnitKey}
use Rattle.enq_base.specs.declared.unit.Num.{Num as Number}
use Rattle.module_effects.specs.Rows.{RowName}
use Rattle.update_records.specs.Business.{interval_of, numbers_from, numbers_in, numbers_of}
use Rattle.update_records.specs.Ledger.{AreDrawn, IsLawful, IsRightLevel, Ledger, Levels}
use Rattle.update_records.specs.Marks.{unit_at}
use Rattle.update_records.specs.RecordRows.{Level}
use Rattle.update_records.specs.declared.records.Mark.{Mark}
use Rattle.update_records.specs.declared.records.MarkKind.{MarkKind}
use Rattle.update_records.specs.declared.records.MarkKind.TheVariants.{Num, Rec, V1, Bad1, Again1, V2, Bad2, Again2, Gone}
use Rattle.update_records.specs.declared.records.Unit.{Unit as UnitOfWork}
use Rattle.update_records.specs.declared.stored.Record.{Record}
use Rattle.update_records.specs.declared.stored.Record.TheVariants as rec
use Rattle.store_reading.specs.Intervals.{are_apart, are_bounds, are_drawn, committed, has_level, is_level, is_right_level, level_fault, missing_level, numbers_at, numbers_by}
use Rattle.store_reading.specs.Told.{records_in}
use Rattle.store_laws.proofs.GoodHeaders.{numbers_are}
use Rattle.store_laws.proofs.GoodRecords.{mark_table}
use Rattle.store_laws.proofs.GoodTables.{level_of, AreRecordsOf}
use Rattle.store_laws.proofs.GoodUnits.{no_place, none_breaks}
use Rattle.store_laws.proofs.LedgerRecords.{level_record, mark_records}
use Rattle.store_reading.proofs.lemmas.Shelved.{any_contained}

-- ---- numbers

wrong_is : (b : Bool) → b ≡ false → not b ≡ true
wrong_is true h = cc
wrong_is false h = refl

apart_from : (n : ℕ) (xs : List ℕ) → AllByRecursion (λ m. nat_eq n m ≡ false) xs → list_all (λ m. not (nat_eq n m)) xs ≡ true
apart_from n [] h = refl
apart_from n (x ∷ xs) h = and_from (not (nat_eq n x)) (list_all (λ m. not (nat_eq n m)) xs) (wrong_is (nat_eq n x) h.0) (apart_from n xs h.1)

apart_back : (xs : List ℕ) → IsDistinct nat_eq xs → are_apart xs ≡ true
unfolding IsDistinct
apart_back [] h = refl
apart_back (x ∷ xs) h = and_from (list_all (λ m. not (nat_eq x m)) xs) (are_apart xs) (apart_from x xs h.0) (apart_back xs h.1)

within_back : (from level : ℕ) (xs : List ℕ) → AllByRecursion (λ n. (from ≤ n) × (n ≤ level)) xs → list_all (λ n. nat_le from n && nat_le n level) xs ≡ true
within_back from level [] h = refl
within_back from level (x ∷ xs) h =
    and_from (nat_le from x && nat_le x level) (list_all (λ n. nat_le from n && nat_le n level) xs)
    (and_from (nat_le from x) (nat_le x level) (le-leb from x h.0.0) (le-leb x level h.0.1))
    (within_back from level xs h.1)

drawn_back : (buffered : Bool) (level : Level) (numbers : List ℕ) → AreDrawn buffered level numbers → are_drawn buffered level.from level.level numbers ≡ true
drawn_back false level numbers h = subst (λ (ns : List ℕ). bytes_eq numbers ns ≡ true) h (bytes_eq-refl numbers)
drawn_back true level numbers h =
    and_from (are_apart numbers) (list_all (λ n. nat_le level.from n && nat_le n level.level) numbers) (apart_back numbers h.0)
    (within_back level.from level.level numbers (recursion_from_All (λ n. (level.from ≤ n) × (n ≤ level.level)) numbers h.1))

level_right : (name : RowName) (numbers : List Number) (level : Level) → IsRightLevel name numbers level
    → is_right_level numbers (level_record name level) ≡ true
level_right name numbers level right =
    let from = level.from in
    let to = level.to in
    let high = level.level in
    and_from (are_bounds from to high) (are_drawn level.buffered from high (numbers_from name numbers))
    (and_from (nat_le 1 from) (nat_le from to && (nat_le from (high + 1) && nat_le high to)) (le-leb 1 from right.low)
    (and_from (nat_le from to) (nat_le from (high + 1) && nat_le high to) (le-leb from to right.order)
    (and_from (nat_le from (high + 1)) (nat_le high to) (le-leb from (high + 1) right.begun) (le-leb high to right.within))))
    (drawn_back level.buffered level (numbers_from name numbers) right.drawn)

-- ---- what the marks commit

one_committed : (headers : List Record) (units : List UnitOfWork)
    → ((key : UnitKey) → numbers_at headers key ≡ option_map_or (λ (unit : UnitOfWork). unit.numbers) (unit_at units key) [])
    → (seq : ℕ) (unit : UnitKey) (kind : MarkKind)
    → numbers_by headers (rec.Mark (record { seq = seq; unit = unit; kind = kind })) ≡ numbers_in units (record { seq = seq; unit = unit; kind = kind })
one_committed headers units told seq unit (Num numbers) = refl
one_committed headers units told seq unit Rec = told unit
one_committed headers units told seq unit V1 = refl
one_committed headers units told seq unit (Bad1 index reason) = refl
one_committed headers units told seq unit Again1 = refl
one_committed headers units told seq unit V2 = refl
one_committed headers units told seq unit (Bad2 index reason) = refl
one_committed headers units told seq unit Again2 = refl
one_committed headers units told seq unit Gone = refl

all_committed : (headers : List Record) (units : List UnitOfWork)
    → ((key : UnitKey) → numbers_at headers key ≡ option_map_or (λ (unit : UnitOfWork). unit.numbers) (unit_at units key) []) → (marks : List Mark)
    → committed headers (mark_records marks) ≡ numbers_of units marks
all_committed headers units told [] = refl
all_committed headers units told (m ∷ marks) =
    ap (λ (ns : List Number). ns ++ committed headers (mark_records marks)) (one_committed headers units told m.seq m.unit m.kind)
    ∙ ap (λ (ns : List Number). numbers_in units m ++ ns) (all_committed headers units told marks)

each_stored : (levels : List Record) (stored : Levels) (numbers : List Number)
    → ((name : RowName) (level : Level) → get stored name ≡ Some level → Contains levels (level_record name level))
    → AllByRecursion (λ num. IsSome (get stored (interval_of num))) numbers → list_all (λ num. has_level levels (interval_of num)) numbers ≡ true
each_stored levels stored [] there h = refl
each_stored levels stored (num ∷ numbers) there h =
    let name = interval_of num in
    and_from (has_level levels name) (list_all (λ num. has_level levels (interval_of num)) numbers)
    (elim (get stored name) as (λ o. get stored name ≡ o → is_some o ≡ true → has_level levels name ≡ true) [
      | None ↦ λ is some. cc
      | Some level ↦ λ is some. any_contained (is_level name) levels (level_record name level)
          (and_from (bytes_eq name.0 name.0) (bytes_eq name.1 name.1) (bytes_eq-refl name.0) (bytes_eq-refl name.1))
          (there name level is)
    ] refl h.0)
    (each_stored levels stored numbers there h.1)

-- ---- the rule

module _ (records : List (List Record)) (ledger : Ledger) (law : IsLawful ledger) (are : AreRecordsOf records ledger) where
  numbers_told : committed (records_in records 1) (records_in records 4) ≡ numbers_of ledger.units ledger.marks
  numbers_told =
      ap (committed (records_in records 1)) (mark_table records ledger law are)
      ∙ all_committed (records_in records 1) ledger.units (numbers_are records ledger law are) ledger.marks

  each_right : (r : Record) → Contains (records_in records 5) r → is_right_level (committed (records_in records 1) (records_in records 4)) r ≡ true
  each_right r h =
      let numbers = numbers_of ledger.units ledger.marks in
      let at = level_of ledger r (are.told 5 (omega arith) r h) (are.table 5 (omega arith) r h) in
      let right : IsRightLevel at.name numbers at.level = subst (λ o. IfSome o (IsRightLevel at.name numbers)) at.stored (law.levels.right at.name) in
      ap (λ (ns : List Number). is_right_level ns r) numbers_told ∙ subst (λ x. is_right_level numbers x ≡ true) at.is
      (level_right at.name numbers at.level right)

  none_missing : missing_level (records_in records 5) (committed (records_in records 1) (records_in records 4)) ≡ None
  none_missing =
      let levels = records_in records 5 in
      let numbers = numbers_of ledger.units ledger.marks in
      let there : (name : RowName) (level : Level) → get ledger.levels name ≡ Some level → Contains levels (level_record name level) =
      λ name level stored. are.there (level_record name level) (inr (inl (record { name = name; level = level; stored = stored; is = refl }))) in
      ap (missing_level levels) numbers_told
      ∙ ap (λ b. if b then None else Some (record { table = 5; row = length levels + 1 }))
      (each_stored levels ledger.levels numbers there (recursion_from_All (λ num. IsSome (get ledger.levels (interval_of num))) numbers law.levels.stored))

  pub levels_right : level_fault (records_in records 1) (records_in records 4) (records_in records 5) ≡ None
  levels_right = no_place _ _ (none_breaks (is_right_level (committed (records_in records 1) (records_in records 4))) 5 (records_in records 5) each_right)
      none_missing
