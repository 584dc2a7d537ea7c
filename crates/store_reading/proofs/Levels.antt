-- What it says of stored intervals that none of them is wrong.
use Rattle.std.proofs.Common.{◌≡◌, ℕ, ◌+◌, ◌-◌, ◌≤◌, Bool, true, false, not, ◌&&◌, nat_eq, nat_le, List, [], ◌∷◌, ◌++◌, refl}
use Rattle.std.specs.List.{All, AllByRecursion, IsDistinct, list_all, range_with_len}
use Rattle.std.proofs.lemmas.Bool.{leb-true}
use Rattle.std.proofs.lemmas.List.Elements.{All-cons, All-from_recursion, All-head, All-tail}
use Rattle.lock_entry.proofs.lemmas.Naming.{bytes_eq-same}
use Rattle.enq_base.specs.declared.unit.Num.{Num as Number}
use Rattle.update_records.specs.Business.{numbers_from}
use Rattle.update_records.specs.Ledger.{AreDrawn, IsRightLevel}
use Rattle.update_records.specs.RecordRows.{Level}
use Rattle.update_records.specs.Spelling.{IsRecord}
use Rattle.update_records.specs.declared.stored.Record.{Record}
use Rattle.update_records.specs.declared.stored.Record.TheVariants as rec
use Rattle.store_reading.specs.First.{AreRight}
use Rattle.store_reading.specs.Intervals.{are_apart, are_bounds, are_drawn, is_right_level}
use Rattle.store_reading.specs.Lawful.{level_in, IsRightRow}
use Rattle.store_reading.proofs.lemmas.Legal.{first_true, second_true}

wrong_of : (b : Bool) → not b ≡ true → b ≡ false
wrong_of true h = cc
wrong_of false h = refl

none_equal : (n : ℕ) (xs : List ℕ) → list_all (λ m. not (nat_eq n m)) xs ≡ true → AllByRecursion (λ m. nat_eq n m ≡ false) xs
none_equal n [] h = tt
none_equal n (x ∷ xs) h = (wrong_of (nat_eq n x) (first_true (not (nat_eq n x)) _ h), none_equal n xs (second_true (not (nat_eq n x)) _ h))

distinct_of : (xs : List ℕ) → are_apart xs ≡ true → IsDistinct nat_eq xs
unfolding IsDistinct
distinct_of [] h = tt
distinct_of (x ∷ xs) h =
    (none_equal x xs (first_true (list_all (λ m. not (nat_eq x m)) xs) _ h), distinct_of xs (second_true (list_all (λ m. not (nat_eq x m)) xs) _ h))

within_of : (from level : ℕ) (xs : List ℕ) → list_all (λ n. nat_le from n && nat_le n level) xs ≡ true → AllByRecursion (λ n. (from ≤ n) × (n ≤ level)) xs
within_of from level [] h = tt
within_of from level (x ∷ xs) h =
    let here = first_true (nat_le from x && nat_le x level) _ h in (
      (leb-true from x (first_true (nat_le from x) _ here), leb-true x level (second_true (nat_le from x) _ here)),
      within_of from level xs
          (second_true (nat_le from x && nat_le x level) _ h),
    )

drawn_of : (buffered : Bool) (level : Level) (numbers : List ℕ) → are_drawn buffered level.from level.level numbers ≡ true → AreDrawn buffered level numbers
drawn_of false level numbers h = bytes_eq-same numbers (range_with_len level.from (level.level + 1 - level.from)) h
drawn_of true level numbers h = (
  distinct_of numbers (first_true (are_apart numbers) _ h),
  All-from_recursion (λ n. (level.from ≤ n) × (n ≤ level.level)) numbers (within_of level.from level.level numbers (second_true (are_apart numbers) _ h)),
)

right_row : (numbers : List Number) (object nr : List ℕ) (from to level : ℕ) (buffered : Bool) → IsRecord (rec.Level object nr from to level buffered)
    → is_right_level numbers (rec.Level object nr from to level buffered) ≡ true → IsRightLevel (object, nr) numbers (level_in from to level buffered)
right_row numbers object nr from to level buffered grammar h =
    let bounds = first_true (are_bounds from to level) _ h in
    let others = second_true (nat_le 1 from) _ bounds in
    let more = second_true (nat_le from to) _ others in
    record {
      object = grammar.0;
      nr = grammar.1;
      low = leb-true 1 from (first_true (nat_le 1 from) _ bounds);
      order = leb-true from to (first_true (nat_le from to) _ others);
      high = grammar.3;
      begun = leb-true from (level + 1) (first_true (nat_le from (level + 1)) _ more);
      within = leb-true level to (second_true (nat_le from (level + 1)) _ more);
      drawn = drawn_of buffered (level_in from to level buffered) (numbers_from (object, nr) numbers) (second_true (are_bounds from to level) _ h);
    }

right_one : (numbers : List Number) (r : Record) → IsRecord r → is_right_level numbers r ≡ true → IsRightRow numbers r
right_one numbers (rec.Level object nr from to level buffered) grammar h = right_row numbers object nr from to level buffered grammar h
right_one numbers (rec.Meta s n) grammar h = let odd : false ≡ true = h in cc
right_one numbers (rec.Header u user v1 v2 c nums) grammar h = let odd : false ≡ true = h in cc
right_one numbers (rec.Module u part count) grammar h = let odd : false ≡ true = h in cc
right_one numbers (rec.Step u part index effect) grammar h = let odd : false ≡ true = h in cc
right_one numbers (rec.Mark m) grammar h = let odd : false ≡ true = h in cc
right_one numbers (rec.Business table key text) grammar h = let odd : false ≡ true = h in cc
right_one numbers (rec.Lock u index table mode count pattern) grammar h = let odd : false ≡ true = h in cc

pub right_rows : (numbers : List Number) (before levels : List Record) → All IsRecord levels → AreRight (λ before. is_right_level numbers) before levels
    → All (IsRightRow numbers) levels
right_rows numbers before [] each h = All-from_recursion (IsRightRow numbers) [] tt
right_rows numbers before (r ∷ levels) each h =
    All-cons (IsRightRow numbers) r levels (right_one numbers r (All-head IsRecord r levels each) h.0)
    (right_rows numbers (before ++ r ∷ []) levels (All-tail IsRecord r levels each) h.1)
