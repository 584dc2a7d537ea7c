-- How many entries a history of counted turns has.
use Rattle.std.proofs.Common.{◌≡◌, ℕ, ◌+◌, ◌-◌, Bool, true, false, List, [], ◌++◌, length, drop, replicate, ap, arith, length-append, length-drop}
use Rattle.std.specs.Prelude.{MatchBool}
use Rattle.std.specs.List.Sorted.{IsPermutation}
use Rattle.std.proofs.lemmas.List.{length-replicate}
use Rattle.std.proofs.lemmas.List.Sorted.{length_permutation}

-- the history of so many turns
abbrev turns_of : ℕ → List ℕ
turns_of count = replicate count 0

length_turns : (count : ℕ) → length (turns_of count) ≡ count
length_turns count = length-replicate count 0

-- a turn that went from one count to another added as many entries
added : (before after : ℕ) (old new : List ℕ) → new ≡ old ++ drop (length (turns_of before)) (turns_of after) → length new ≡ length old + (after - before)
added before after old new e =
    let whole : length new ≡ length (old ++ drop (length (turns_of before)) (turns_of after)) = ap length e in
    omega (
      arith,
      length-append old (drop (length (turns_of before)) (turns_of after)),
      length-drop (length (turns_of before))
          (turns_of after),
      length_turns before,
      length_turns after,
    )

pub turn_added : (ok : Bool) (before after : ℕ) (old new : List ℕ) → MatchBool ok (after ≡ before + 1) (after ≡ before)
    → new ≡ old ++ drop (length (turns_of before)) (turns_of after)
    → MatchBool ok (length new ≡ length old + 1) (length new ≡ length old)
turn_added true before after old new counted e = let more = added before after old new e in omega arith
turn_added false before after old new counted e = let more = added before after old new e in omega arith

-- a count is as high as the turns of two passes, which are all the entries that there are
pub count_is : (count first second : ℕ) (all one two one₀ two₀ : List ℕ) → IsPermutation (turns_of count) all → all ≡ one ++ two
    → length one ≡ length one₀ + first → length two ≡ length two₀ + second → one₀ ≡ [] → two₀ ≡ []
    → count ≡ first + second
count_is count first second all one two one₀ two₀ p e a b z z' =
    let whole : length all ≡ length (turns_of count) = length_permutation (turns_of count) all p in
    let parts : length all ≡ length (one ++ two) = ap length e in
    let first_none : length one₀ ≡ 0 = ap length z in
    let second_none : length two₀ ≡ 0 = ap length z' in
    omega (arith, length-append one two, length_turns count)
