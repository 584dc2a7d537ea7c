-- The numbers of a lawful ledger.
use Rattle.std.proofs.Common.{◌≡◌, ◌⊎◌, inl, inr, ℕ, zero, suc, ◌+◌, ◌-◌, ◌≤◌, ◌<◌, Bool, true, false, cond, ◌&&◌, nat_eq, List, [], ◌∷◌, map, Option, Some}
use Rattle.std.proofs.Common.{None, IsSome, refl, sym, ap, subst, ◌∙◌, arith}
use Rattle.std.specs.Prelude.{IfSome}
use Rattle.std.specs.FinMap.{get, get-empty}
use Rattle.std.specs.List.{All, AllByRecursion, IsDistinct, filter, range_with_len}
use Rattle.std.specs.Str.{bytes_eq}
use Rattle.std.proofs.lemmas.Bool.{eqb-true}
use Rattle.std.proofs.lemmas.List.Elements.{All-from_recursion, All-nil, recursion_from_All}
use Rattle.std.proofs.lemmas.Map.Keys.{IsDistinct-cons}
use Rattle.enq_base.specs.declared.unit.Num.{Num as Number}
use Rattle.lock_entry.proofs.lemmas.Naming.{bytes_eq-same}
use Rattle.keeper_api.specs.Rows.{Rows}
use Rattle.keeper_api.specs.Batch.{changed, held_after}
use Rattle.keeper_api.specs.declared.rows.Change.{Change}
use Rattle.module_effects.specs.Rows.{RowName}
use Rattle.update_records.specs.Business.{interval_of, is_from, numbers_from}
use Rattle.update_records.specs.Ledger.{AreDrawn, IsLawful, IsRightLevel, Ledger, Levels, LevelsAgree, StandFor, no_ledger}
use Rattle.update_records.specs.RecordRows.{Level}
use Rattle.ledger_steps.specs.Starts.{raised}
use Rattle.ledger_steps.specs.Steps.{after_step}
use Rattle.ledger_steps.specs.declared.step.Step.{Step}
use Rattle.posting.specs.Numbers.{AreNumbersRight, committed}

-- ---- numbers one after the other

differ : (n k : ℕ) → n < k → nat_eq n k ≡ false
differ n k less = elim (nat_eq n k) as (λ b. nat_eq n k ≡ b → b ≡ false)
    [ true ↦ λ e. let same = eqb-true n k e in absurd (omega (arith, same, less)) | false ↦ λ e. refl ] refl

all_past : (n a len : ℕ) → n < a → AllByRecursion (λ k. nat_eq n k ≡ false) (range_with_len a len)
all_past n a zero less = tt
all_past n a (suc len) less = (differ n a less, all_past n (a + 1) len (omega (arith, less)))

range_once : (a len : ℕ) → IsDistinct nat_eq (range_with_len a len)
unfolding IsDistinct
range_once a zero = tt
range_once a (suc len) = IsDistinct-cons nat_eq a (range_with_len (a + 1) len) (all_past a (a + 1) len (omega arith)) (range_once (a + 1) len)

range_inside : (low high a len : ℕ) → low ≤ a → a + len ≤ high + 1 → AllByRecursion (λ n. (low ≤ n) × (n ≤ high)) (range_with_len a len)
range_inside low high a zero from to = tt
range_inside low high a (suc len) from to = ((from, omega (arith, to)), range_inside low high (a + 1) len (omega (arith, from)) (omega (arith, to)))

-- ---- those of a stored interval

drawn_once : (buffered : Bool) (level : Level) (numbers : List ℕ) → AreDrawn buffered level numbers → IsDistinct nat_eq numbers
drawn_once false level numbers drawn = subst (IsDistinct nat_eq) (sym drawn) (range_once level.from (level.level + 1 - level.from))
drawn_once true level numbers drawn = drawn.0

drawn_inside : (buffered : Bool) (level : Level) (numbers : List ℕ) → level.from ≤ level.level + 1 → AreDrawn buffered level numbers
    → All (λ n. (level.from ≤ n) × (n ≤ level.level)) numbers
drawn_inside false level numbers begun drawn =
    subst (All (λ n. (level.from ≤ n) × (n ≤ level.level))) (sym drawn)
    (All-from_recursion (λ n. (level.from ≤ n) × (n ≤ level.level)) (range_with_len level.from (level.level + 1 - level.from))
    (range_inside level.from level.level level.from (level.level + 1 - level.from) (omega arith) (omega (arith, begun))))
drawn_inside true level numbers begun drawn = drawn.1

drawn_run : (level : Level) (numbers : List ℕ) (buffered : Bool) → level.buffered ≡ buffered → AreDrawn level.buffered level numbers → buffered ≡ false
    → numbers ≡ range_with_len level.from (level.level + 1 - level.from)
drawn_run level numbers false is drawn h = subst (λ b. AreDrawn b level numbers) is drawn
drawn_run level numbers true is drawn h = cc

-- ---- those of an interval that isn't stored: there are none

both_of : (a b : Bool) → (a && b) ≡ true → (a ≡ true) × (b ≡ true)
both_of true b h = (refl, h)
both_of false b h = cc

from_name : (name : RowName) (num : Number) → is_from name num ≡ true → interval_of num ≡ name
from_name name num h =
    let p = both_of (bytes_eq num.object name.0) (bytes_eq num.nr name.1) h in
    ap (λ o. (o, num.nr)) (bytes_eq-same num.object name.0 p.0) ∙ ap (λ n. (name.0, n)) (bytes_eq-same num.nr name.1 p.1)

none_some : (levels : Levels) (name : RowName) → get levels name ≡ None → IsSome (get levels name) → ⊥
none_some levels name none some = cc

none_drawn : (levels : Levels) (name : RowName) (numbers : List Number) → get levels name ≡ None
    → AllByRecursion (λ num. IsSome (get levels (interval_of num))) numbers → numbers_from name numbers ≡ []
none_drawn levels name [] none all = refl
none_drawn levels name (num ∷ numbers) none all =
    elim (is_from name num)
    as (λ b. is_from name num ≡ b → map (λ (n : Number). n.number) (cond b (num ∷ filter (is_from name) numbers) (filter (is_from name) numbers)) ≡ []) [
      | true ↦ λ e. absurd (none_some levels name none (subst (λ n. IsSome (get levels n)) (from_name name num e) all.0))
      | false ↦ λ e. none_drawn levels name numbers none all.1
    ] refl

once_by : (levels : Levels) (name : RowName) (numbers : List Number) (found : Option Level) → get levels name ≡ found → IfSome found (IsRightLevel name numbers)
    → AllByRecursion (λ num. IsSome (get levels (interval_of num))) numbers
    → IsDistinct nat_eq (numbers_from name numbers)
unfolding IsDistinct
once_by levels name numbers None is right all = subst (IsDistinct nat_eq) (sym (none_drawn levels name numbers is all)) tt
once_by levels name numbers (Some level) is right all = drawn_once level.buffered level (numbers_from name numbers) right.drawn

run_by : (name : RowName) (numbers : List Number) (found : Option Level) → IfSome found (IsRightLevel name numbers)
    → IfSome found (λ level. level.buffered ≡ false → numbers_from name numbers ≡ range_with_len level.from (level.level + 1 - level.from))
run_by name numbers None right = tt
run_by name numbers (Some level) right = λ h. drawn_run level (numbers_from name numbers) level.buffered refl right.drawn h

inside_by : (name : RowName) (numbers : List Number) (found : Option Level) → IfSome found (IsRightLevel name numbers)
    → IfSome found (λ level. All (λ n. (level.from ≤ n) × (n ≤ level.level)) (numbers_from name numbers))
inside_by name numbers None right = tt
inside_by name numbers (Some level) right = drawn_inside level.buffered level (numbers_from name numbers) right.begun right.drawn

-- levels that agree with the numbers say all of this
pub agreeing : (ledger : Ledger) → LevelsAgree ledger.levels (committed ledger) → AreNumbersRight ledger
agreeing ledger agree = record {
  once = λ name. once_by ledger.levels name (committed ledger) (get ledger.levels name) refl (agree.right name)
      (recursion_from_All (λ num. IsSome (get ledger.levels (interval_of num))) (committed ledger) agree.stored);
  consecutive = λ name. run_by name (committed ledger) (get ledger.levels name) (agree.right name);
  within = λ name. inside_by name (committed ledger) (get ledger.levels name) (agree.right name);
  stored = agree.stored;
}

none_right : AreNumbersRight no_ledger
none_right = agreeing no_ledger (record {
  right = λ name. subst (λ (o : Option Level). IfSome o (IsRightLevel name [])) (sym (get-empty _ name)) tt;
  stored = All-nil (λ num. IsSome (get (no_ledger).levels (interval_of num)));
})

pub sound_numbers : (ledger : Ledger) → (ledger ≡ no_ledger) ⊎ IsLawful ledger → AreNumbersRight ledger
sound_numbers ledger known = elim known [
  | inl none ↦ subst AreNumbersRight (sym none) none_right
  | inr law ↦ agreeing ledger law.levels
]

-- another start changes none of it
pub raised_numbers : (raise : Bool) (ledger : Ledger) → AreNumbersRight ledger → AreNumbersRight (raised raise ledger)
raised_numbers false ledger right = right
raised_numbers true ledger right = record { once = right.once; consecutive = right.consecutive; within = right.within; stored = right.stored }

-- a batch that makes the rows of a ledger leaves its numbers right
pub written_numbers : (old new : Option Rows) (batch : List Change) (made after : Ledger) → new ≡ held_after batch old
    → IfSome old (λ rows. StandFor (changed batch rows) made) → after ≡ made → IfSome new (λ _. AreNumbersRight after)
written_numbers None new batch made after is makes same = subst (λ held. IfSome held (λ _. AreNumbersRight after)) (sym is) tt
written_numbers (Some rows) new batch made after is makes same =
    subst (λ held. IfSome held (λ _. AreNumbersRight after)) (sym is) (subst AreNumbersRight (sym same) (sound_numbers made makes.lawful))

-- what was ready of the books as they are seen is ready of their parts
pub made_of_parts : {K : Type 0} (held : K → Option Rows) (keeper now : K) (ledger seen : Ledger) (batch given : List Change) (step wanted : Step)
    → keeper ≡ now → ledger ≡ seen → batch ≡ given → step ≡ wanted
    → IfSome (held now) (λ rows. StandFor (changed given rows) (after_step seen wanted))
    → IfSome (held keeper) (λ rows. StandFor (changed batch rows) (after_step ledger step))
made_of_parts held keeper now ledger seen batch given step wanted k l b s makes =
    subst (λ k. IfSome (held k) (λ rows. StandFor (changed batch rows) (after_step ledger step))) (sym k)
    (subst (λ l. IfSome (held now) (λ rows. StandFor (changed batch rows) (after_step l step))) (sym l)
    (subst (λ b. IfSome (held now) (λ rows. StandFor (changed b rows) (after_step seen step))) (sym b)
    (subst (λ s. IfSome (held now) (λ rows. StandFor (changed given rows) (after_step seen s))) (sym s) makes)))
