-- A turn more, and the number of the block that it ends.
use Rattle.std.proofs.Common.{◌≡◌, ◌<◌, ◌≤◌, ◌+◌, ◌-◌, ◌*◌, ◌/◌, ◌%◌, ◌^◌, ◌++◌, ◌∷◌, ◌⊎◌, inl, inr, ℕ, List, Option, [], length, get_or, sym, ap, subst, refl, arith, ◌∙◌}
use Rattle.std.proofs.lemmas.Nat.{pow_pos}
use Rattle.std.proofs.lemmas.Bool.{cases_lt}
use Rattle.std.proofs.lemmas.List.{get_or_append_left, get_or_push, length_push}
use Rattle.enq_base.specs.declared.owner.UnitKey.{UnitKey}
use Rattle.turn_list.specs.Counts.{before, waits, start_of, end_of, IsCounted}
use Rattle.turn_list.proofs.Before.{before_push, before_all, before_few, waiting_push}
use Rattle.turn_list.proofs.Blocks.{one_level, quotient, odd, even, even_else, end_at, start_is, width_up}

pub counted_push : (turns : List (Option UnitKey)) (unit : Option UnitKey) (counts : List ℕ) (count level block : ℕ)
    → IsCounted turns counts → end_of level block ≡ length turns + 1
    → count + before turns (start_of level block) ≡ before (turns ++ unit ∷ []) (length turns + 1)
    → IsCounted (turns ++ unit ∷ []) (counts ++ count ∷ [])
counted_push turns unit counts count level block was ends sum = (
  length_push counts count ∙ ap (λ n. n + 1) was.0 ∙ sym (length_push turns unit),
  λ l b within. pick l b within
      (cases_lt (end_of l b) (length turns + 1)),
) where
  pick : (l b : ℕ) → end_of l b ≤ length (turns ++ unit ∷ []) → (end_of l b < length turns + 1) ⊎ (length turns + 1 ≤ end_of l b)
      → get_or (counts ++ count ∷ []) (end_of l b - 1) 0 + before (turns ++ unit ∷ []) (start_of l b) ≡ before (turns ++ unit ∷ []) (end_of l b)
  pick l b within (inl h) =
      let some = pow_pos l in
      let old = was.1 l b (omega arith) in
      let len : length counts ≡ length turns = was.0 in
      let same = get_or_append_left counts (count ∷ []) 0 (end_of l b - 1) (omega arith) in
      let start = before_push turns unit (start_of l b) (omega arith) in
      let end = before_push turns unit (end_of l b) (omega arith) in
      omega arith
  pick l b within (inr h) =
      let longer = length_push turns unit in
      let end : end_of l b ≡ length turns + 1 = omega arith in
      let len : length counts ≡ length turns = was.0 in
      let this = get_or_push counts count 0 (end_of l b - 1) (omega arith) in
      let same_level : l ≡ level = one_level l level b block (omega arith) in
      let width : 2 ^ l ≡ 2 ^ level = ap (λ x. 2 ^ x) same_level in
      let some = pow_pos l in
      let at : start_of l b ≡ start_of level block = omega arith in
      let start = before_push turns unit (start_of l b) (omega arith) in
      let moved : before turns (start_of l b) ≡ before turns (start_of level block) = ap (before turns) at in
      let there : before (turns ++ unit ∷ []) (end_of l b) ≡ before (turns ++ unit ∷ []) (length turns + 1) = ap (before (turns ++ unit ∷ [])) end in
      omega arith

-- the blocks before a further turn that end where the later one begins
pub record IsSummed (turns : List (Option UnitKey)) (unit : Option UnitKey) (start width count : ℕ) : Type 0 where
  pub level : ℕ
  pub blocks : ℕ
  pub width_is : width ≡ 2 ^ level
  pub start_is : start ≡ blocks * 2 ^ level
  pub ends : start + width ≡ length turns + 1
  pub sum : count + before turns start ≡ before (turns ++ unit ∷ []) (length turns + 1)

pub first_sum : (turns : List (Option UnitKey)) (unit : Option UnitKey) → IsSummed turns unit (length turns) 1 (waits unit)
first_sum turns unit = record {
  level = 0;
  blocks = length turns;
  width_is = refl;
  start_is = omega arith;
  ends = refl;
  sum =
      let all = before_all turns in
      let longer = before_all (turns ++ unit ∷ []) in
      let one = waiting_push turns unit in
      let len = ap (before (turns ++ unit ∷ [])) (length_push turns unit) in
      omega arith;
}

pub some_width : (turns : List (Option UnitKey)) (unit : Option UnitKey) (start width count : ℕ) → IsSummed turns unit start width count → 0 < width
some_width turns unit start width count was = subst (λ w. 0 < w) (sym was.width_is) (pow_pos was.level)

pub record IsStep (turns : List (Option UnitKey)) (unit : Option UnitKey) (counts : List ℕ) (start width count : ℕ) : Type 0 where
  pub wide : width ≤ start
  pub few : count + get_or counts (start - 1) 0 ≤ length turns + 1
  pub next : IsSummed turns unit (start - width) (width * 2) (count + get_or counts (start - 1) 0)

pub sum_step : (turns : List (Option UnitKey)) (unit : Option UnitKey) (counts : List ℕ) (start width count : ℕ) → IsCounted turns counts
    → start / width % 2 ≡ 1 → IsSummed turns unit start width count → IsStep turns unit counts start width count
sum_step turns unit counts start width count counted h was =
    let level = was.level in
    let by : start / width ≡ was.blocks = ap (λ w. start / w) was.width_is ∙ ap (λ s. s / 2 ^ level) was.start_is ∙ quotient level was.blocks in
    let block = was.blocks / 2 in
    let half : was.blocks ≡ block + block + 1 = odd was.blocks (ap (λ q. q % 2) (sym by) ∙ h) in
    let end = end_at level block in
    let at : start ≡ end_of level block = was.start_is ∙ ap (λ b. b * 2 ^ level) half ∙ sym end in
    let some = some_width turns unit start width count was in
    let width_is = was.width_is in
    let ends = was.ends in
    let begins : start - width ≡ start_of level block = omega arith in
    let number = counted.1 level block (omega arith) in
    let count_is : get_or counts (start - 1) 0 ≡ get_or counts (end_of level block - 1) 0 = ap (λ s. get_or counts (s - 1) 0) at in
    let from : before turns (start - width) ≡ before turns (start_of level block) = ap (before turns) begins in
    let to : before turns start ≡ before turns (end_of level block) = ap (before turns) at in
    let sum = was.sum in
    let few = before_few (turns ++ unit ∷ []) (length turns + 1) in
    let up = width_up level in
    record {
      wide = omega arith;
      few = omega arith;
      next = record {
        level = level + 1;
        blocks = block;
        width_is = omega arith;
        start_is = begins;
        ends = omega arith;
        sum = omega arith;
      };
    }

pub sum_done : (turns : List (Option UnitKey)) (unit : Option UnitKey) (counts : List ℕ) (start width count : ℕ) → IsCounted turns counts
    → (start / width % 2 ≡ 1 → ⊥) → IsSummed turns unit start width count → IsCounted (turns ++ unit ∷ []) (counts ++ count ∷ [])
sum_done turns unit counts start width count counted h was =
    let level = was.level in
    let by : start / width ≡ was.blocks = ap (λ w. start / w) was.width_is ∙ ap (λ s. s / 2 ^ level) was.start_is ∙ quotient level was.blocks in
    let block = was.blocks / 2 in
    let parity : was.blocks % 2 ≡ 0 = even_else was.blocks (λ e. h (ap (λ q. q % 2) by ∙ e)) in
    let half : was.blocks ≡ block + block = even was.blocks parity in
    let at : start ≡ start_of level block = was.start_is ∙ ap (λ b. b * 2 ^ level) half ∙ sym (start_is level block) in
    let width_is = was.width_is in
    let ends = was.ends in
    counted_push turns unit counts count level block counted (omega arith) (ap (λ s. count + before turns s) (sym at) ∙ was.sum)
