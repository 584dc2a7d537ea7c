-- A unit is taken out of the numbers of the blocks.
use Rattle.std.proofs.Common.{◌≡◌, ◌<◌, ◌≤◌, ◌+◌, ◌-◌, ◌*◌, ◌/◌, ◌%◌, ◌^◌, ◌⊎◌, inl, inr, ℕ, List, Option, Some, None, length, get_or, set, sym, ap, subst, arith, ◌∙◌}
use Rattle.std.proofs.Math.Pow.{pow_mono}
use Rattle.std.proofs.lemmas.Nat.{pow_pos}
use Rattle.std.proofs.lemmas.Bool.{cases_lt, cases_eq}
use Rattle.std.proofs.lemmas.List.{get_or-set_same, get_or-set_other, length-set}
use Rattle.enq_base.specs.declared.owner.UnitKey.{UnitKey}
use Rattle.turn_list.specs.Counts.{start_of, end_of, waits, IsBlockCounted, IsCounted, IsLowered}
use Rattle.turn_list.proofs.Before.{one_waits, before_next, before_on, before_set, past_set}
use Rattle.turn_list.proofs.Blocks.{one_level, one_block, around, within_even, even}

-- a block that the turn isn't in counts as many as before
apart : (turns : List (Option UnitKey)) (counts : List ℕ) (turn : ℕ) (unit : UnitKey) (level block : ℕ) → get_or turns turn None ≡ Some unit
    → (turn < start_of level block) ⊎ (end_of level block ≤ turn)
    → IsBlockCounted turns counts level block → IsBlockCounted (set turns turn None) counts level block
apart turns counts turn unit level block e (inl h) was within =
    let some = pow_pos level in
    let old = was (omega (arith, length-set turns turn None)) in
    let start = past_set turns turn (start_of level block) unit e h in
    let end = past_set turns turn (end_of level block) unit e (omega arith) in
    omega arith
apart turns counts turn unit level block e (inr h) was within =
    let some = pow_pos level in
    let old = was (omega (arith, length-set turns turn None)) in
    let start = before_set turns turn (start_of level block) (omega arith) in
    let end = before_set turns turn (end_of level block) h in
    omega arith

-- a number elsewhere changes nothing
elsewhere : (turns : List (Option UnitKey)) (counts : List ℕ) (level block place count : ℕ) → (end_of level block - 1 ≡ place → ⊥)
    → IsBlockCounted turns counts level block → IsBlockCounted turns (set counts place count) level block
elsewhere turns counts level block place count h was within =
    let same = get_or-set_other counts place (end_of level block - 1) count 0 h in
    let old = was within in
    omega arith

-- no unit waits in fewer blocks than those around its turn
pub some_counted : (turns : List (Option UnitKey)) (counts : List ℕ) (turn : ℕ) (unit : UnitKey) (level block : ℕ) → get_or turns turn None ≡ Some unit
    → start_of level block ≤ turn → turn < end_of level block → end_of level block ≤ length turns
    → IsBlockCounted turns counts level block → 1 ≤ get_or counts (end_of level block - 1) 0
some_counted turns counts turn unit level block e from to within was =
    let old = was within in
    let low = before_on turns (start_of level block) turn from in
    let next = before_next turns turn (omega arith) in
    let one : waits (get_or turns turn None) ≡ 1 = ap waits e in
    let high = before_on turns (turn + 1) (end_of level block) (omega arith) in
    omega arith

-- the block around the turn
lowered_here : (turns : List (Option UnitKey)) (counts : List ℕ) (turn : ℕ) (unit : UnitKey) (level block : ℕ) → get_or turns turn None ≡ Some unit
    → start_of level block ≤ turn → turn < end_of level block → end_of level block ≤ length turns → length counts ≡ length turns
    → IsBlockCounted turns counts level block
    → IsBlockCounted (set turns turn None) (set counts (end_of level block - 1) (get_or counts (end_of level block - 1) 0 - 1)) level block
lowered_here turns counts turn unit level block e from to within len was _ =
    let place = end_of level block - 1 in
    let count = get_or counts place 0 - 1 in
    let old = was within in
    let some = some_counted turns counts turn unit level block e from to within was in
    let now = get_or-set_same counts place count 0 (omega arith) in
    let start = before_set turns turn (start_of level block) from in
    let end = past_set turns turn (end_of level block) unit e to in
    omega arith

away : (level block turn : ℕ) → (start_of level block ≤ turn → turn < end_of level block → ⊥) → (turn < start_of level block) ⊎ (end_of level block ≤ turn)
away level block turn h = go (cases_lt turn (start_of level block)) (cases_lt turn (end_of level block)) where
  go : (turn < start_of level block) ⊎ (start_of level block ≤ turn) → (turn < end_of level block) ⊎ (end_of level block ≤ turn) → (turn < start_of level block)
      ⊎ (end_of level block ≤ turn)
  go (inl a) _ = inl a
  go (inr a) (inr b) = inr b
  go (inr a) (inl b) = absurd (h a b)

end_some : (level block : ℕ) → 1 ≤ end_of level block
end_some level block = let some = pow_pos level in omega arith

-- the level is done where one of its blocks is around the turn
pub lowered_one : (turns : List (Option UnitKey)) (counts : List ℕ) (turn : ℕ) (unit : UnitKey) (level block : ℕ) → get_or turns turn None ≡ Some unit
    → start_of level block ≤ turn → turn < end_of level block → end_of level block ≤ length turns
    → IsLowered turns turn counts level
    → IsLowered turns turn (set counts (end_of level block - 1) (get_or counts (end_of level block - 1) 0 - 1)) (level + 1)
lowered_one turns counts turn unit level block e from to within was = record {
  len = length-set counts place count ∙ was.len;
  done = λ l b h. pick l b h (cases_eq l level) (cases_eq b block);
  left = λ l b h. elsewhere turns counts l b place count (other_level l b (omega arith)) (was.left l b (omega arith));
} where
  place : ℕ
  place = end_of level block - 1

  count : ℕ
  count = get_or counts place 0 - 1

  other_level : (l b : ℕ) → (l ≡ level → ⊥) → end_of l b - 1 ≡ place → ⊥
  other_level l b h same =
      let one = end_some level block in
      let other = end_some l b in
      h (one_level l level b block (omega arith))

  other_block : (b : ℕ) → (b ≡ block → ⊥) → end_of level b - 1 ≡ place → ⊥
  other_block b h same =
      let one = end_some level block in
      let other = end_some level b in
      let some = pow_pos level in
      h (one_block level b block place (omega arith) (omega arith) (omega arith) (omega arith))

  pick : (l b : ℕ) → l < level + 1 → (l ≡ level) ⊎ (l ≡ level → ⊥) → (b ≡ block) ⊎ (b ≡ block → ⊥)
      → IsBlockCounted (set turns turn None) (set counts place count) l b
  pick l b h (inr other) _ = elsewhere (set turns turn None) counts l b place count (other_level l b other) (was.done l b (omega arith))
  pick l b h (inl same) (inl this) =
      subst (λ x. IsBlockCounted (set turns turn None) (set counts place count) x b) (sym same)
      (subst (λ x. IsBlockCounted (set turns turn None) (set counts place count) level x) (sym this)
      (lowered_here turns counts turn unit level block e from to within was.len (was.left level block (omega arith))))
  pick l b h (inl same) (inr other) =
      subst (λ x. IsBlockCounted (set turns turn None) (set counts place count) x b) (sym same)
      (elsewhere (set turns turn None) counts level b place count (other_block b other)
      (apart turns counts turn unit level b e (away level b turn (λ a c. other (one_block level b block turn a c from to))) (was.left level b (omega arith))))

-- and where none is
pub lowered_none : (turns : List (Option UnitKey)) (counts : List ℕ) (turn : ℕ) (unit : UnitKey) (level : ℕ) → get_or turns turn None ≡ Some unit
    → ((block : ℕ) → start_of level block ≤ turn → turn < end_of level block → end_of level block ≤ length turns → ⊥)
    → IsLowered turns turn counts level → IsLowered turns turn counts (level + 1)
lowered_none turns counts turn unit level e none was = record {
  len = was.len;
  done = λ l b h. pick l b h (cases_eq l level);
  left = λ l b h. was.left l b (omega arith);
} where
  here : (b : ℕ) → IsBlockCounted (set turns turn None) counts level b
  here b within =
      apart turns counts turn unit level b e (away level b turn (λ a c. none b a c (omega (arith, length-set turns turn None))))
      (was.left level b (omega arith)) within

  pick : (l b : ℕ) → l < level + 1 → (l ≡ level) ⊎ (l ≡ level → ⊥) → IsBlockCounted (set turns turn None) counts l b
  pick l b h (inr other) = was.done l b (omega arith)
  pick l b h (inl same) = subst (λ x. IsBlockCounted (set turns turn None) counts x b) (sym same) (here b)

pub all_lowered : (turns : List (Option UnitKey)) (counts : List ℕ) (turn : ℕ) → length turns ≤ 1048576
    → IsLowered turns turn counts 21 → IsCounted (set turns turn None) counts
all_lowered turns counts turn few was = (was.len ∙ sym (length-set turns turn None), λ l b. pick l b (cases_lt l 21)) where
  pick : (l b : ℕ) → (l < 21) ⊎ (21 ≤ l) → IsBlockCounted (set turns turn None) counts l b
  pick l b (inl h) within = was.done l b h within
  pick l b (inr h) within =
      let wide : 2 ^ 21 ≤ 2 ^ l = pow_mono h in
      let len = length-set turns turn None in
      let no : ⊥ = omega arith in
      absurd no

-- the same by the quotient of the turn
pub lowered_even : (turns : List (Option UnitKey)) (counts : List ℕ) (turn level width : ℕ) → waits (get_or turns turn None) ≡ 1 → width ≡ 2 ^ level
    → turn / width % 2 ≡ 0 → (turn / width + 1) * width ≤ length turns → IsLowered turns turn counts level
    → (1 ≤ get_or counts ((turn / width + 1) * width - 1) 0)
    × IsLowered turns turn (set counts ((turn / width + 1) * width - 1) (get_or counts ((turn / width + 1) * width - 1) 0 - 1)) (level + 1)
lowered_even turns counts turn level width one is h within was =
    let unit = one_waits (get_or turns turn None) one in
    let quotient = ap (λ w. turn / w) is in
    let half : turn / 2 ^ level % 2 ≡ 0 = ap (λ q. q % 2) (sym quotient) ∙ h in
    let block = turn / 2 ^ level / 2 in
    let at = within_even level turn block (even (turn / 2 ^ level) half) in
    let end : (turn / width + 1) * width ≡ end_of level block = ap (λ w. (turn / w + 1) * w) is ∙ at.2 in
    let inside : end_of level block ≤ length turns = subst (λ x. x ≤ length turns) end within in
    subst (λ x. (1 ≤ get_or counts (x - 1) 0) × IsLowered turns turn (set counts (x - 1) (get_or counts (x - 1) 0 - 1)) (level + 1)) (sym end) (
      some_counted turns counts turn unit.0 level block unit.1 at.0 at.1 inside (was.left level block (omega arith)),
      lowered_one turns counts turn unit.0 level block unit.1 at.0 at.1 inside was,
    )

pub lowered_odd : (turns : List (Option UnitKey)) (counts : List ℕ) (turn level width : ℕ) → waits (get_or turns turn None) ≡ 1 → width ≡ 2 ^ level
    → (turn / width % 2 ≡ 0 → ⊥) → IsLowered turns turn counts level → IsLowered turns turn counts (level + 1)
lowered_odd turns counts turn level width one is h was =
    let unit = one_waits (get_or turns turn None) one in
    lowered_none turns counts turn unit.0 level unit.1
    (λ block from to _. let q : turn / width ≡ block + block = ap (λ w. turn / w) is ∙ around level block turn from to in h (omega arith)) was

pub lowered_past : (turns : List (Option UnitKey)) (counts : List ℕ) (turn level width : ℕ) → waits (get_or turns turn None) ≡ 1 → width ≡ 2 ^ level
    → turn / width % 2 ≡ 0 → length turns < (turn / width + 1) * width → IsLowered turns turn counts level → IsLowered turns turn counts (level + 1)
lowered_past turns counts turn level width one is h past was =
    let unit = one_waits (get_or turns turn None) one in
    let half : turn / 2 ^ level % 2 ≡ 0 = ap (λ w. turn / w % 2) (sym is) ∙ h in
    let at = within_even level turn (turn / 2 ^ level / 2) (even (turn / 2 ^ level) half) in
    let end : (turn / width + 1) * width ≡ end_of level (turn / 2 ^ level / 2) = ap (λ w. (turn / w + 1) * w) is ∙ at.2 in
    lowered_none turns counts turn unit.0 level unit.1
    (λ block from to inside.
    let same = ap (end_of level) (one_block level block (turn / 2 ^ level / 2) turn from to at.0 at.1) in omega arith) was
