-- The one at a place is found from the widest blocks to the narrowest.
use Rattle.std.proofs.Common.{◌≡◌, ◌<◌, ◌≤◌, ◌+◌, ◌-◌, ◌*◌, ◌^◌, ◌⊎◌, inl, inr, ℕ, suc, List, Option, None, length, get_or, slice_get, sym, ap, subst, refl, arith, ◌∙◌}
use Rattle.std.proofs.lemmas.List.{get_or_past}
use Rattle.std.proofs.lemmas.Option.{slice_get_past}
use Rattle.enq_base.specs.declared.owner.UnitKey.{UnitKey}
use Rattle.turn_list.specs.Turns.{waiting_in}
use Rattle.turn_list.specs.Counts.{before, start_of, end_of, IsCounted}
use Rattle.turn_list.proofs.Before.{before_all, found_at}
use Rattle.turn_list.proofs.Blocks.{start_is, end_at, width_up}

-- the place is in the two blocks from a turn on, or past all
pub record IsNear (turns : List (Option UnitKey)) (place level turn left : ℕ) : Type 0 where
  pub blocks : ℕ
  pub turn_is : turn ≡ blocks * 2 ^ level
  pub within : turn ≤ length turns
  pub sum : left + before turns turn ≡ place
  pub to : (length turns < turn + 2 ^ level) ⊎ (place < before turns (turn + 2 ^ level))

pub near_first : (turns : List (Option UnitKey)) (place : ℕ) → length turns ≤ 1048576 → IsNear turns place 21 0 place
near_first turns place few = record {
  blocks = 0;
  turn_is = refl;
  within = omega arith;
  sum = omega arith;
  to = inl (omega arith);
}

-- a level down: the block at the turn is passed over, or not
pub near_next : (turns : List (Option UnitKey)) (counts : List ℕ) (place level turn left end : ℕ) → IsCounted turns counts
    → end ≡ turn + 2 ^ level → end ≤ length turns → get_or counts (end - 1) 0 ≤ left
    → IsNear turns place (level + 1) turn left → IsNear turns place level end (left - get_or counts (end - 1) 0)
near_next turns counts place level turn left end counted is within low was =
    let block = was.blocks in
    let turn_is : turn ≡ start_of level block = was.turn_is in
    let end_is : end ≡ end_of level block = omega arith in
    let number = counted.1 level block (omega arith) in
    let count_is : get_or counts (end - 1) 0 ≡ get_or counts (end_of level block - 1) 0 = ap (λ s. get_or counts (s - 1) 0) end_is in
    let from : before turns turn ≡ before turns (start_of level block) = ap (before turns) turn_is in
    let to : before turns end ≡ before turns (end_of level block) = ap (before turns) end_is in
    let sum = was.sum in
    let up = width_up level in
    let on : turn + 2 ^ (level + 1) ≡ end + 2 ^ level = omega arith in
    record {
      blocks = block + block + 1;
      turn_is = end_is ∙ end_at level block;
      within = within;
      sum = omega arith;
      to = subst (λ t. (length turns < t) ⊎ (place < before turns t)) on was.to;
    }

pub near_same : (turns : List (Option UnitKey)) (counts : List ℕ) (place level turn left end : ℕ) → IsCounted turns counts
    → end ≡ turn + 2 ^ level → (length turns < end) ⊎ ((end ≤ length turns) × (left < get_or counts (end - 1) 0))
    → IsNear turns place (level + 1) turn left → IsNear turns place level turn left
near_same turns counts place level turn left end counted is past was = record {
  blocks = was.blocks + was.blocks;
  turn_is = was.turn_is ∙ start_is level was.blocks;
  within = was.within;
  sum = was.sum;
  to = subst (λ t. (length turns < t) ⊎ (place < before turns t)) is (reached past);
} where
  reached : (length turns < end) ⊎ ((end ≤ length turns) × (left < get_or counts (end - 1) 0)) → (length turns < end) ⊎ (place < before turns end)
  reached (inl h) = inl h
  reached (inr h) =
      let block = was.blocks in
      let turn_is : turn ≡ start_of level block = was.turn_is in
      let end_is : end ≡ end_of level block = omega arith in
      let number = counted.1 level block (omega (arith, h)) in
      let count_is : get_or counts (end - 1) 0 ≡ get_or counts (end_of level block - 1) 0 = ap (λ s. get_or counts (s - 1) 0) end_is in
      let from : before turns turn ≡ before turns (start_of level block) = ap (before turns) turn_is in
      let to : before turns end ≡ before turns (end_of level block) = ap (before turns) end_is in
      let sum = was.sum in
      inr (omega (arith, h))

pub near_found : (turns : List (Option UnitKey)) (place turn left : ℕ) → IsNear turns place 0 turn left
    → get_or turns turn None ≡ slice_get (waiting_in turns) place
near_found turns place turn left was = go was.to where
  go : (length turns < turn + 1) ⊎ (place < before turns (turn + 1)) → get_or turns turn None ≡ slice_get (waiting_in turns) place
  go (inl h) =
      let within = was.within in
      let end : turn ≡ length turns = omega arith in
      let sum = was.sum in
      let all : before turns turn ≡ length (waiting_in turns) = ap (before turns) end ∙ before_all turns in
      get_or_past turns turn None (omega arith) ∙ sym (slice_get_past (waiting_in turns) place (omega arith))
  go (inr h) =
      let sum = was.sum in
      let next : turn + 1 ≡ suc turn = omega arith in
      let high : place < before turns (suc turn) = subst (λ t. place < before turns t) next h in
      sym (found_at turns turn place (omega arith) high)
