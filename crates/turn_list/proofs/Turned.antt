-- The turns with their numbers, after a further turn and after one at which none waits any more.
use Rattle.std.proofs.Common.{◌≡◌, ◌<◌, ◌≤◌, ◌+◌, ◌-◌, ◌++◌, ◌∷◌, ℕ, List, Option, Some, None, [], length, take, drop, get_or, set, sym, ap, arith, ◌∙◌}
use Rattle.std.proofs.lemmas.List.{length-set, length_push, take_at}
use Rattle.enq_base.specs.declared.owner.UnitKey.{UnitKey}
use Rattle.turn_list.specs.Turns.{waiting_in}
use Rattle.turn_list.specs.Counts.{before, waits, IsCounted, IsTurns}
use Rattle.turn_list.proofs.Before.{before_all, before_few, past_set, waiting_push}

pub turned_push : (turns : List (Option UnitKey)) (unit : Option UnitKey) (counts : List ℕ) (count waiting more : ℕ) → length turns < 1048576
    → IsTurns turns counts waiting → IsCounted (turns ++ unit ∷ []) (counts ++ count ∷ []) → more ≡ waits unit
    → IsTurns (turns ++ unit ∷ []) (counts ++ count ∷ []) (waiting + more)
turned_push turns unit counts count waiting more few was counted one = record {
  few = let len = length_push turns unit in omega arith;
  counted = counted;
  waiting_is = let longer = waiting_push turns unit in let is = was.waiting_is in omega arith;
}

pub waiting_few : (turns : List (Option UnitKey)) (counts : List ℕ) (waiting : ℕ) → IsTurns turns counts waiting → waiting ≤ 1048576
waiting_few turns counts waiting was =
    let all = before_all turns in
    let few = before_few turns (length turns) in
    omega (arith, was)

pub one_less : (turns : List (Option UnitKey)) (turn : ℕ) (unit : UnitKey) → get_or turns turn None ≡ Some unit → turn < length turns
    → length (waiting_in (set turns turn None)) + 1 ≡ length (waiting_in turns)
one_less turns turn unit e h =
    let all = before_all turns in
    let less = past_set turns turn (length turns) unit e h in
    let after = before_all (set turns turn None) in
    let len = ap (before (set turns turn None)) (length-set turns turn None) in
    omega arith

pub turned_clear : (turns : List (Option UnitKey)) (counts lowered : List ℕ) (waiting turn : ℕ) (unit : UnitKey) → get_or turns turn None ≡ Some unit
    → turn < length turns
    → IsTurns turns counts waiting → IsCounted (set turns turn None) lowered
    → IsTurns (set turns turn None) lowered (waiting - 1)
turned_clear turns counts lowered waiting turn unit e h was counted = record {
  few = let len = length-set turns turn None in omega (arith, was);
  counted = counted;
  waiting_is = let less = one_less turns turn unit e h in let is = was.waiting_is in omega arith;
}

pub written : (old new : List ℕ) (n : ℕ) → length new ≡ length old → n ≡ length old → take n (new ++ drop (length new) old) ≡ new
written old new n same is = take_at new (drop (length new) old) n (same ∙ sym is)

pub waits_few : (turn : Option UnitKey) → waits turn ≤ 1
waits_few None = omega arith
waits_few (Some _) = omega arith
