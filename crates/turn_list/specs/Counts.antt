-- How many wait in a block of turns.
use Rattle.std.specs.Prelude.{◌≡◌, ◌≤◌, ◌<◌, ◌+◌, ◌-◌, ◌*◌, ◌^◌, ℕ, List, Option, Some, None, length, take, get_or, set}
use Rattle.enq_base.specs.declared.owner.UnitKey.{UnitKey}
use Rattle.turn_list.specs.Turns.{waiting_in}

-- how many wait before a turn
abbrev pub before : List (Option UnitKey) → ℕ → ℕ
before turns turn = length (waiting_in (take turn turns))

-- one for a unit, none for no unit
abbrev pub waits : Option UnitKey → ℕ
waits None = 0
waits (Some _) = 1

-- the blocks of a level are as wide as 2 to the level, with as wide a gap before the next
abbrev pub start_of : ℕ → ℕ → ℕ
start_of level block = block * 2 ^ (level + 1)

abbrev pub end_of : ℕ → ℕ → ℕ
end_of level block = start_of level block + 2 ^ level

-- where a block ends within the turns, the number at its last turn is how many wait in it
abbrev pub IsBlockCounted : List (Option UnitKey) → List ℕ → ℕ → ℕ → Type 0
IsBlockCounted turns counts level block =
    end_of level block ≤ length turns
    → get_or counts (end_of level block - 1) 0 + before turns (start_of level block) ≡ before turns (end_of level block)

-- each turn is the last one of just one block, so there is one number for each turn
abbrev pub IsCounted : List (Option UnitKey) → List ℕ → Type 0
IsCounted turns counts = (length counts ≡ length turns) × ((level block : ℕ) → IsBlockCounted turns counts level block)

-- the numbers while the unit at a turn is taken out of them: below a level that is done
pub record IsLowered (turns : List (Option UnitKey)) (turn : ℕ) (counts : List ℕ) (level : ℕ) : Type 0 where
  pub len : length counts ≡ length turns
  pub done : (l block : ℕ) → l < level → IsBlockCounted (set turns turn None) counts l block
  pub left : (l block : ℕ) → level ≤ l → IsBlockCounted turns counts l block

-- turns with their numbers, and how many wait in all
pub record IsTurns (turns : List (Option UnitKey)) (counts : List ℕ) (waiting : ℕ) : Type 0 where
  pub few : length turns ≤ 1048576
  pub counted : IsCounted turns counts
  pub waiting_is : waiting ≡ length (waiting_in turns)
