-- A disk that stops.
use Rattle.std.specs.Prelude.{◌≡◌, ◌⊎◌, ℕ, ◌+◌}
use Rattle.enq_base.specs.Causes.{Rose}
use Rattle.enq_base.specs.Causes.{one_more}

-- what it shows: the disk below, how many calls it still serves, and how many calls it failed itself
pub record StopView (D : Type 0) : Type 0 where
  pub disk : D
  pub left : ℕ
  pub faults : ℕ

-- the faults of both
abbrev pub all_faults : {D : Type 0} → (D → ℕ) → StopView D → ℕ
all_faults faults s = faults s.disk + s.faults

-- a call failed: the disk had stopped and the one below was left alone, or the one below failed
abbrev pub FailsStopped : {D : Type 0} → (D → ℕ) → StopView D → StopView D → Type 0
FailsStopped faults old new = ((old.left ≡ 0) × (new.disk ≡ old.disk) × (new.faults ≡ one_more old.faults))
    ⊎ Rose (faults old.disk) (faults new.disk)
