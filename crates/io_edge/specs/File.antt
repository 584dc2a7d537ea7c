-- A source over a file.
use Rattle.std.specs.Prelude.{ℕ, List}

-- what it shows: the file's path, and how many reads failed
pub record FileView : Type 0 where
  pub path : List ℕ
  pub faults : ℕ
