-- A disk over a file that stands in its folder.
use Rattle.std.specs.Prelude.{ℕ, List}

-- what it shows: the paths of the file and of its folder, and how many calls failed
pub record FolderView : Type 0 where
  pub path : List ℕ
  pub folder : List ℕ
  pub faults : ℕ
