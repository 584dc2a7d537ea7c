-- What a crash may leave after changes that no sync has followed.
use Rattle.std.specs.Prelude.{◌≡◌, ◌⊎◌, ℕ, List, [], ◌∷◌, replicate}
use Rattle.bk_disk.specs.Disk.{written, resized, Torn, Cut}
use Rattle.bk_disk.specs.declared.change.Change.{Change}
use Rattle.bk_disk.specs.declared.change.Change.TheVariants.{Write, Resize}

-- a change that a crash may have cut short
abbrev pub MayLeave : Change → List ℕ → List ℕ → Type 0
MayLeave (Write at len) old new = Torn at len old new
MayLeave (Resize to) old new = Cut to old new

-- what a crash may leave after these changes, the oldest first
abbrev pub LeftBy : List Change → List ℕ → List ℕ → Type 0
LeftBy [] synced image = image ≡ synced
LeftBy (c ∷ cs) synced image = (d : List ℕ) × MayLeave c synced d × LeftBy cs d image

-- what a crash may leave of a disk that reads as bytes: these, or what the changes left
abbrev pub IsImage : List ℕ → List ℕ → List Change → List ℕ → Type 0
IsImage bytes synced changes image = (image ≡ bytes) ⊎ LeftBy changes synced image

-- the change, with one byte in all places that it writes
abbrev pub filled : ℕ → List ℕ → Change → List ℕ
filled byte old (Write at len) = written old at (replicate len byte)
filled byte old (Resize to) = resized old to

-- all these changes, with one byte in all places that they write
abbrev pub all_filled : ℕ → List ℕ → List Change → List ℕ
all_filled byte synced [] = synced
all_filled byte synced (c ∷ cs) = all_filled byte (filled byte synced c) cs
