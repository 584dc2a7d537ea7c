-- Bytes that grow behind a closed gate.
use Rattle.std.specs.Prelude.{◌≡◌, ◌≢◌, ℕ, ◌+◌, ◌<◌, ◌≤◌, ◌^◌, List, [], ◌∷◌, ◌++◌, length}
use Rattle.bk_disk.specs.Disk.{Only}

-- this front, a closed gate, and then anything
pub record IsShut (front bytes : List ℕ) : Type 0 where
  pub byte : ℕ
  pub rest : List ℕ
  pub whole : bytes ≡ front ++ byte ∷ rest
  pub closed : byte ≢ 1

-- behind this front a closed gate stands at this offset, then come these bytes and anything, and all of it is on the
-- disk
pub record IsSynced (bytes : List ℕ) (images : List ℕ → Type 0) (gate : ℕ) (front behind : List ℕ) : Type 0 where
  pub byte : ℕ
  pub more : List ℕ
  pub whole : bytes ≡ front ++ byte ∷ (behind ++ more)
  pub closed : byte ≢ 1
  pub place : length front ≡ gate
  pub fits : gate + 1 + length behind < 2 ^ 63
  pub durable : Only bytes images

-- behind this front a closed gate stands at this offset, and all of it is on the disk
abbrev pub IsAtRest : List ℕ → (List ℕ → Type 0) → ℕ → List ℕ → Type 0
IsAtRest bytes images gate front = IsSynced bytes images gate front []

-- each image has at most n bytes
abbrev pub AreShort : ℕ → (List ℕ → Type 0) → Type 0
AreShort n images = (c : List ℕ) → images c → length c ≤ n
