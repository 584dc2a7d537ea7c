-- What the calls of a disk do to its bytes, and what a crash may leave of them.
use Rattle.std.specs.Prelude.{◌≡◌, ℕ, ◌+◌, ◌-◌, ◌≤◌, min, max, List, ◌++◌, length, take, drop, replicate}

-- a disk holds at most 2^63 - 1 bytes
abbrev pub FitsDisk : List ℕ → Type 0
FitsDisk bytes = length bytes ≤ 9223372036854775807

-- old with these bytes at this offset, and zeros in a gap before them
abbrev pub written : List ℕ → ℕ → List ℕ → List ℕ
written old at bytes = take at old ++ replicate (at - length old) 0 ++ bytes ++ drop (at + length bytes) old

-- old cut to this length, or made longer by zeros
abbrev pub resized : List ℕ → ℕ → List ℕ
resized old n = take n old ++ replicate (n - length old) 0

-- what a write of n bytes may leave until a sync: any bytes in its range and past the old end, and the same elsewhere
pub record Torn (at n : ℕ) (old new : List ℕ) : Type 0 where
  pub before : take (min at (length old)) new ≡ take at old
  pub after : drop (at + n) new ≡ drop (at + n) old
  pub no_shorter : length old ≤ length new
  pub no_longer : length new ≤ max (length old) (at + n)

-- what a cut may leave until a sync: some length between, and the same bytes as far as both go
pub record Cut (n : ℕ) (old new : List ℕ) : Type 0 where
  pub no_shorter : min n (length old) ≤ length new
  pub no_longer : length new ≤ max n (length old)
  pub same : take (length old) new ≡ take (length new) old

-- each new image is an old image after a step
abbrev pub Follows : (List ℕ → List ℕ → Type 0) → (List ℕ → Type 0) → (List ℕ → Type 0) → Type 0
Follows step old new = (c : List ℕ) → new c → (d : List ℕ) × old d × step d c

-- each new image is an old one
abbrev pub AddsNone : (List ℕ → Type 0) → (List ℕ → Type 0) → Type 0
AddsNone old new = (c : List ℕ) → new c → old c

-- a crash leaves this and nothing else
abbrev pub Only : List ℕ → (List ℕ → Type 0) → Type 0
Only bytes images = (c : List ℕ) → images c → c ≡ bytes

-- a read of at most so many bytes at an offset
abbrev pub read_of : List ℕ → ℕ → ℕ → List ℕ
read_of bytes at most = take most (drop at bytes)

-- the buffer begins with the n bytes that were read, and goes on as it was
pub record Fills (bytes : List ℕ) (at n : ℕ) (old new : List ℕ) : Type 0 where
  pub count : n ≡ min (length old) (length bytes - at)
  pub buffer : new ≡ read_of bytes at (length old) ++ drop n old
