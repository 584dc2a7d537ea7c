-- A number in its bytes, by either word for it.
use Rattle.std.proofs.Common.{◌≡◌, ℕ, List, arith}
use Rattle.std.specs.Int.{w16, w32, w64, from_be_bytes}
use Rattle.byteorder.specs.Endian.{big_number}

pub number_of_2 : (bytes : List ℕ) → big_number 2 bytes ≡ from_be_bytes w16 bytes
number_of_2 bytes = omega arith

pub number_of_4 : (bytes : List ℕ) → big_number 4 bytes ≡ from_be_bytes w32 bytes
number_of_4 bytes = omega arith

pub number_of_8 : (bytes : List ℕ) → big_number 8 bytes ≡ from_be_bytes w64 bytes
number_of_8 bytes = omega arith
