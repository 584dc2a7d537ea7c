-- Numbers of 64 bits with a sign, in shortest decimal form.
use Rattle.std.specs.Prelude.{ℕ, ◌-◌, ◌^◌, Bool, ◌&&◌, nat_eq, nat_lt, nat_le, List, [], ◌∷◌, if◌then◌else◌, Option}
use Rattle.std.specs.Prelude.{Some, None, option_and_then, ℤ, pos, negsuc}
use Rattle.enq_base.specs.Number.{number_of}

-- from -2^63 to 2^63 - 1
abbrev pub is_i64 : ℤ → Bool
is_i64 (pos n) = nat_lt n (2 ^ 63)
is_i64 (negsuc n) = nat_lt n (2 ^ 63)

abbrev pub as_natural : ℕ → Option ℤ
as_natural n = if nat_lt n (2 ^ 63) then Some (pos n) else None

-- 0 has no sign
abbrev pub as_negative : ℕ → Option ℤ
as_negative n = if nat_le 1 n && nat_le n (2 ^ 63) then Some (negsuc (n - 1)) else None

-- the number that a text spells; 45 is the sign
abbrev pub integer_of : List ℕ → Option ℤ
integer_of [] = None
integer_of (b ∷ bs) = if nat_eq b 45 then option_and_then as_negative (number_of bs) else option_and_then as_natural
    (number_of (b ∷ bs))
