-- Numbers in decimal, without sign and without leading zeros.
use Rattle.std.specs.Prelude.{ℕ, ◌≤◌, ◌<◌, ◌^◌, Bool, true, false, not, ◌&&◌, ◌||◌, nat_eq, nat_le, nat_lt, List, []}
use Rattle.std.specs.Prelude.{◌∷◌, if◌then◌else◌, Option, Some, None, option_and_then}
use Rattle.std.specs.List.{list_all}
use Rattle.std.specs.Str.Parse.{digits_value}
use Rattle.enq_base.specs.declared.owner.UnitKey.{UnitKey}
use Rattle.enq_base.specs.Cut.{cut}
use Rattle.enq_base.specs.Grammar.{is_digit}

abbrev pub is_empty : List ℕ → Bool
is_empty [] = true
is_empty (b ∷ bs) = false

-- digits, of which the first is 0 only where it stands alone
abbrev pub is_numeral : List ℕ → Bool
is_numeral [] = false
is_numeral (b ∷ bs) = (is_empty bs || not (nat_eq b 48)) && list_all is_digit (b ∷ bs)

-- a number below 2 ^ 64
unfoldable pub number_of : List ℕ → Option ℕ
number_of text = if is_numeral text && nat_lt (digits_value 10 text) (2 ^ 64) then Some (digits_value 10 text) else None

abbrev pub in_count : ℕ → Option ℕ
in_count n = if nat_le 1 n && nat_le n 4294967295 then Some n else None

-- a number from 1 on, below 2 ^ 32
unfoldable pub count_of : List ℕ → Option ℕ
count_of text = option_and_then in_count (number_of text)

infixl 10 ◌>>=◌
abbrev pub ◌>>=◌ : {A B : Type 0} → Option A → (A → Option B) → Option B
o >>= f = option_and_then f o

-- three numbers from 1 on, joined by `.`
unfoldable pub unit_key_of : List ℕ → Option UnitKey
unit_key_of text = do
  a ← cut 46 text
  b ← cut 46 (a.1)
  start ← count_of (a.0)
  session ← count_of (b.0)
  luw ← count_of (b.1)
  Some (record { start = start; session = session; luw = luw })

abbrev pub IsCount : ℕ → Type 0
IsCount n = (1 ≤ n) × (n < 2 ^ 32)

-- a key that has a spelling
abbrev pub IsUnitKey : UnitKey → Type 0
IsUnitKey unit = IsCount unit.start × IsCount unit.session × IsCount unit.luw
