-- Fields that are read from the front of bytes, and what is made of them.
use Rattle.std.specs.Prelude.{◌≡◌, ℕ, zero, suc, Bool, List, [], ◌∷◌, length, take, drop, Option, Some, None, Result}
use Rattle.std.specs.Prelude.{Ok, Err, option_and_then, nat_lt, ◌==◌, if◌then◌else◌}
use Rattle.std.specs.Int.{Width, byte_len, from_be_bytes}
use Rattle.byte_fields.specs.declared.fault.ReadFault.{ReadFault}
use Rattle.byte_fields.specs.declared.fault.ReadFault.TheVariants as faults

infixl 10 ◌>>=◌
abbrev pub ◌>>=◌ : {A B : Type 0} → Option A → (A → Option B) → Option B
o >>= f = option_and_then f o

-- what a function returned, seen by view, is what reading gives, unless memory ran out
abbrev pub Fails : {Y : Type 0} → ReadFault → Option Y → Type 0
Fails faults.NoMemory read = Unit {0}
Fails faults.Bad read = read ≡ None

abbrev pub Gives : {X Y : Type 0} → (X → Y) → Result X ReadFault → Option Y → Type 0
Gives view (Ok x) read = read ≡ Some (view x)
Gives view (Err e) read = Fails e read

-- a value, and the bytes behind it
abbrev pub Field : Type 0 → Type 0
Field A = List ℕ → Option (A × List ℕ)

-- a field, and behind it one that may depend on its value
infixl 20 ◌then◌
abbrev pub ◌then◌ : {A B : Type 0} → Field A → (A → Field B) → Field (A × B)
(first then second) bytes = first bytes >>= λ a. second a.0 a.1 >>= λ b. Some ((a.0, b.0), b.1)

infixl 20 ◌&◌
abbrev pub ◌&◌ : {A B : Type 0} → Field A → Field B → Field (A × B)
(first & second) bytes = first bytes >>= λ a. second a.1 >>= λ b. Some ((a.0, b.0), b.1)

-- what is made of a field's value
infixl 15 ◌giving◌
abbrev pub ◌giving◌ : {A B : Type 0} → Field A → (A → B) → Field B
(field giving make) bytes = field bytes >>= λ a. Some (make a.0, a.1)

-- a field that takes all of the bytes that another one gives
infixl 15 ◌holding◌
abbrev pub ◌holding◌ : {A : Type 0} → Field (List ℕ) → Field A → Field A
(outer holding inner) bytes = outer bytes >>= λ text. inner text.0 >>= λ a. if length a.1 == 0 then Some
    (a.0, text.1) else None

-- a field whose value passes a test
infixl 15 ◌if_it◌
abbrev pub ◌if_it◌ : {A : Type 0} → Field A → (A → Bool) → Field A
(field if_it test) bytes = field bytes >>= λ a. if test a.0 then Some a else None

-- nothing stands behind the field
abbrev pub whole : {A : Type 0} → Field A → List ℕ → Option A
whole field bytes = field bytes >>= λ a. if length a.1 == 0 then Some a.0 else None

-- all of the bytes, if they pass a test
abbrev pub all_if : (List ℕ → Bool) → List ℕ → Option (List ℕ)
all_if test bytes = if test bytes then Some bytes else None

unfoldable pub bytes_at : ℕ → Field (List ℕ)
bytes_at n bytes = if nat_lt (length bytes) n then None else Some (take n bytes, drop n bytes)

unfoldable pub number_at : Width → Field ℕ
number_at w = bytes_at (byte_len w) giving from_be_bytes w

-- a byte that stands for a value
abbrev pub code_at : {A : Type 0} → (ℕ → Option A) → Field A
code_at meaning [] = None
code_at meaning (b ∷ rest) = meaning b >>= λ a. Some (a, rest)

-- so many fields of one kind
unfoldable pub many : {A : Type 0} → Field A → ℕ → Field (List A)
many field zero bytes = Some ([], bytes)
many field (suc n) bytes = do
  first ← field bytes
  others ← many field n first.1
  Some (first.0 ∷ others.0, others.1)
