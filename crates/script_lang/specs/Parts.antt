-- The parts of a line, by their bytes.
use Rattle.std.specs.Prelude.{ℕ, ◌≤◌, Bool, true, false, ◌&&◌, nat_eq, List, [], ◌∷◌, IsTrue}
use Rattle.std.specs.List.{list_all, AllByRecursion}
use Rattle.enq_base.specs.Grammar.{is_name, is_digit, is_key_byte, is_text_byte}
use Rattle.script_lang.specs.declared.script_line.RawValue.{RawValue}

-- 1 or more bytes without a space
abbrev pub is_raw : List ℕ → Bool
is_raw [] = false
is_raw (b ∷ bs) = list_all is_key_byte (b ∷ bs)

-- 1 or more bytes, spaces among them
abbrev pub is_rest : List ℕ → Bool
is_rest [] = false
is_rest (b ∷ bs) = list_all is_text_byte (b ∷ bs)

-- two digits
abbrev pub is_nr : List ℕ → Bool
is_nr (a ∷ b ∷ []) = is_digit a && is_digit b
is_nr _ = false

-- an empty line, and a comment, which `#` begins
abbrev pub is_blank : List ℕ → Bool
is_blank [] = true
is_blank (b ∷ bs) = nat_eq b 35 && list_all is_text_byte bs

abbrev pub IsName : List ℕ → Type 0
IsName bs = IsTrue (is_name bs)

abbrev pub IsRaw : List ℕ → Type 0
IsRaw bs = IsTrue (is_raw bs)

abbrev pub IsRest : List ℕ → Type 0
IsRest bs = IsTrue (is_rest bs)

-- a field, and a value without a space, which may be empty
abbrev pub IsValue : RawValue → Type 0
IsValue v = IsName v.field × IsTrue (list_all is_key_byte v.raw)

abbrev pub AreValues : List RawValue → Type 0
AreValues vs = AllByRecursion IsValue vs

-- V1 or V2
abbrev pub IsPart : ℕ → Type 0
IsPart part = (1 ≤ part) × (part ≤ 2)

-- 1 to 64
abbrev pub IsWorker : ℕ → Type 0
IsWorker worker = (1 ≤ worker) × (worker ≤ 64)
