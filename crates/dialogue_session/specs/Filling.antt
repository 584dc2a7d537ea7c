-- Parts of a line with texts in place of the names of variables.
use Rattle.std.specs.Prelude.{◌≡◌, ◌⊎◌, ℕ, zero, suc, Bool, nat_eq, List, [], ◌∷◌, ◌++◌, length, take, take_while}
use Rattle.std.specs.Prelude.{if◌then◌else◌, Option, Some, None, Result, Ok, Err}
use Rattle.std.specs.List.{list_any}
use Rattle.enq_base.specs.Grammar.{is_name, is_name_byte}
use Rattle.enq_base.specs.declared.refusal.Refusal.{Refusal}
use Rattle.enq_base.specs.declared.refusal.Refusal.TheVariants as refusal
use Rattle.dialogue_session.specs.Variables.{text_of}
use Rattle.dialogue_session.specs.declared.variables.Variable.{Variable}

-- `$` stands before the name of a variable
abbrev pub holds_dollar : List ℕ → Bool
holds_dollar bytes = list_any (nat_eq 36) bytes

abbrev pub if_name : List ℕ → Option (List ℕ)
if_name bytes = if is_name bytes then Some bytes else None

-- the name at the front of the bytes, the longest that stands there, of at most 30 bytes
abbrev pub name_ahead : List ℕ → Option (List ℕ)
name_ahead bytes = if_name (take_while is_name_byte (take 30 bytes))

-- the name that a `$` in front of the bytes has behind it
abbrev pub name_behind : ℕ → List ℕ → Option (List ℕ)
name_behind b bytes = if nat_eq 36 b then name_ahead bytes else None

-- two texts, one behind the other, or the first refusal
abbrev pub joined : Result (List ℕ) Refusal → Result (List ℕ) Refusal → Result (List ℕ) Refusal
joined (Ok front) (Ok rest) = Ok (front ++ rest)
joined (Ok front) (Err r) = Err r
joined (Err r) rest = Err r

-- the text that stands for a name, which has to be known
abbrev pub text_for : List Variable → List ℕ → Result (List ℕ) Refusal
text_for variables name =
    elim (text_of variables name) [ None ↦ Err (refusal.UnknownVariable name) | Some text ↦ Ok text ]

-- the bytes behind those that are passed over
abbrev pub filled_from : List Variable → (passed : ℕ) → List ℕ → Result (List ℕ) Refusal
filled_from variables passed [] = Ok []
filled_from variables (suc passed) (b ∷ bytes) = filled_from variables passed bytes
filled_from variables zero (b ∷ bytes) =
    elim (name_behind b bytes) [
      | None ↦ joined (Ok (b ∷ [])) (filled_from variables 0 bytes)
      | Some name ↦ joined (text_for variables name) (filled_from variables (length name) bytes)
    ]

-- The bytes of a part of a line, from left to right: a `$` with a name behind it gives way, with that name, to the text
-- that stands for the name, and each other byte stands for itself. A text isn't looked through for names. The first
-- name that no text stands for refuses the part.
abbrev pub filled : List Variable → List ℕ → Result (List ℕ) Refusal
filled variables bytes = filled_from variables 0 bytes

-- the refusal is the rule's own, or want of memory
abbrev pub IsRefusedAs : Result (List ℕ) Refusal → Refusal → Type 0
IsRefusedAs rule r = (rule ≡ Err r) ⊎ (r ≡ refusal.NoMemory)
