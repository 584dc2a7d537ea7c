-- A session's variables.
use Rattle.std.specs.Prelude.{ℕ, Bool, List, [], ◌∷◌, if◌then◌else◌, Option}
use Rattle.std.specs.List.{find}
use Rattle.std.specs.Option.{option_map}
use Rattle.std.specs.Str.{bytes_eq}
use Rattle.dialogue_session.specs.declared.variables.Variable.{Variable}

-- what a session's variables are seen as: those that there are, and for how many more there is room
pub record VariablesView : Type 0 where
  pub items : List Variable
  pub room : ℕ

abbrev pub is_called : List ℕ → Variable → Bool
is_called name v = bytes_eq v.name name

-- the text that stands for a name
abbrev pub text_of : List Variable → List ℕ → Option (List ℕ)
text_of variables name = option_map (λ (v : Variable). v.text) (find (is_called name) variables)

-- the text stands for the name, in place of the one before
abbrev pub with_text : List ℕ → List ℕ → List Variable → List Variable
with_text name text [] = record { name = name; text = text } ∷ []
with_text name text (v ∷ vs) =
    if is_called name v then record { name = name; text = text } ∷ vs else v ∷ with_text name text vs
