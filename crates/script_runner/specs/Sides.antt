-- The private sides of the sessions.
use Rattle.std.specs.Prelude.{ℕ, Bool, not, List, [], ◌∷◌, ◌++◌, IsTrue, Option, is_some}
use Rattle.std.specs.List.{AllByRecursion, find, filter}
use Rattle.std.specs.Option.{option_map_or}
use Rattle.std.specs.Str.{bytes_eq}
use Rattle.enq_base.specs.declared.unit.Parts.{Parts}
use Rattle.dialogue_session.specs.Private.{DialogueView, Private, fresh}
use Rattle.dialogue_session.specs.declared.variables.Variable.{Variable}
use Rattle.hall_model.specs.Sessions.{session_at}
use Rattle.hall_model.specs.declared.command.Session.{Session}
use Rattle.lock_entry.specs.Freeing.{replace_first}
use Rattle.lock_entry.specs.declared.entry.Request.{Request}

-- what the private sides are seen as: those that there are, the same with the room of each for variables, and for how
-- many sides more there is room
pub record SidesView : Type 0 where
  pub items : List Private
  pub dialogues : List DialogueView
  pub room : ℕ

abbrev pub is_side_of : List ℕ → Private → Bool
is_side_of name p = bytes_eq p.session name

abbrev pub side_of : List Private → List ℕ → Option Private
side_of sides name = find (is_side_of name) sides

-- the variables of a session
abbrev pub variables_of : List Private → List ℕ → List Variable
variables_of sides name = option_map_or (λ (p : Private). p.variables) (side_of sides name) []

-- what the session has collected
abbrev pub container_of : List Private → List ℕ → List Request
container_of sides name = option_map_or (λ (p : Private). p.container) (side_of sides name) []

-- the effects of a session's unit
abbrev pub parts_in : Private → Parts
parts_in p = record { v1 = p.v1; v2 = p.v2 }

-- what the session has registered
abbrev pub parts_of : List Private → List ℕ → Parts
parts_of sides name = option_map_or parts_in (side_of sides name) (record { v1 = []; v2 = [] })

-- the session of each side is logged on
abbrev pub AreLoggedOn : List Session → List Private → Type 0
AreLoggedOn sessions sides = AllByRecursion (λ p. IsTrue (is_some (session_at sessions p.session))) sides

-- for how many more variables the session has room
abbrev pub variable_room : SidesView → List ℕ → ℕ
variable_room sides name =
    option_map_or (λ (d : DialogueView). d.room) (find (λ d. is_side_of name d.side) sides.dialogues) 0

-- the sides, with that of this session changed
abbrev pub with_side : List ℕ → (Private → Private) → List Private → List Private
with_side name change sides = replace_first (is_side_of name) (λ p. change p ∷ []) sides

abbrev pub without_side : List ℕ → List Private → List Private
without_side name sides = filter (λ p. not (is_side_of name p)) sides

abbrev pub with_new_side : List ℕ → List Private → List Private
with_new_side name sides = sides ++ fresh name ∷ []
