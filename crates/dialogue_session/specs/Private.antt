-- What a session keeps to itself.
use Rattle.std.specs.Prelude.{ℕ, ◌+◌, nat_eq, List, [], ◌∷◌, ◌++◌, length, if◌then◌else◌, Result, Ok, Err}
use Rattle.enq_base.specs.declared.unit.Effect.{Effect}
use Rattle.enq_base.specs.declared.refusal.Refusal.{Refusal}
use Rattle.enq_base.specs.declared.refusal.Refusal.TheVariants as refusal
use Rattle.lock_collector.specs.declared.collector.CollectFault.{CollectFault}
use Rattle.lock_collector.specs.declared.collector.CollectFault.TheVariants.{Full, NoMemory}
use Rattle.lock_entry.specs.declared.entry.Request.{Request}
use Rattle.dialogue_session.specs.Variables.{with_text}
use Rattle.dialogue_session.specs.declared.variables.Variable.{Variable}

-- a session's variables, its effects for the V1 part and for the V2 part of its unit, and the container of its requests
pub record Private : Type 0 where
  pub session : List ℕ
  pub variables : List Variable
  pub v1 : List Effect
  pub v2 : List Effect
  pub container : List Request

-- what a session's side is seen as: what it keeps, and for how many more variables there is room
pub record DialogueView : Type 0 where
  pub side : Private
  pub room : ℕ

-- of a session that has just logged on
abbrev pub fresh : List ℕ → Private
fresh session = record { session = session; variables = []; v1 = []; v2 = []; container = [] }

abbrev pub effect_count : Private → ℕ
effect_count p = length p.v1 + length p.v2

-- one more effect, for the V1 part or else for the V2 part
abbrev pub with_effect : ℕ → Effect → Private → Private
with_effect part effect p =
    if nat_eq part 1 then record p { v1 = p.v1 ++ effect ∷ [] } else record p { v2 = p.v2 ++ effect ∷ [] }

-- more requests in the container
abbrev pub with_requests : List Request → Private → Private
with_requests requests p = record p { container = p.container ++ requests }

-- the text stands for the name of a variable
abbrev pub with_variable : List ℕ → List ℕ → Private → Private
with_variable name text p = record p { variables = with_text name text p.variables }

abbrev pub without_effects : Private → Private
without_effects p = record p { v1 = []; v2 = [] }

abbrev pub without_requests : Private → Private
without_requests p = record p { container = [] }

-- how the container's answer is told
abbrev pub refused : Result Unit CollectFault → Result Unit Refusal
refused (Ok done) = Ok done
refused (Err (Full most)) = Err refusal.ContainerFull
refused (Err NoMemory) = Err refusal.NoMemory
