-- What lines are answered beside the history of threads.
use Rattle.std.specs.Prelude.{ℕ, Bool, nat_eq, nat_le, List, [], ◌∷◌, ◌++◌, map, Option, Some, None}
use Rattle.std.specs.List.{filter}
use Rattle.std.specs.List.Sorted.{IsNonDecreasingBy, IsPermutation}
use Rattle.enq_base.specs.declared.refusal.Refusal.TheVariants as refusal
use Rattle.actor_threads.specs.declared.actor.Deed.{Deed}
use Rattle.hall_model.specs.declared.command.Reply.TheVariants as reply
use Rattle.hall_model.specs.declared.command.Who.{Who}
use Rattle.hall_model.specs.declared.command.Who.TheVariants as caller
use Rattle.script_actors.specs.Actors.{lines_of_actor, saying}
use Rattle.script_actors.specs.declared.actor.Said.{Said}
use Rattle.script_actors.specs.declared.line.NumberedLine.{NumberedLine}

-- Where the history was full, the line that found it so is answered so, and each later line of a session.
abbrev pub is_full_line : Who → ℕ → NumberedLine → Bool
is_full_line (caller.Session s) n l = nat_le n l.number
is_full_line w n l = nat_eq n l.number

abbrev pub full_said : List NumberedLine → Who → Option ℕ → List Said
full_said lines w None = []
full_said lines w (Some n) =
    map (λ (l : NumberedLine). saying l.number (reply.Refused refusal.LogFull))
    (filter (is_full_line w n) (lines_of_actor w lines))

abbrev pub said_in : Option (List Said) → List Said
said_in None = []
said_in (Some said) = said

-- what an actor's lines are answered: those that come to no call, and those that found the history full
abbrev pub answers_of : List NumberedLine → Who → Option (List Said) → Option ℕ → List Said
answers_of lines w said full_at = said_in said ++ full_said lines w full_at

-- those of all threads, the last one's deed first
abbrev pub answers_in : List NumberedLine → List Deed → List Said
answers_in lines [] = []
answers_in lines (d ∷ ds) = answers_in lines ds ++ answers_of lines d.who d.said d.full_at

-- these, in the order of the lines
pub record AreInOrder (all said : List Said) : Type 0 where
  pub same : IsPermutation all said
  pub ordered : IsNonDecreasingBy (λ (x : Said). x.line) said
