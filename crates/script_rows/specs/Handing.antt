-- What a link of the cases hands over.
use Rattle.std.specs.Prelude.{◌≡◌, ℕ, ◌-◌, List, [], ◌∷◌, ◌++◌, length, reverse, take, Option, Some, None, IfSome, refl}
use Rattle.lock_entry.specs.declared.entry.Entry.{Entry}
use Rattle.enq_base.specs.Causes.{Rose}
use Rattle.replica_link.specs.declared.fault.LinkFault.{LinkFault}
use Rattle.replica_link.specs.declared.fault.LinkFault.TheVariants as fault
use Rattle.script_rows.specs.declared.links.Hands.{Hands}
use Rattle.script_rows.specs.declared.links.Hands.TheVariants.{All, Fewer, Twice, Backwards}

-- the list that is handed over, of the one that the replica has
abbrev pub handed : Hands → List Entry → List Entry
handed All list = list
handed Fewer list = take (length list - 1) list
handed Twice [] = []
handed Twice (e ∷ list) = (e ∷ list) ++ e ∷ []
handed Backwards list = reverse list

-- one that hands over what it has tells it
abbrev pub told : Hands → List Entry → Option (List Entry)
told All list = Some list
told Fewer list = None
told Twice list = None
told Backwards list = None

pub tells_what_it_gives : (hands : Hands) (list : List Entry) → IfSome (told hands list) (λ l. handed hands list ≡ l)
tells_what_it_gives All list = refl
tells_what_it_gives Fewer list = tt
tells_what_it_gives Twice list = tt
tells_what_it_gives Backwards list = tt

-- the count of the fault has risen
abbrev pub HasCounted : LinkFault → (faults faults_now refusals refusals_now : ℕ) → Type 0
HasCounted fault.Failed faults faults_now refusals refusals_now = Rose faults faults_now
HasCounted fault.NoMemory faults faults_now refusals refusals_now = Rose refusals refusals_now
