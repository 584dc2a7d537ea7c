-- Who makes which calls of a history.
use Rattle.std.specs.Prelude.{◌≡◌, ℕ, zero, suc, Bool, false, List, [], ◌∷◌, ◌++◌, map, IsTrue}
use Rattle.std.specs.List.{AllByRecursion, filter, list_any}
use Rattle.hall_model.specs.Calls.{who_of}
use Rattle.hall_model.specs.declared.command.PastEntry.{PastEntry}
use Rattle.hall_model.specs.declared.command.Who.{Who}
use Rattle.hall_model.specs.declared.command.Who.TheVariants as caller
use Rattle.script_actors.specs.Doers.{is_same}
use Rattle.script_actors.specs.declared.line.NumberedLine.{NumberedLine}
use Rattle.whole_script.specs.Lines.{names_in}

abbrev pub is_by : Who → PastEntry → Bool
is_by w e = is_same w e.who

-- a caller's calls, in the order of the history
abbrev pub entries_by : Who → List PastEntry → List PastEntry
entries_by w past = filter (is_by w) past

-- each call says who makes it
abbrev pub AreTheirs : List PastEntry → Type 0
AreTheirs past = AllByRecursion (λ (e : PastEntry). e.who ≡ who_of e.command) past

-- no two of these are the same
abbrev pub AreDistinct : List Who → Type 0
AreDistinct [] = Unit {0}
AreDistinct (w ∷ ws) = AllByRecursion (λ (x : Who). is_same w x ≡ false) ws × AreDistinct ws

-- each call is one of these callers'
abbrev pub AreAmong : List Who → List PastEntry → Type 0
AreAmong callers past = AllByRecursion (λ (e : PastEntry). IsTrue (list_any (λ (w : Who). is_by w e) callers)) past

-- ---- the threads of a script

-- the sessions that its lines name, and the administrator
abbrev pub actors_of : List NumberedLine → List Who
actors_of lines = map (λ (name : List ℕ). caller.Session name) (names_in lines) ++ caller.Admin ∷ []

abbrev pub workers_to : ℕ → List Who
workers_to zero = []
workers_to (suc n) = workers_to n ++ caller.Worker (suc n) ∷ []

-- and so many workers, last
abbrev pub threads_of : List NumberedLine → ℕ → List Who
threads_of lines workers = actors_of lines ++ workers_to workers
