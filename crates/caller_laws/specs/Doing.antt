-- What the thread of an actor does, as its pass knows it, and as the one history has it.
use Rattle.std.specs.Prelude.{◌≡◌, ◌&&◌, ℕ, Bool, false, List, [], ◌∷◌, ◌++◌, map, MatchBool, Option, Some, None}
use Rattle.std.specs.List.{AllByRecursion}
use mathlib.Core.List.{IsPrefix}
use Rattle.enq_base.specs.declared.condition.Readings.{Readings}
use Rattle.hall_model.specs.Calls.{call_of}
use Rattle.hall_model.specs.declared.command.PastEntry.{PastEntry}
use Rattle.hall_model.specs.declared.command.Who.{Who}
use Rattle.hall_model.specs.declared.command.Who.TheVariants as caller
use Rattle.order_laws.specs.Behind.{is_post, up_after}
use Rattle.order_workers.specs.Orders.{DidWork, Made, Rests, Stops, is_idle}
use Rattle.script_actors.specs.Actors.{AddsDone, AddsPart, DeskView, Land, full_after, is_full}
use Rattle.script_actors.specs.Drawings.{DeskEntry, calls_in, desk_call, drawn_in, with_call}
use Rattle.script_actors.specs.declared.actor.Said.{Said}
use Rattle.script_actors.specs.declared.drawing.Drawing.{Drawing}
use Rattle.script_actors.specs.declared.line.NumberedLine.{NumberedLine}
use Rattle.turn_desks.specs.Asking.{IsAsked}
use Rattle.turn_desks.specs.Parts.{IsPart}
use Rattle.turn_lock.specs.declared.view.View.{View}
use Rattle.turn_lock.specs.Rule.{own_entries}
use Rattle.caller_laws.specs.Callers.{entries_by, is_by}
use Rattle.caller_laws.specs.Seen.{AreSeen}

-- ---- as its pass knows it

-- What its pass knows, what its desk did where it has lines, and the line of its last call that found the history full.
pub record Known : Type 0 where
  pub view : View PastEntry
  pub entries : List DeskEntry
  pub full_at : Option ℕ

abbrev pub desk_seen : List DeskEntry → Option ℕ → DeskView
desk_seen entries full_at = record { entries = entries; full_at = full_at }

abbrev pub desk_known : Known → DeskView
desk_known k = desk_seen k.entries k.full_at

-- What an actor leaves: what its lines were answered whose answer isn't in the history, None where memory was wanting
-- for one, and of a worker; the numbers that they drew from stocks; whether a worker ended because nothing was left to
-- do; and what it saw of the counts of the server while it rested, as a worker does.
pub record Left : Type 0 where
  pub said : Option (List Said)
  pub drawn : List Drawing
  pub rests : Bool
  pub looks : List Readings

-- a call of a worker, in a turn of its own
pub record LeadsTurn {S : Type 0} (past : S → List PastEntry) (k : Known) (m : Made) (l : Known) : Type 0 where
  pub asked : IsAsked past 0 m.command m.reply m.is_up k.view l.view
  pub full_at : l.full_at ≡ full_after k.full_at 0 m.reply

-- what an actor has done with its lines
abbrev pub DidLines : Land → List NumberedLine → Who → Option (List Said) → DeskView → DeskView → Type 0
DidLines land lines w None a b = AddsPart land w lines a b
DidLines land lines w (Some said) a b = AddsDone land w lines a b said

-- An actor did its lines at a desk that had done nothing: the pass's own entries are the calls of it that the history
-- keeps.
pub record DidAtDesk (land : Land) (lines : List NumberedLine) (w : Who) (left : Left) (k l : Known) : Type 0 where
  pub fresh : k.entries ≡ []
  pub did : DidLines land lines w left.said (desk_known k) (desk_known l)
  pub calls : calls_in l.entries ≡ map desk_call (own_entries l.view)
  pub drawn : left.drawn ≡ drawn_in l.entries

-- what one of the threads has done
abbrev pub DidAs : {S : Type 0} → (S → List PastEntry) → Land → List NumberedLine → Who → Left → Known → Known → Type 0
DidAs past land lines (caller.Worker w) left k l = DidWork (LeadsTurn past) w left.rests k l
DidAs past land lines (caller.Session s) left k l = DidAtDesk land lines (caller.Session s) left k l
DidAs past land lines caller.Admin left k l = DidAtDesk land lines caller.Admin left k l

pub record Thread : Type 0 where
  pub who : Who
  pub left : Left
  pub began : Known
  pub now : Known

-- a thread that began with no calls did its work, and its calls stand in this history
pub record IsThread {S : Type 0} (past : S → List PastEntry) (land : Land) (lines : List NumberedLine)
    (log : List PastEntry) (t : Thread) : Type 0 where
  pub did : DidAs past land lines t.who t.left t.began t.now
  pub fresh : t.began.view.own ≡ []
  pub none_full : t.began.full_at ≡ None
  pub part : IsPart (own_entries t.now.view) t.now.view.seen
  pub begins : IsPrefix t.now.view.seen log

-- the calls of all of them, one behind the other
abbrev pub entries_of : List Thread → List PastEntry
entries_of [] = []
entries_of (t ∷ ts) = own_entries t.now.view ++ entries_of ts

-- ---- as the history has it

abbrev pub nothing_asked : DeskView
nothing_asked = desk_seen [] None

-- none of these calls found the history full
abbrev pub NoneFull : List Made → Type 0
NoneFull calls = AllByRecursion (λ (m : Made). is_full m.reply ≡ false) calls

-- a post that is answered that there is no unit to take
abbrev pub is_idle_post : Made → Bool
is_idle_post m = is_post (call_of m.command) && is_idle m.reply

abbrev pub NoIdlePosts : List Made → Type 0
NoIdlePosts calls = AllByRecursion (λ (m : Made). is_idle_post m ≡ false) calls

-- A worker's calls are those of its loop, and the history has them.
pub record WorkerDid (past : List PastEntry) (w : ℕ) (rests : Bool) (full_at : Option ℕ) : Type 0 where
  pub calls : List Made
  pub seen : AreSeen (λ (e : PastEntry). e) (is_by (caller.Worker w)) past calls
  pub ended : MatchBool rests (Rests w calls) (Stops w calls)
  pub full : full_at ≡ None → NoneFull calls
  pub posts : NoIdlePosts calls

-- An actor's calls are those of its lines, those among them by which numbers of a stock were reserved, and the numbers
-- that it drew are those that its lines drew.
pub record LinesDid (land : Land) (lines : List NumberedLine) (past : List PastEntry) (w : Who) (left : Left)
    (full_at : Option ℕ) : Type 0 where
  pub entries : List DeskEntry
  pub did : DidLines land lines w left.said nothing_asked (desk_seen entries full_at)
  pub calls : calls_in entries ≡ map desk_call (entries_by w past)
  pub drawn : left.drawn ≡ drawn_in entries

abbrev pub Did : Land → List NumberedLine → List PastEntry → Who → Left → Option ℕ → Type 0
Did land lines past (caller.Worker w) left full_at = WorkerDid past w left.rests full_at
Did land lines past (caller.Session s) left full_at = LinesDid land lines past (caller.Session s) left full_at
Did land lines past caller.Admin left full_at = LinesDid land lines past caller.Admin left full_at

-- ---- behind all threads

-- a history, and the line of a worker's last call that found it full
pub record Looked : Type 0 where
  pub past : List PastEntry
  pub full_at : Option ℕ

-- a call of a worker that nobody else makes calls beside
pub record LeadsAlone (k : Looked) (m : Made) (l : Looked) : Type 0 where
  pub told : map desk_call l.past ≡ with_call (map desk_call k.past) 0 m.command m.reply
  pub grew : IsPrefix k.past l.past
  pub up : m.is_up ≡ up_after l.past
  pub posts : is_idle_post m ≡ false
  pub full_at : l.full_at ≡ full_after k.full_at 0 m.reply
