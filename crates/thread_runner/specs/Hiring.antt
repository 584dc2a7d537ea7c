-- The actors of a run before their work, and behind it.
use Rattle.std.specs.Prelude.{◌≡◌, ◌≤◌, List, [], ◌∷◌, length, map, None, is_some, IsTrue}
use Rattle.std.specs.List.{AllByRecursion}
use Rattle.std.specs.List.Sorted.{IsPermutation}
use Rattle.hall_model.specs.declared.command.PastEntry.{PastEntry}
use Rattle.hall_model.specs.declared.command.Who.{Who}
use Rattle.number_ranges.specs.declared.interval.Interval.{Interval}
use Rattle.script_actors.specs.Actors.{Land}
use Rattle.script_actors.specs.declared.line.NumberedLine.{NumberedLine}
use Rattle.actor_threads.specs.declared.actor.Actor.{Actor}
use Rattle.actor_threads.specs.Working.{IsFresh}
use Rattle.actor_threads.specs.declared.actor.Deed.{Deed}
use Rattle.caller_laws.specs.Doing.{Did, IsThread, Left, Thread, entries_of}
use Rattle.enq_base.specs.declared.condition.Readings.{Readings}
use Rattle.gauges.specs.Boards.{seen}
use Rattle.gauges.specs.declared.board.GaugePass.{GaugePass}
use Rattle.turn_desks.specs.Stocks.{StockFact}
use Rattle.turn_desks.specs.declared.names.LockName.{Ghosts as Names}
use Rattle.turn_desks.specs.declared.serving.Serving.{Ghosts as Stocks}
use Rattle.turn_lock.specs.declared.history.History.{Ghosts}
use Rattle.turn_lock.specs.declared.view.View.{View}
use Rattle.turn_lock.specs.Rule.{own_entries}

-- ---- before their work

module _ {N S R G : Type 0} {n : Names N} {s : Stocks S} {g : Ghosts S PastEntry} where
  -- an actor of this caller that made no call
  pub record IsHired (stocks : List StockFact) (intervals : List Interval) (lines : List NumberedLine) (w : Who)
      (a : Actor N S R G n s g) : Type 0 where
    pub who : a.who ≡ w
    pub fresh : IsFresh stocks intervals lines a
    pub none_full : a.desk.caller.notes.full_at ≡ None

  -- an actor of each of these callers, in their order
  abbrev pub AreHired : List StockFact → List Interval → List NumberedLine → List Who → List (Actor N S R G n s g)
      → Type 0
  AreHired stocks intervals lines [] actors = actors ≡ []
  AreHired stocks intervals lines (w ∷ ws) [] = ⊥
  AreHired stocks intervals lines (w ∷ ws) (a ∷ rest) = IsHired stocks intervals lines w a
      × AreHired stocks intervals lines ws rest

-- ---- behind it, at the lock

-- what an actor looked at the gauges with, and what it saw there
abbrev pub glance_of : Deed → GaugePass
glance_of d = d.glanced.value

abbrev pub looks_of : Deed → List Readings
looks_of d = seen (glance_of d)

abbrev pub left_of : Deed → Left
left_of d = record { said = d.said; drawn = d.drawn.items; rests = d.rests; looks = looks_of d }

-- where an actor found the history full, it is as long as it may be
abbrev pub IsLong : List PastEntry → Deed → Type 0
IsLong past d = IsTrue (is_some d.full_at) → 262144 ≤ length past

-- what is kept of a thread once its pass is gone
pub record IsKeptOf (log : List PastEntry) (t : Thread) (d : Deed) : Type 0 where
  pub who : d.who ≡ t.who
  pub left : left_of d ≡ t.left
  pub full_at : d.full_at ≡ t.now.full_at
  pub long : IsLong log d

-- of each of them, in their order
abbrev pub AreKept : List PastEntry → List Thread → List Deed → Type 0
AreKept log [] [] = Unit {0}
AreKept log [] (d ∷ ds) = ⊥
AreKept log (t ∷ ts) [] = ⊥
AreKept log (t ∷ ts) (d ∷ ds) = IsKeptOf log t d × AreKept log ts ds

abbrev pub callers_in : List Thread → List Who
callers_in threads = map (λ (t : Thread). t.who) threads

-- The pass has the calls of all these callers' threads, and has seen what each of them has.
pub record HasGathered {S : Type 0} (past : S → List PastEntry) (land : Land) (lines : List NumberedLine)
    (callers : List Who)
    (v : View PastEntry) (deeds : List Deed) : Type 0 where
  pub threads : List Thread
  pub who : callers ≡ callers_in threads
  pub each : AllByRecursion (IsThread past land lines v.seen) threads
  pub entries : IsPermutation (entries_of threads) (own_entries v)
  pub kept : AreKept v.seen threads deeds

-- ---- behind it, as the history has it

-- what an actor has done
pub record DidDeed (land : Land) (lines : List NumberedLine) (past : List PastEntry) (d : Deed) : Type 0 where
  pub did : Did land lines past d.who (left_of d) d.full_at
  pub long : IsLong past d

-- what each of these callers has done, in their order
pub record AreDone (land : Land) (lines : List NumberedLine) (callers : List Who) (past : List PastEntry)
    (deeds : List Deed) : Type 0 where
  pub who : map (λ (d : Deed). d.who) deeds ≡ callers
  pub did : AllByRecursion (DidDeed land lines past) deeds
