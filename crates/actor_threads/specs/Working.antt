-- What the actors of a run's threads did.
use Rattle.std.specs.Prelude.{◌≡◌, ◌≤◌, true, List, [], ◌∷◌, ◌++◌, length, map, is_some, IsTrue}
use Rattle.hall_model.specs.declared.command.PastEntry.{PastEntry}
use Rattle.number_ranges.specs.declared.interval.Interval.{Interval}
use Rattle.number_stock.specs.declared.seat.StockSeat.{StockSeat}
use Rattle.script_actors.specs.Actors.{HasEnough, Land}
use Rattle.script_actors.specs.Drawings.{drawn_at, number_in}
use Rattle.script_actors.specs.declared.drawing.Drawing.{Drawing}
use Rattle.script_actors.specs.declared.line.NumberedLine.{NumberedLine}
use Rattle.caller_laws.specs.Doing.{DidAs, Known, Left}
use Rattle.gauges.specs.Boards.{seen}
use Rattle.actor_threads.specs.declared.actor.Actor.{Actor}
use Rattle.actor_threads.specs.declared.actor.Deed.{Deed}
use Rattle.turn_desks.specs.Stocks.{AreSeatsAt, StockFact, are_of_stocks, draws_of, drawn_of, left_in, numbered}
use Rattle.turn_desks.specs.Stocks.{numbers_by}
use Rattle.turn_desks.specs.Weaving.{Noted, desk_entries, noted}
use Rattle.turn_desks.specs.declared.names.LockName.{Ghosts as Names}
use Rattle.turn_desks.specs.declared.serving.Serving.{Ghosts as Stocks}
use Rattle.turn_lock.specs.declared.history.History.{Ghosts}
use Rattle.turn_lock.specs.Passes.{known}
use Rattle.turn_lock.specs.Rule.{own_entries}

-- the numbers that these drawings gave, each with its line
abbrev pub drawn_told : List Noted → List Drawing
drawn_told [] = []
drawn_told (n ∷ ns) = map (drawn_at n.line) (number_in n.object n.nr n.reply) ++ drawn_told ns

module _ {N S R G : Type 0} {n : Names N} {s : Stocks S} {g : Ghosts S PastEntry} where
  abbrev pub known_to : Actor N S R G n s g → Known
  known_to a = record {
    view = known a.desk.caller.pass;
    entries = desk_entries a.desk.drawn.items (known a.desk.caller.pass);
    full_at = a.desk.caller.notes.full_at;
  }

  -- It made no call and drew no number yet. Its seats have as many draws as its lines ask for.
  pub record IsFresh (stocks : List StockFact) (intervals : List Interval) (lines : List NumberedLine)
      (a : Actor N S R G n s g) : Type 0 where
    pub none : (known a.desk.caller.pass).own ≡ []
    pub undrawn : a.desk.drawn.items ≡ []
    pub own : a.desk.caller.who ≡ a.who
    pub enough : HasEnough intervals a.who lines (left_in stocks (draws_of a.desk.seats.items))

  abbrev pub left_by : Actor N S R G n s g → Left
  left_by a = record {
    said = a.said;
    drawn = drawn_told (map noted a.desk.drawn.items);
    rests = a.rests;
    looks = seen a.glance.pass;
  }

  -- an actor did its work
  pub record HasWorked (past : S → List PastEntry) (land : Land) (lines : List NumberedLine)
      (before after : Actor N S R G n s g) : Type 0 where
    pub who : after.who ≡ before.who
    pub did : DidAs past land lines before.who (left_by after) (known_to before) (known_to after)

  -- the entries of all of them, one behind the other
  abbrev pub entries_in : List (Actor N S R G n s g) → List PastEntry
  entries_in [] = []
  entries_in (a ∷ rest) = own_entries (known a.desk.caller.pass) ++ entries_in rest

  -- What is kept of an actor once its pass is gone. Where it found the history full, what it had seen then is as long
  -- as a history may be.
  pub record IsDeedOf (a : Actor N S R G n s g) (d : Deed) : Type 0 where
    pub who : d.who ≡ a.who
    pub said : d.said ≡ a.said
    pub drawn : d.drawn.items ≡ drawn_told (map noted a.desk.drawn.items)
    pub rests : d.rests ≡ a.rests
    pub full_at : d.full_at ≡ a.desk.caller.notes.full_at
    pub glanced : d.glanced.value ≡ a.glance.pass
    pub full : IsTrue (is_some d.full_at) → 262144 ≤ length (known a.desk.caller.pass).seen

  -- these are the deeds of the actors, the last of them first
  abbrev pub AreDeeds : List (Actor N S R G n s g) → List Deed → Type 0
  AreDeeds [] deeds = deeds ≡ []
  AreDeeds (a ∷ rest) deeds = (earlier : List Deed) × (d : Deed) × (deeds ≡ earlier ++ d ∷ []) × IsDeedOf a d
      × AreDeeds rest earlier

-- ---- the seats that it leaves

-- What the seats of an actor remember are the numbers of its deed, stock by stock.
pub record AreSeatsOf (stocks : List StockFact) (d : Deed) (seats : List StockSeat) : Type 0 where
  pub own : AreSeatsAt stocks seats
  pub numbers : numbers_by stocks (map (λ (x : Drawing). x.num) d.drawn.items) ≡ numbered stocks (drawn_of seats)
  pub known : are_of_stocks stocks (map (λ (x : Drawing). x.num) d.drawn.items) ≡ true

-- of each of them, in their order
abbrev pub AllSeats : List StockFact → List Deed → List (List StockSeat) → Type 0
AllSeats stocks [] [] = Unit {0}
AllSeats stocks [] (x ∷ xs) = ⊥
AllSeats stocks (d ∷ ds) [] = ⊥
AllSeats stocks (d ∷ ds) (x ∷ xs) = AreSeatsOf stocks d x × AllSeats stocks ds xs
