-- What each actor of a run is given before its work.
use Rattle.std.specs.Prelude.{◌≡◌, ◌≤◌, List, [], vec_capacity}
use Rattle.std.specs.List.{sum_by}
use Rattle.hall_model.specs.declared.command.PastEntry.{PastEntry}
use Rattle.number_ranges.specs.declared.interval.Interval.{Interval}
use Rattle.script_actors.specs.declared.line.NumberedLine.{NumberedLine}
use Rattle.turn_desks.specs.Stocks.{StockFact, draws_of}
use Rattle.turn_lock.specs.declared.history.History.{Ghosts}
use Rattle.thread_runner.specs.Stocking.{AreSeatsFor}
use Rattle.thread_runner.specs.declared.equipping.Kit.{Kit}

module _ {S : Type 0} {g : Ghosts S PastEntry} where
  -- seats for its caller, with room for a note of each drawing, and for their numbers
  pub record IsKitFor (intervals : List Interval) (facts : List StockFact) (lines : List NumberedLine)
      (k : Kit S g) : Type 0 where
    pub seats : AreSeatsFor intervals facts lines k.who k.seats.items
    pub empty : k.notes.items ≡ []
    pub room : sum_by (λ n. n) (draws_of k.seats.items) ≤ vec_capacity k.notes
    pub none : k.numbers.items ≡ []
    pub place : vec_capacity k.notes ≤ vec_capacity k.numbers
