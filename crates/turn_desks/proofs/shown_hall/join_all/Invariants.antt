use Rattle.std.proofs.Common.{◌≡◌, ◌++◌, List, length}
use Rattle.std.specs.List.{AllByRecursion}
use Rattle.gauges.specs.Boards.{seen, told, IsReaderOf, IsWriterOf}
use Rattle.gauges.specs.declared.board.GaugePass.{GaugePass}
use Rattle.turn_desks.specs.Watching.{StandIn}
use Rattle.turn_desks.proofs.shown_hall.join_all.Given as goal

abbrev pub invariant-loop-pass : goal.invariant-loop-pass
invariant-loop-pass l = record {
  own : IsWriterOf l.gauges l.writer;
  same : told l.writer ≡ told l.fn.writer;
  readers : AllByRecursion (IsReaderOf l.gauges) l.passes.items;
  joined :
      (done : List GaugePass) × (l.fn.passes.items ≡ l.passes.items ++ done)
      × AllByRecursion (λ (p : GaugePass). StandIn (told l.fn.writer) (seen p)) done;
}

abbrev pub decreases-loop-pass : goal.decreases-loop-pass
decreases-loop-pass l = length l.passes.items
