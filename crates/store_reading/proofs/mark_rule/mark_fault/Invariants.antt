use Rattle.std.proofs.Common.{◌≡◌, ◌+◌, take, drop}
use Rattle.store_reading.specs.First.{first_wrong}
use Rattle.store_reading.specs.Rules.{is_right_mark, mark_fault}
use Rattle.store_reading.specs.Standings.{AreStatuses}
use Rattle.store_reading.proofs.mark_rule.mark_fault.Given as goal

abbrev pub invariant-loop-stored : goal.invariant-loop-stored
invariant-loop-stored l = record {
  place : l.row ≡ l.stored-index + 1;
  statuses : AreStatuses l.statuses l.headers (take l.stored-index l.marks);
  rest : first_wrong (is_right_mark l.start l.headers) 4 (take l.stored-index l.marks) (drop l.stored-index l.marks) ≡ mark_fault l.start l.headers l.marks;
}
