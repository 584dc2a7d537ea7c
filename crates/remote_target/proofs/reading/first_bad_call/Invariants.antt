use Rattle.std.proofs.Common.{◌≡◌, [], take, drop}
use Rattle.remote_target.specs.Reading.{AreAllSpelled, AreSeen, first_bad_call}
use Rattle.remote_target.proofs.reading.first_bad_call.Given as goal

abbrev pub invariant-loop-i : goal.invariant-loop-i
invariant-loop-i l = record {
  seen : AreSeen l.seen (take l.i l.rows);
  same : first_bad_call l.stored (take l.i l.rows) (drop l.i l.rows) ≡ first_bad_call l.stored [] l.rows;
  spelled : AreAllSpelled (take l.i l.rows);
}
