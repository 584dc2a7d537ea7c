use Rattle.remote_sending.proofs.Reading.{ReadSoFar}
use Rattle.remote_sending.proofs.outbox.calls_in.Given as goal

abbrev pub invariant-loop-i : goal.invariant-loop-i
invariant-loop-i l = ReadSoFar l.rows l.i l.calls.items
