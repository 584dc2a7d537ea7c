use Rattle.std.proofs.Common.{◌≡◌, drop}
use Rattle.enq_base.specs.declared.owner.UnitKey.{UnitKey}
use Rattle.store_reading.specs.Standings.{counts_for}
use Rattle.store_reading.specs.Units.{counts_after, counts_at}
use Rattle.store_reading.proofs.counts.counts_of.Given as goal

abbrev pub invariant-loop-stored : goal.invariant-loop-stored
invariant-loop-stored l = (key : UnitKey) → counts_after key (counts_for l.counts key) (drop l.stored-index l.headers) ≡ counts_at l.headers key
