use Rattle.std.proofs.Common.{take}
use Rattle.thread_runner.specs.Looking.{NoneRests}
use Rattle.thread_runner.proofs.last_look.resting_place.Given as goal

abbrev pub invariant-loop-place : goal.invariant-loop-place
invariant-loop-place l = NoneRests (take l.place l.deeds)
