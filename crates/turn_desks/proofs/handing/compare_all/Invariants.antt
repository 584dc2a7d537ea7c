use Rattle.turn_desks.proofs.HandingOver.{Compared}
use Rattle.turn_desks.proofs.handing.compare_all.Given as goal

abbrev pub invariant-loop-place : goal.invariant-loop-place
invariant-loop-place l = record { so_far : Compared l.stocks l.place l.fn.rights l.fn.seats l.rights l.seats }
