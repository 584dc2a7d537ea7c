use Rattle.turn_desks.proofs.HandingOver.{HandedOver}
use Rattle.turn_desks.proofs.handing.hand_all.Given as goal

abbrev pub invariant-loop-place : goal.invariant-loop-place
invariant-loop-place l = record { so_far : HandedOver l.stocks l.place l.fn.rights l.fn.seats l.rights l.seats }
