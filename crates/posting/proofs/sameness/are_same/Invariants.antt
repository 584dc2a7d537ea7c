use Rattle.std.proofs.Common.{◌≡◌, take}
use Rattle.posting.proofs.sameness.are_same.Given as goal

abbrev pub invariant-loop-place : goal.invariant-loop-place
invariant-loop-place g l = take l.place l.a ≡ take l.place l.b
