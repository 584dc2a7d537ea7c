use Rattle.std.proofs.Common.{◌≡◌, ◌++◌, map, take, drop}
use Rattle.coverage.specs.Tallies.{turned}
use Rattle.coverage.proofs.session.turn_each.Given as goal

abbrev pub invariant-loop-tally : goal.invariant-loop-tally
invariant-loop-tally l = l.tallies ≡ map (turned l.line l.moved) (take l.tally-index l.initial.tallies) ++ drop l.tally-index l.initial.tallies
