use Rattle.std.proofs.Common.{◌≡◌, take}
use Rattle.coverage.specs.Tallies.{told_tallies}
use Rattle.coverage.proofs.session.tell_all.Given as goal

abbrev pub invariant-loop-tally : goal.invariant-loop-tally
invariant-loop-tally l = l.found.items ≡ told_tallies (take l.tally-index l.tallies) l.initial.found.items
