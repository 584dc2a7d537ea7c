use Rattle.std.proofs.Common.{◌≡◌, map, take}
use Rattle.script_runner.specs.Lines.{request_in}
use Rattle.script_runner.proofs.requests.in_scope.Given as goal

abbrev pub invariant-loop-one : goal.invariant-loop-one
invariant-loop-one l = l.requests.items ≡ map (request_in l.scope) (take l.one-index l.asked)
