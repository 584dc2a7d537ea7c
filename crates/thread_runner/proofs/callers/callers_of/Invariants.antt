use Rattle.std.proofs.Common.{◌≡◌, ◌∷◌, ◌++◌, map, take}
use Rattle.hall_model.specs.declared.command.Who.TheVariants as caller
use Rattle.caller_laws.specs.Callers.{workers_to}
use Rattle.thread_runner.proofs.callers.callers_of.Given as goal

abbrev pub invariant-loop-name : goal.invariant-loop-name
invariant-loop-name l = l.callers.items ≡ map (λ name. caller.Session name) (take l.name-index l.names)

abbrev pub invariant-loop-worker : goal.invariant-loop-worker
invariant-loop-worker l = l.callers.items ≡ map (λ name. caller.Session name) l.names ++ caller.Admin ∷ workers_to l.worker
