use Rattle.std.proofs.Common.{◌≡◌, map, take}
use Rattle.ledger_steps.specs.Steps.{waiting_for}
use Rattle.ledger_steps.specs.Views.{locks_of}
use Rattle.posting.proofs.viewing.open_units.Given as goal
use Rattle.ledger_steps.specs.declared.part.Part.TheVariants.{V1}

abbrev pub invariant-loop-place : goal.invariant-loop-place
invariant-loop-place l = l.found.items ≡ map (locks_of l.register.ledger) (take l.place (waiting_for V1 l.register.ledger))
