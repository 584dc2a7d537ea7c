use Rattle.std.proofs.Common.{◌≡◌, map, take}
use Rattle.ledger_steps.specs.Views.{view_of}
use Rattle.posting.proofs.viewing.views_among.Given as goal

abbrev pub invariant-loop-unit : goal.invariant-loop-unit
invariant-loop-unit l = l.views.items ≡ map (view_of l.register.ledger) (take l.unit-index l.units)
