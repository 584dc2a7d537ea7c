use Rattle.std.proofs.Common.{take}
use Rattle.module_effects.specs.Spots.{Agree}
use Rattle.business_rows.proofs.business_rows.BusinessRows.has_all.Given as goal

abbrev pub invariant-loop-spot : goal.invariant-loop-spot
invariant-loop-spot l = Agree (take l.spot-index l.spots) l.self.tables
