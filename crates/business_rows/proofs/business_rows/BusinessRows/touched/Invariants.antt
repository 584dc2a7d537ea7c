use Rattle.std.proofs.Common.{take, IsTrue}
use Rattle.module_effects.specs.Spots.{Agree, covers}
use Rattle.business_rows.specs.Touched.{HasRowsOnce}
use Rattle.business_rows.proofs.business_rows.BusinessRows.touched.Given as goal

abbrev pub invariant-loop-effect : goal.invariant-loop-effect
invariant-loop-effect l = record {
  covered : IsTrue (covers l.spots.items (take l.effect-index l.effects));
  once : HasRowsOnce l.spots.items;
  present : Agree l.spots.items l.self.tables;
}
