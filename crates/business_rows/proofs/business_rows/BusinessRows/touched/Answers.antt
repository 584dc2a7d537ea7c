use Rattle.std.proofs.Common.{refl, sym, subst}
use Rattle.module_effects.specs.Spots.{Agree}
use Rattle.business_rows.specs.Touched.{HasRowsOnce}
use Rattle.business_rows.proofs.TouchedRows.{covers_more, no_rows, none_agree}
use Rattle.business_rows.proofs.business_rows.BusinessRows.touched.Goals as goal

pub loop-effect-init : goal.loop-effect-init
loop-effect-init c = record {
  covered = refl;
  once = subst HasRowsOnce (sym c.new-spots.ensures.items) no_rows;
  present = subst (λ ss. Agree ss c.args.self.now.tables) (sym c.new-spots.ensures.items) (none_agree c.args.self.now.tables);
}

pub loop-effect-preserved : goal.loop-effect-preserved
loop-effect-preserved c =
    let before = c.loop-effect.invariant in
    let now = c.in_ok-touch.ensures in
    record {
      covered = covers_more c.loop-effect.spots.items c.touch.new.spots.items c.args.effects.now c.loop-effect.effect-index c.effect-item.result
          c.loop-effect-test.true c.effect-item.is now.covered now.kept before.covered;
      once = now.once before.once;
      present = now.present before.present;
    }
