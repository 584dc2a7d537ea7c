use Rattle.std.proofs.Common.{◌≡◌, take}
use Rattle.posting.proofs.draft.copy_effects.Given as goal

abbrev pub invariant-loop-effect : goal.invariant-loop-effect
invariant-loop-effect l = l.copies.items ≡ take l.effect-index l.effects
